use Rattle.lrc_rules.specs.Histories.{world_from}
use Rattle.lrc_rules.proofs.AlikeWorldLemmas.{twins, worlds-seated, parts-legal, parts-twins}
use Rattle.lrc_rules.proofs.laws.images.images_lose_nothing.Goals as goal

pub returns-clause-legal : goal.returns-clause-legal
returns-clause-legal c =
    λ nodes base image before later known seated seated' alike same.
    parts-legal nodes known base image before later
    (twins nodes (world_from nodes base before) image (worlds-seated nodes known base before seated) seated' alike same)

pub returns-clause-after : goal.returns-clause-after
returns-clause-after c =
    λ nodes base image before later known seated seated' alike same.
    let after = parts-twins nodes known base image before later
    (twins nodes (world_from nodes base before) image (worlds-seated nodes known base before seated) seated' alike same) in (after.alike, after.counts)
