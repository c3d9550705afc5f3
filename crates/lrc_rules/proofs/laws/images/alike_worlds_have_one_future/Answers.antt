use Rattle.lrc_rules.proofs.AlikeReplyLemmas.{alike-reply}
use Rattle.lrc_rules.proofs.AlikeWorldLemmas.{twins, twins-legal, worlds-twins}
use Rattle.lrc_rules.proofs.laws.images.alike_worlds_have_one_future.Goals as goal

pub returns-clause-reply : goal.returns-clause-reply
returns-clause-reply c =
    λ nodes w v session command known seated seated' alike same. alike-reply nodes known w.state v.state alike seated seated' w.past v.past same session command

pub returns-clause-legal : goal.returns-clause-legal
returns-clause-legal c =
    λ nodes w v history known seated seated' alike same. twins-legal nodes known w v history (twins nodes w v seated seated' alike same)

pub returns-clause-after : goal.returns-clause-after
returns-clause-after c =
    λ nodes w v history known seated seated' alike same.
    let after = worlds-twins nodes known w v history (twins nodes w v seated seated' alike same) in (after.alike, after.counts)
