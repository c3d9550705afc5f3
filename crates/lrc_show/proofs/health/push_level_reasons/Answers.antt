use Rattle.std.proofs.Common.{string_bytes}
use Rattle.lrc_show.specs.Reasons.{level_reasons}
use Rattle.lrc_show.proofs.StatusLemmas.{join}
use Rattle.lrc_show.proofs.health.push_level_reasons.Goals as goal

pub returns-clause-text : goal.returns-clause-text
unfolding level_reasons
returns-clause-text c =
    let old = string_bytes c.args.out.now in
    let two = join old _ _ _ _ c.in_ok-push_level.ensures.text c.in_ok-push_level-2.ensures.text in
    let three = join old _ _ _ _ two c.in_ok-push_level-3.ensures.text in
    let four = join old _ _ _ _ three c.in_ok-push_level-4.ensures.text in
    join old _ _ _ _ four c.in_ok-push_level-5.ensures.text
