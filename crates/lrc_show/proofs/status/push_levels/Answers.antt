use Rattle.std.proofs.Common.{string_bytes}
use Rattle.lrc_show.specs.Facts.{level_lines}
use Rattle.lrc_show.proofs.StatusLemmas.{join}
use Rattle.lrc_show.proofs.status.push_levels.Goals as goal

pub returns : goal.returns
unfolding level_lines
returns c =
    let old = string_bytes c.args.out.now in
    let two = join old _ _ _ _ c.in_ok-push_level.ensures c.in_ok-push_level-2.ensures in
    let three = join old _ _ _ _ two c.in_ok-push_level-3.ensures in
    let four = join old _ _ _ _ three c.in_ok-push_level-4.ensures in
    let five = join old _ _ _ _ four c.in_ok-push_level-5.ensures in
    join old _ _ _ _ five c.in_ok-push_level-6.ensures
