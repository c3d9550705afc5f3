use Rattle.std.proofs.Common.{codes, string_bytes}
use Rattle.lrc_show.specs.Facts.{seat_lines}
use Rattle.lrc_show.proofs.StatusLemmas.{row-join}
use Rattle.lrc_show.proofs.status.push_seat_values.Goals as goal

pub returns : goal.returns
unfolding seat_lines
returns c =
    let old = string_bytes c.args.out.now in
    let two = row-join old _ (codes "held_seats") _ _ _ _ c.in_ok-push_value.ensures c.in_ok-push_value-2.ensures c.sum_loads.ensures in
    row-join old _ (codes "slots") _ _ _ _ two c.in_ok-push_value-3.ensures c.sum_slots.ensures
