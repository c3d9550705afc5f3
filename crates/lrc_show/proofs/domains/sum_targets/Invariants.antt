use Rattle.std.proofs.Common.{◌≡◌, ◌*◌, ◌≤◌, take}
use Rattle.lrc_show.specs.Facts.{target_sum}
use Rattle.lrc_show.proofs.domains.sum_targets.Given as goal

abbrev pub invariant-loop-member : goal.invariant-loop-member
invariant-loop-member l = record {
  so_far : l.total ≡ target_sum l.leases (take l.member-index l.members);
  few : l.total ≤ l.member-index * 18446744073709551616;
}
