use Rattle.std.proofs.Common.{◌≡◌, ◌≤◌, ◌+◌, nat_eq, drop}
use Rattle.std.specs.Set.{distinct_count}
use Rattle.lrc_warnings.proofs.domains.count_different.Given as goal

-- those counted so far, and those that are left
abbrev pub invariant-loop-place : goal.invariant-loop-place
invariant-loop-place l = record {
  counted : l.count + distinct_count nat_eq (drop l.place l.numbers) ≡ distinct_count nat_eq l.numbers;
  few : l.count ≤ l.place;
}
