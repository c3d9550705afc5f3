use Rattle.std.proofs.Common.{◌≡◌, take, map, length}
use Rattle.lrc_records.proofs.repair.read_fragments.Given as goal

abbrev pub invariant-loop-i : goal.invariant-loop-i
invariant-loop-i g l = record {
  written : map (λ f. f.value) (take l.i l.fragments) ≡ take l.i l.numbers;
  long : length l.fragments ≡ g.row.N;
}
