use Rattle.std.proofs.Common.{◌≡◌, take, drop, map, length, replicate}
use Rattle.lrc_records.proofs.repair.numbers_of.Given as goal

abbrev pub invariant-loop-i : goal.invariant-loop-i
invariant-loop-i l = record {
  written : take l.i l.numbers ≡ map (λ f. f.value) (take l.i l.fragments);
  rest : drop l.i l.numbers ≡ drop l.i (replicate 6 0);
  six : length l.numbers ≡ 6;
}
