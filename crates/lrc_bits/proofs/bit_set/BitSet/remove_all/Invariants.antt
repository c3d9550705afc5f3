use Rattle.std.proofs.Common.{◌≡◌, ℕ, ◌-◌, ◌^◌, ◌<◌, ◌≤◌, get_or, bit_and, length}
use Rattle.lrc_bits.proofs.bit_set.BitSet.remove_all.Given as goal

abbrev pub invariant-loop-i : goal.invariant-loop-i
invariant-loop-i g l = record {
  long : length l.self-inside.words ≡ length l.initial.self-inside.words;
  done : (j : ℕ) → j < l.i
      → get_or l.self-inside.words j 0 ≡ bit_and (get_or l.initial.self-inside.words j 0) (2 ^ 64 - 1 - get_or l.other-inside.words j 0);
  fits : (j : ℕ) → j < l.i → get_or l.other-inside.words j 0 < 2 ^ 64;
  left : (j : ℕ) → l.i ≤ j → get_or l.self-inside.words j 0 ≡ get_or l.initial.self-inside.words j 0;
}
