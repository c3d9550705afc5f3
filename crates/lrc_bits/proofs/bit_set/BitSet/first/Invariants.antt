use Rattle.std.proofs.Common.{◌≡◌, ℕ, ◌*◌, ◌<◌, ◌≤◌, false}
use Rattle.lrc_bits.specs.Flags.{flag}
use Rattle.lrc_bits.proofs.bit_set.BitSet.first.Given as goal

abbrev pub invariant-loop-i : goal.invariant-loop-i
invariant-loop-i g l = (j : ℕ) → 0 ≤ j → j < 64 * l.i → flag l.self-inside.words j ≡ false
