use Rattle.std.proofs.Common.{◌≡◌, ℕ, ◌<◌, ◌*◌, length, get_or}
use Rattle.lrc_field.specs.Field.{times}
use Rattle.lrc_coder.proofs.products.products.Given as goal

-- the products of half-bytes so far
abbrev pub invariant-loop-digit : goal.invariant-loop-digit
invariant-loop-digit l = record {
  low_long : length l.low ≡ 16;
  high_long : length l.high ≡ 16;
  low : (k : ℕ) → k < l.digit → get_or l.low k 0 ≡ times l.coefficient k;
  high : (k : ℕ) → k < l.digit → get_or l.high k 0 ≡ times l.coefficient (16 * k);
}

-- the products of bytes so far
abbrev pub invariant-loop-byte : goal.invariant-loop-byte
invariant-loop-byte l = record {
  long : length l.products ≡ 256;
  done : (k : ℕ) → k < l.byte → get_or l.products k 0 ≡ times l.coefficient k;
}
