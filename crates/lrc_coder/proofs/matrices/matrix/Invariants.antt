use Rattle.std.proofs.Common.{◌≡◌, ℕ, ◌/◌, ◌%◌, ◌<◌, ◌≤◌, length, get_or}
use Rattle.lrc_code.specs.Codes.{data_count}
use Rattle.lrc_field.specs.Stripes.{generator}
use Rattle.lrc_coder.proofs.matrices.matrix.Given as goal

-- the coefficients so far, and zeros
abbrev pub invariant-loop-index : goal.invariant-loop-index
invariant-loop-index l = record {
  long : length l.matrix ≡ 192;
  entries : (i : ℕ) → i < l.index → get_or l.matrix i 0 ≡ generator l.fn.code (i / data_count l.fn.code) (i % data_count l.fn.code);
  rest : (i : ℕ) → l.index ≤ i → get_or l.matrix i 0 ≡ 0;
}
