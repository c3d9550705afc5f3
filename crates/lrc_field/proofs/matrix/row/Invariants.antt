use Rattle.std.proofs.Common.{◌≡◌, ℕ, ◌<◌, ◌≤◌, get_or, length}
use Rattle.lrc_field.specs.Stripes.{generator}
use Rattle.lrc_field.proofs.matrix.row.Given as goal

-- the coefficients so far, and zeros
abbrev pub invariant-loop-number : goal.invariant-loop-number
invariant-loop-number l = record {
  long : length l.row ≡ 12;
  entries : (d : ℕ) → d < l.number → get_or l.row d 0 ≡ generator l.fn.code l.fn.fragment.value d;
  rest : (d : ℕ) → l.number ≤ d → get_or l.row d 0 ≡ 0;
}
