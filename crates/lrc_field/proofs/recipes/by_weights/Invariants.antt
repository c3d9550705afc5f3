use Rattle.std.proofs.Common.{◌≡◌, ℕ, ◌<◌, get_or, length}
use Rattle.lrc_field.specs.Weights.{coefficient_by}
use Rattle.lrc_field.proofs.recipes.by_weights.Given as goal

-- the coefficients so far
abbrev pub invariant-loop-source : goal.invariant-loop-source
invariant-loop-source l = record {
  sixteen : length l.coefficients ≡ 16;
  given : (k : ℕ) → k < l.source-index → get_or l.coefficients k 0 ≡ coefficient_by l.fn.code l.fn.fragment.value l.fn.weights k;
}
