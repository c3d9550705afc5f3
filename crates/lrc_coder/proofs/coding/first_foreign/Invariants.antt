use Rattle.lrc_coder.specs.Coding.{AreOwn}
use Rattle.lrc_coder.proofs.coding.first_foreign.Given as goal

-- the fragments so far
abbrev pub invariant-loop-number : goal.invariant-loop-number
invariant-loop-number l = AreOwn l.fn.code l.recipe.coefficients l.number
