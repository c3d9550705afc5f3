use Rattle.std.proofs.Common.{length}
use Rattle.lrc_coder.specs.Buffers.{read, AreLong}
use Rattle.lrc_coder.proofs.coding.rebuild.Given as goal

-- the fragments so far
abbrev pub invariant-loop-number : goal.invariant-loop-number
invariant-loop-number l = AreLong l.recipe.coefficients (read l.fragments) l.number (length l.rebuilt)
