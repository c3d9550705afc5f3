use Rattle.lrc_coder.specs.Buffers.{read, IsSum}
use Rattle.lrc_coder.proofs.sums.put_sum.Given as goal

-- the sum of the sources so far
abbrev pub invariant-loop-number : goal.invariant-loop-number
invariant-loop-number l = IsSum l.coefficients (read l.sources) l.number l.fn.sum l.sum
