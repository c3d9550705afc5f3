use Rattle.std.proofs.Common.{arith}
use Rattle.lrc_homes.proofs.MaskLemmas.{put-in, put-out}
use Rattle.lrc_homes.proofs.masks.put.Goals as goal

pub returns-then-are_in : goal.returns-then-are_in
returns-then-are_in c = λ f. rw c.if-are_in.true (put-in c.args.mask.bits c.args.fragments.bits c.from_bits.result.bits f c.from_bits.ensures)

pub returns-else-are_in : goal.returns-else-are_in
returns-else-are_in c = λ f. rw c.if-are_in.false (put-out c.args.mask.bits c.args.fragments.bits c.from_bits-else-are_in.result.bits f c.from_bits-else-are_in.ensures (omega arith) (omega arith))
