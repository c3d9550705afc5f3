use Rattle.std.proofs.Common.{Bool, ap}
use Rattle.lrc_code.specs.declared.numbers.StripeNo.{StripeNo}
use Rattle.lrc_stripes.proofs.verdicts.Verdicts.settle.Goals as goal

pub returns : goal.returns
returns c = λ lost are. record {
  room = rw c.remove_from_all.ensures.room are.room;
  safe = λ u s there kept. let old = c.remove_from_all.ensures.each u.value s there in are.safe u s old.0 old.1;
  unchanged = λ settled s. ap (λ (f : StripeNo → Bool). f s) c.new-self.ensures;
  counted = λ settled. c.stripes_on_several_down-self.ensures;
}
