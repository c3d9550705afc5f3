use Rattle.lrc_ranks.proofs.CountLemmas.{sum-one, sum-two, sum-three}
use Rattle.lrc_ranks.proofs.counts.AtLeast.plus.Goals as goal

pub returns : goal.returns
returns c = λ k m n p q. record {
  one = sum-one c.args.self c.args.other k m n p q;
  two = sum-two c.args.self c.args.other k m n p q;
  three = sum-three c.args.self c.args.other k m n p q;
}
