use Rattle.lrc_ranks.proofs.CountLemmas.{two-one, two-two, two-three}
use Rattle.lrc_ranks.proofs.counts.AtLeast.count.Goals as goal

pub returns : goal.returns
returns c = λ k. record {
  one = two-one c.args.a c.args.b k;
  two = two-two c.args.a c.args.b k;
  three = two-three c.args.a c.args.b k;
}
