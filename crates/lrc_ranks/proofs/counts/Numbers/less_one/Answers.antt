use Rattle.lrc_ranks.proofs.CountLemmas.{less-one_one, less-one_two, less-one_three}
use Rattle.lrc_ranks.proofs.counts.Numbers.less_one.Goals as goal

pub returns : goal.returns
returns c = λ k. record {
  one = less-one_one c.args.self.ones c.args.self.twos c.args.self.fours k;
  two = less-one_two c.args.self.ones c.args.self.twos c.args.self.fours k;
  three = less-one_three c.args.self.ones c.args.self.twos c.args.self.fours k;
}
