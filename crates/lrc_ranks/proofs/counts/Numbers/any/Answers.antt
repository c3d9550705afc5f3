use Rattle.lrc_ranks.proofs.CountLemmas.{any-bit}
use Rattle.lrc_ranks.proofs.counts.Numbers.any.Goals as goal

pub returns : goal.returns
returns c = λ k. any-bit c.args.self.ones c.args.self.twos c.args.self.fours k
