use Rattle.std.proofs.Common.{◌∙◌, sym}
use Rattle.lrc_ranks.proofs.CountLemmas.{seven-sum, seven-counted}
use Rattle.lrc_ranks.proofs.counts.Numbers.count.Goals as goal

pub returns : goal.returns
returns c = λ k.
    seven-counted _ _ _ _ _ _ _ _ _ _ _ _ _ _ _ (c.full_adder-low.ensures k) (c.full_adder-high.ensures k) (c.full_adder-ones.ensures k) (c.full_adder-twos.ensures k)
    ∙ sym (seven-sum c.args.words k c.requires)
