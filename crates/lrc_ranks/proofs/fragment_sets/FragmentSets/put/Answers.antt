use Rattle.std.proofs.Common.{arith, ◌∙◌}
use Rattle.std.proofs.Math.ListN.{length-set}
use Rattle.lrc_ranks.proofs.FragmentLemmas.{lowest, cleared-less, put-none, put-next, within-next, put-all}
use Rattle.lrc_ranks.proofs.fragment_sets.FragmentSets.put.Goals as goal

pub loop-left-init : goal.loop-left-init
loop-left-init c = record {
  long = c.self.invariant;
  within = λ f hit. hit;
  put = put-none c.self.inside.sets c.args.stripe c.args.fragments.bits c.args.is_in;
}

pub invariant_of-self : goal.invariant_of-self
invariant_of-self c = c.loop-left.invariant.long

pub loop-left-preserved : goal.loop-left-preserved
loop-left-preserved c = record {
  long = length-set c.loop-left.self-inside.sets (lowest c.loop-left.left c.loop-left-test.true (omega arith)) c.set.new.self ∙ c.loop-left.invariant.long;
  within = within-next c.self.inside.sets c.args.stripe c.args.fragments.bits c.args.is_in c.loop-left.left c.loop-left.self-inside.sets c.index-self-number.result c.set.new.self
      c.loop-left-test.true (omega arith) c.loop-left.invariant.within c.loop-left.invariant.put;
  put = put-next c.self.inside.sets c.args.stripe c.args.fragments.bits c.args.is_in c.loop-left.left c.loop-left.self-inside.sets c.index-self-number.result c.set.new.self
      c.loop-left-test.true (omega arith) c.loop-left.invariant.within c.loop-left.invariant.put c.loop-left.invariant.long c.set.ensures;
}

pub returns : goal.returns
returns c = rw (← c.self.view_is) (put-all c.self.inside.sets c.args.stripe c.args.fragments.bits c.args.is_in c.loop-left.left c.loop-left.self-inside.sets c.loop-left-test.false
    c.loop-left.invariant.put)

pub loop-left-smaller : goal.loop-left-smaller
loop-left-smaller c = cleared-less c.loop-left.left c.loop-left-test.true (omega arith)
