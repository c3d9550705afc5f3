use Rattle.std.proofs.Common.{◌∙◌}
use Rattle.std.proofs.Math.ListN.{length-set}
use Rattle.lrc_ranks.proofs.FragmentLemmas.{joined-none, joined-next, joined-all}
use Rattle.lrc_ranks.proofs.fragment_sets.FragmentSets.insert_all.Goals as goal

pub loop-i-init : goal.loop-i-init
loop-i-init c = record { long = c.self.invariant; joined = joined-none c.self.inside.sets c.other.inside.sets }

pub invariant_of-self : goal.invariant_of-self
invariant_of-self c = c.loop-i.invariant.long

pub loop-i-preserved : goal.loop-i-preserved
loop-i-preserved c = record {
  long = length-set c.loop-i.self-inside.sets c.loop-i.i c.insert_all.new.self ∙ c.loop-i.invariant.long;
  joined = joined-next c.self.inside.sets c.loop-i.self-inside.sets c.other.inside.sets c.loop-i.i c.index-self-i.result c.index-other-i.result c.insert_all.new.self
      c.loop-i.invariant.long c.other.invariant c.loop-i-test.true c.insert_all.ensures c.loop-i.invariant.joined;
}

pub returns : goal.returns
returns c = rw (← c.self.view_is, ← c.other.view_is) (joined-all c.self.inside.sets c.loop-i.self-inside.sets c.other.inside.sets c.loop-i.i c.other.invariant c.loop-i-test.false c.loop-i.invariant.joined)
