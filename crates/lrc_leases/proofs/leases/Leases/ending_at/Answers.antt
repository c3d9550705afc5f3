use Rattle.std.proofs.Common.{◌%◌, filter_map, ap, ◌∙◌}
use Rattle.std.proofs.lemmas.Bool.{eqb-true}
use Rattle.lrc_leases.specs.Tables.{leased_in}
use Rattle.lrc_terms.specs.Leased.{ends_at, leased_of, AreThose}
use Rattle.lrc_leases.specs.Chains.{chain_in}
use Rattle.lrc_leases.specs.Kept.{leases_of, clock_chain, end_chain, passing_at}
use Rattle.lrc_leases.proofs.ListedLemmas.{are-those, those-few}
use Rattle.lrc_leases.proofs.leases.Leases.ending_at.Goals as goal

those : (c : goal.After-new) → AreThose (ends_at c.args.clock) (leased_of (leases_of c.self.inside.slab) 0) (filter_map (passing_at (ends_at c.args.clock) c.self.inside.slab) c.walk.result)
those c =
    are-those end_chain (ends_at c.args.clock) (clock_chain c.args.clock) (λ l on. ap (λ i. i % 512) (eqb-true _ _ on))
    c.self.inside.slab c.self.inside.ends c.walk.result c.self.invariant.single c.self.invariant.ends_are
    (c.walk.ensures.value ∙ ap (chain_in c.self.inside.ends) c.clock_chain.ensures.value) c.walk.ensures.once

pub returns-clause-those : goal.returns-clause-those
unfolding leased_in
returns-clause-those c = rw (c.new.ensures, ← c.self.view_is) (those c)

pub returns-clause-few : goal.returns-clause-few
returns-clause-few c = rw c.new.ensures (those-few (ends_at c.args.clock) (leased_of (leases_of c.self.inside.slab) 0) _ (those c))
