use Rattle.std.proofs.Common.{◌%◌, ap, ◌∙◌}
use Rattle.std.proofs.lemmas.Bool.{eqb-true}
use Rattle.lrc_leases.specs.Tables.{leased_in}
use Rattle.lrc_terms.specs.Leased.{is_target_on}
use Rattle.lrc_leases.specs.Chains.{chain_in}
use Rattle.lrc_leases.specs.Kept.{node_chain, target_chain}
use Rattle.lrc_leases.proofs.ListedLemmas.{are-those}
use Rattle.lrc_leases.proofs.leases.Leases.targets_on.Goals as goal

pub returns : goal.returns
unfolding leased_in
returns c =
    rw (c.new.ensures, ← c.self.view_is)
    (are-those target_chain (is_target_on c.args.node) (node_chain c.args.node) (λ l on. ap (λ i. i % 512) (eqb-true _ _ on))
    c.self.inside.slab c.self.inside.targets c.walk.result c.self.invariant.single c.self.invariant.targets_are
    (c.walk.ensures.value ∙ ap (chain_in c.self.inside.targets) c.node_chain.ensures.value) c.walk.ensures.once)
