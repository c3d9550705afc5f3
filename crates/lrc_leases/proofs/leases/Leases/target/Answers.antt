use Rattle.std.proofs.Common.{sym, ap, ◌∙◌, option_map}
use Rattle.lrc_terms.specs.declared.lease.Lease.{Lease}
use Rattle.lrc_leases.specs.Tables.{leased_in}
use Rattle.lrc_leases.proofs.SlabLemmas.{at_key}
use Rattle.lrc_leases.proofs.MaskLemmas.{marked-one}
use Rattle.lrc_leases.proofs.leases.Leases.target.Goals as goal

pub key_of-key-requires-clause-there : goal.key_of-key-requires-clause-there
unfolding leased_in
key_of-key-requires-clause-there c =
    marked-one c.self.inside.slab c.self.inside.masks c.self.invariant.marked c.args.stripe c.args.fragment.value
    (c.self.invariant.marked c.args.stripe c.args.fragment.value ∙ (rw (← c.self.view_is) at c.requires))

pub returns : goal.returns
unfolding leased_in
returns c =
    rw (← c.self.view_is)
    (ap (option_map (λ (l : Lease). l.target))
    (sym (at_key c.self.inside.slab c.self.invariant.single c.args.stripe c.args.fragment.value c.key_of-key.result c.key_of-key.ensures) ∙ c.index.ensures))
