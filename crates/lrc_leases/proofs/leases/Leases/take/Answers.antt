use Rattle.std.proofs.Common.{◌≡◌, true, Option, arith, refl, sym, ◌∙◌, subst}
use Rattle.lrc_leases.specs.Tables.{leased_in}
use Rattle.lrc_terms.specs.declared.lease.Lease.{Lease}
use Rattle.lrc_terms.specs.Leased.{leased_of, without_lease}
use Rattle.lrc_leases.specs.Masks.{AreMasks}
use Rattle.lrc_leases.specs.Kept.{leases_of, is_lease_of, target_chain, end_chain}
use Rattle.lrc_leases.proofs.SlabLemmas.{at_key, under, single-remove, at-remove, below-remove, leased-remove}
use Rattle.lrc_leases.proofs.MaskLemmas.{masks-without, marked-one}
use Rattle.lrc_leases.proofs.ListedLemmas.{listed-remove}
use Rattle.lrc_leases.proofs.leases.Leases.take.Goals as goal

pub key_of-key-requires-clause-there : goal.key_of-key-requires-clause-there
unfolding leased_in
key_of-key-requires-clause-there c =
    marked-one c.self.inside.slab c.self.inside.masks c.self.invariant.marked c.args.stripe c.args.fragment.value
    (c.self.invariant.marked c.args.stripe c.args.fragment.value ∙ (rw (← c.self.view_is) at c.requires))

pub returns-clause-value : goal.returns-clause-value
unfolding leased_in
returns-clause-value c =
    rw (← c.self.view_is)
    (sym c.remove-lease.ensures.value ∙ at_key c.self.inside.slab c.self.invariant.single c.args.stripe c.args.fragment.value c.key_of-key.result c.key_of-key.ensures)

pub returns-clause-lease : goal.returns-clause-lease
unfolding leased_in
returns-clause-lease c =
    let (l, at, own) = under c.self.inside.slab c.key_of-key.result c.args.stripe c.args.fragment.value c.key_of-key.ensures in
    rw (← c.self.view_is)
    (leased-remove c.self.inside.slab c.remove-lease.new.self c.key_of-key.result c.args.stripe c.args.fragment l c.self.invariant.single
    c.remove-lease.ensures.updates at own)

pub overflow_add-key : goal.overflow_add-key
overflow_add-key c =
    let (l, at, own) = under c.self.inside.slab c.key_of-key.result c.args.stripe c.args.fragment.value c.key_of-key.ensures in
    omega (arith, c.self.invariant.low c.key_of-key.result l at, c.self.invariant.keys_fit)

pub remove-requires-clause-there : goal.remove-requires-clause-there
remove-requires-clause-there c =
    rw c.node_chain.ensures.value (c.self.invariant.targets_are.listed c.key_of-key.result c.remove-lease.result c.remove-lease.ensures.value)

pub remove-requires-2-clause-there : goal.remove-requires-2-clause-there
remove-requires-2-clause-there c =
    rw c.clock_chain.ensures.value (c.self.invariant.ends_are.listed c.key_of-key.result c.remove-lease.result c.remove-lease.ensures.value)

pub invariant_of-self : goal.invariant_of-self
invariant_of-self c =
    let lease = c.remove-lease.result in
    let taken = c.remove-lease in
    let own = subst (λ (o : Option Lease). is_lease_of c.args.stripe c.args.fragment.value o ≡ true) taken.ensures.value c.key_of-key.ensures in
    let masks = c.remove-3 in
    let before = leased_of (leases_of c.self.inside.slab) 0 in
    let live : leased_of (leases_of taken.new.self) 0 ≡ without_lease before c.args.stripe c.args.fragment =
    leased-remove c.self.inside.slab taken.new.self c.key_of-key.result c.args.stripe c.args.fragment lease c.self.invariant.single taken.ensures.updates
    taken.ensures.value own in
    record {
      single = single-remove c.self.inside.slab taken.new.self c.key_of-key.result c.args.stripe c.args.fragment lease c.self.invariant.single
          taken.ensures.updates taken.ensures.value own;
      at = at-remove c.self.inside.slab taken.new.self c.key_of-key.result c.args.stripe c.args.fragment lease c.self.invariant.single
          taken.ensures.updates taken.ensures.value own c.self.inside.keys.items c.self.invariant.at;
      long = c.self.invariant.long;
      targets_are = listed-remove target_chain c.self.inside.slab taken.new.self c.key_of-key.result lease taken.ensures.updates taken.ensures.value
          c.self.inside.targets c.remove.new.self c.self.invariant.targets_are (λ d. c.remove.ensures.numbers d ∙ rw c.node_chain.ensures.value refl);
      ends_are = listed-remove end_chain c.self.inside.slab taken.new.self c.key_of-key.result lease taken.ensures.updates taken.ensures.value
          c.self.inside.ends c.remove-2.new.self c.self.invariant.ends_are (λ d. c.remove-2.ensures.numbers d ∙ rw c.clock_chain.ensures.value refl);
      marked = subst (AreMasks masks.new.self) (sym live)
          (masks-without c.self.inside.masks masks.new.self before c.self.invariant.marked c.args.stripe c.args.fragment masks.ensures);
      low = rw taken.ensures.capacity
          (below-remove c.self.inside.slab taken.new.self c.key_of-key.result c.args.stripe c.args.fragment lease c.self.invariant.single
          taken.ensures.updates taken.ensures.value own
          c.self.inside.slab.capacity c.self.invariant.low);
      targets_fit = omega (arith, taken.ensures.capacity, c.remove.ensures.room, c.self.invariant.targets_fit);
      ends_fit = omega (arith, taken.ensures.capacity, c.remove-2.ensures.room, c.self.invariant.ends_fit);
      keys_fit = omega (arith, taken.ensures.capacity, c.self.invariant.keys_fit);
      roomy = omega (arith, taken.ensures.capacity, c.self.invariant.roomy);
    }
