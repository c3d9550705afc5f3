use Rattle.std.proofs.Common.{◌≡◌, None, arith, refl, sym, ◌∙◌, subst}
use Rattle.lrc_terms.specs.Leased.{leases_in, leased_of, with_lease}
use Rattle.lrc_leases.specs.Masks.{AreMasks}
use Rattle.lrc_leases.proofs.MaskLemmas.{masks-with}
use Rattle.lrc_leases.specs.Tables.{leased_in}
use Rattle.lrc_leases.specs.Kept.{leases_of, target_chain, end_chain}
use Rattle.lrc_leases.proofs.SlabLemmas.{single-insert, at-insert, below-insert, leased-insert}
use Rattle.lrc_leases.proofs.RoomLemmas.{few-leases}
use Rattle.lrc_leases.proofs.ListedLemmas.{fresh-number, listed-insert}
use Rattle.lrc_leases.proofs.leases.Leases.add.Goals as goal

pub insert_reserved-key-requires : goal.insert_reserved-key-requires
unfolding leased_in
insert_reserved-key-requires c =
    let none : leases_in (leases_of c.self.inside.slab) c.args.lease.stripe c.args.lease.fragment.value ≡ None = rw (← c.self.view_is) at c.requires.absent in
    omega (arith, few-leases c.self.inside.slab c.args.lease c.self.invariant.single none, c.self.invariant.roomy)

pub add-requires-clause-fresh : goal.add-requires-clause-fresh
unfolding leased_in
add-requires-clause-fresh c =
    fresh-number target_chain c.self.inside.slab c.self.inside.targets c.insert_reserved-key.result c.self.invariant.targets_are c.insert_reserved-key.ensures.was_vacant

pub add-requires-2-clause-fresh : goal.add-requires-2-clause-fresh
unfolding leased_in
add-requires-2-clause-fresh c =
    fresh-number end_chain c.self.inside.slab c.self.inside.ends c.insert_reserved-key.result c.self.invariant.ends_are c.insert_reserved-key.ensures.was_vacant

pub invariant_of-self : goal.invariant_of-self
unfolding leased_in
invariant_of-self c =
    let none : leases_in (leases_of c.self.inside.slab) c.args.lease.stripe c.args.lease.fragment.value ≡ None = rw (← c.self.view_is) at c.requires.absent in
    let insert = c.insert_reserved-key in
    let masks = c.add-3 in
    let before = leased_of (leases_of c.self.inside.slab) 0 in
    let live : leased_of (leases_of insert.new.self) 0 ≡ with_lease before c.args.lease =
    leased-insert c.self.inside.slab insert.new.self insert.result c.args.lease c.self.invariant.single insert.ensures.updates insert.ensures.was_vacant none in
    record {
      single = single-insert c.self.inside.slab insert.new.self insert.result c.args.lease c.self.invariant.single insert.ensures.updates insert.ensures.was_vacant none;
      at = at-insert c.self.inside.slab insert.new.self insert.result c.args.lease c.self.invariant.single insert.ensures.updates insert.ensures.was_vacant none
          c.self.inside.keys.items c.write.new.values.items c.self.invariant.at
          (omega (arith, c.write.ensures.there, c.write.new.values.ok.0, c.spot_of-spot.ensures.value))
          (omega (arith, c.write.ensures.no_shorter, c.write.new.values.ok.0, c.self.inside.keys.ok.0))
          (λ i. c.write.ensures.value i ∙ rw (c.spot_of-spot.ensures.value, c.capped_key.ensures) refl);
      long = omega (arith, c.write.ensures.capacity, c.self.invariant.long);
      targets_are = listed-insert target_chain c.self.inside.slab insert.new.self insert.result c.args.lease insert.ensures.updates insert.ensures.was_vacant
          c.self.inside.targets c.add.new.self c.self.invariant.targets_are (λ d. c.add.ensures.numbers d ∙ rw c.node_chain.ensures.value refl);
      ends_are = listed-insert end_chain c.self.inside.slab insert.new.self insert.result c.args.lease insert.ensures.updates insert.ensures.was_vacant
          c.self.inside.ends c.add-2.new.self c.self.invariant.ends_are (λ d. c.add-2.ensures.numbers d ∙ rw c.clock_chain.ensures.value refl);
      marked = subst (AreMasks masks.new.self) (sym live) (masks-with c.self.inside.masks masks.new.self before c.self.invariant.marked c.args.lease masks.ensures);
      low = rw insert.ensures.capacity
          (below-insert c.self.inside.slab insert.new.self insert.result c.args.lease c.self.invariant.single insert.ensures.updates insert.ensures.was_vacant none
          c.self.inside.slab.capacity (rw insert.ensures.capacity at insert.ensures.key_in_range) c.self.invariant.low);
      targets_fit = omega (arith, insert.ensures.capacity, c.add.ensures.room, c.self.invariant.targets_fit);
      ends_fit = omega (arith, insert.ensures.capacity, c.add-2.ensures.room, c.self.invariant.ends_fit);
      keys_fit = omega (arith, insert.ensures.capacity, c.self.invariant.keys_fit);
      roomy = omega (arith, insert.ensures.capacity, c.self.invariant.roomy);
    }

pub returns : goal.returns
unfolding leased_in
returns c =
    let none : leases_in (leases_of c.self.inside.slab) c.args.lease.stripe c.args.lease.fragment.value ≡ None = rw (← c.self.view_is) at c.requires.absent in
    let insert = c.insert_reserved-key in
    rw (← c.self.view_is)
    (leased-insert c.self.inside.slab insert.new.self insert.result c.args.lease c.self.invariant.single insert.ensures.updates insert.ensures.was_vacant none)
