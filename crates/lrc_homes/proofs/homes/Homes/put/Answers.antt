use Rattle.std.proofs.Common.{set, arith, refl, sym}
use Rattle.std.proofs.lemmas.Bool.{eq-eqb, ne_eqb}
use Rattle.std.proofs.lemmas.List.{get_or-set_same, get_or-set_other}
use Rattle.lrc_homes.proofs.HomesLemmas.{homes-set}
use Rattle.lrc_homes.proofs.homes.Homes.put.Goals as goal

pub returns-in-Some : goal.returns-in-Some
returns-in-Some c =
    let h = c.self.inside in
    let f = c.args.fragment.value in
    let seat = c.in-Some.seat in
    let low = c.args.fragment.in_range in
    let nodes = set h.nodes f seat.node.value in
    let slots = set h.slots f seat.slot in
    let next = c.with-self-inside.result.bits in
    rw (← c.self.view_is, c.in-Some.is) (homes-set h.nodes h.slots nodes slots h.homed.bits next f _ c.self.invariant.few low
    (let on = get_or-set_same h.nodes f seat.node.value 0 (let long = c.self.invariant.nodes_long in omega (arith, low, long)) in
    let at = get_or-set_same h.slots f seat.slot 0 (let long = c.self.invariant.slots_long in omega (arith, low, long)) in
    sym (rw (c.with-self-inside.ensures f, eq-eqb f f refl, on, at) refl))
    (λ g other. sym (rw (c.with-self-inside.ensures g, ne_eqb g f other, get_or-set_other h.nodes f g seat.node.value 0 other, get_or-set_other h.slots f g seat.slot 0 other) refl)))

pub returns-in-None : goal.returns-in-None
returns-in-None c =
    let h = c.self.inside in
    let f = c.args.fragment.value in
    let next = c.without-self-inside.result.bits in
    rw (← c.self.view_is, c.in-None.is) (homes-set h.nodes h.slots h.nodes h.slots h.homed.bits next f _ c.self.invariant.few c.args.fragment.in_range
    (sym (rw (c.without-self-inside.ensures f, eq-eqb f f refl) refl)) (λ g other. sym (rw (c.without-self-inside.ensures g, ne_eqb g f other) refl)))
