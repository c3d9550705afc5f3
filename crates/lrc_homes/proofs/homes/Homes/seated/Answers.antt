use Rattle.std.proofs.Common.{arith}
use Rattle.lrc_topology.specs.declared.seat.Seat.{Seat}
use Rattle.lrc_homes.proofs.HomesLemmas.{homes-seated}
use Rattle.lrc_homes.proofs.homes.Homes.seated.Goals as goal

pub invariant_of-result : goal.invariant_of-result
invariant_of-result c =
    let are = c.loop-number.invariant in
    record { nodes_long = are.nodes_long; slots_long = are.slots_long; few = omega (arith, c.all_of.type_inv) }

pub returns : goal.returns
returns c =
    let d : Seat = record { node = record { value = 0 }; slot = 0 } in
    let are = c.loop-number.invariant in
    let past = c.loop-number-test.false in
    let count = c.fragments-number-end.ensures.value in
    homes-seated c.args.code c.args.seats.now d c.loop-number.nodes c.loop-number.slots c.all_of.result.bits c.requires
    (λ k below. are.on k d (omega (arith, below, past, count))) (λ k below. are.slotted k d (omega (arith, below, past, count)))
    c.all_of.ensures
