use Rattle.std.proofs.Common.{arith}
use Rattle.lrc_slots.proofs.RowLemmas.{room-known, listed-known}
use Rattle.lrc_slots.proofs.node_slots.NodeSlots.listing_with_room.Goals as goal

pub returns-clause-value : goal.returns-clause-value
returns-clause-value c =
    let s = c.self.inside in
    let counted = rw (← c.self.view_is) at c.requires.load in
    let some = rw (← c.self.view_is) at c.requires.room in
    λ k. rw (← c.self.view_is) (listed-known s.node c.args.load s.marks c.self.invariant counted s.eligible some k)

pub returns-clause-few : goal.returns-clause-few
returns-clause-few c =
    let s = c.self.inside in
    let counted = rw (← c.self.view_is) at c.requires.load in
    let room = room-known s.node c.args.load s.marks c.self.invariant counted s.eligible (rw (← c.self.view_is) at c.requires.room) in
    λ open_. omega (arith, room, c.self.invariant.few)
