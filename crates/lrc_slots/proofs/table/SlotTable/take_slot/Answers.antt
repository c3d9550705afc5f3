use Rattle.std.proofs.Common.{◌≡◌, ◌+◌, arith, ap, sym, ◌∙◌}
use Rattle.lrc_topology.specs.Nodes.{node_at}
use Rattle.lrc_slots.specs.Tables.{Row, slots_of}
use Rattle.lrc_slots.specs.Rows.{alone, row_load}
use Rattle.lrc_slots.proofs.OpenSlotLemmas.{known-slot, open-least}
use Rattle.lrc_slots.proofs.WriteLemmas.{load-inside, slot-read, free-read, taken-written, load-read, load-written, ordinal-low, ordinal-shown, row-replaced}
use Rattle.lrc_slots.proofs.table.SlotTable.take_slot.Goals as goal

pub known_position-position-requires : goal.known_position-position-requires
known_position-position-requires c = known-slot (node_at (slots_of c.args.self.now).nodes c.args.node) c.args.slot c.requires.within

pub index-load-requires : goal.index-load-requires
index-load-requires c = let within = load-inside c.known_position-position.result c.self.view_is c.self.invariant.counted c.known_position-position.ensures.within in omega (arith, within)

pub listing_with_room-lighter-requires-clause-load : goal.listing_with_room-lighter-requires-clause-load
listing_with_room-lighter-requires-clause-load c =
    load-read c.self.view_is c.args.node c.known_position-position.result c.known_position-position.ensures.value c.index_mut-row.result.now
    c.index_mut-row.ensures.value c.self.invariant
    c.index-load.result.now c.index-load.ensures

pub listing_with_room-lighter-requires-clause-room : goal.listing_with_room-lighter-requires-clause-room
listing_with_room-lighter-requires-clause-room c =
    let x = c.index_mut-row.result.now in
    open-least (alone x) x.node c.args.slot
    (slot-read c.self.view_is c.args.node c.known_position-position.result c.known_position-position.ensures.value c.index_mut-row.result.now
    c.index_mut-row.ensures.value c.args.slot c.requires.within)
    (free-read c.self.view_is c.args.node c.known_position-position.result c.known_position-position.ensures.value c.index_mut-row.result.now
    c.index_mut-row.ensures.value c.args.slot c.requires.free)

pub take-requires : goal.take-requires
take-requires c = record {
  within = slot-read c.self.view_is c.args.node c.known_position-position.result c.known_position-position.ensures.value c.index_mut-row.result.now
      c.index_mut-row.ensures.value
      c.args.slot c.requires.within;
  free = free-read c.self.view_is c.args.node c.known_position-position.result c.known_position-position.ensures.value c.index_mut-row.result.now
      c.index_mut-row.ensures.value
      c.args.slot c.requires.free;
}

pub overflow_add-more : goal.overflow_add-more
overflow_add-more c =
    let was : c.index-load.result.now ≡ row_load c.index_mut-row.result.now = load-read c.self.view_is c.args.node c.known_position-position.result c.known_position-position.ensures.value c.index_mut-row.result.now
    c.index_mut-row.ensures.value c.self.invariant
    c.index-load.result.now c.index-load.ensures in
    omega (arith, was, c.take.ensures.load, c.take.ensures.few)

pub listing-heavier-requires : goal.listing-heavier-requires
listing-heavier-requires c =
    ap (λ k. k + 1) (load-read c.self.view_is c.args.node c.known_position-position.result c.known_position-position.ensures.value c.index_mut-row.result.now
    c.index_mut-row.ensures.value c.self.invariant
    c.index-load.result.now c.index-load.ensures)
    ∙ sym c.take.ensures.load

pub index_mut-requires : goal.index_mut-requires
index_mut-requires c = let within = load-inside c.known_position-position.result c.self.view_is c.self.invariant.counted c.known_position-position.ensures.within in omega (arith, within)

pub relist-requires-clause-ordinal : goal.relist-requires-clause-ordinal
relist-requires-clause-ordinal c =
    ordinal-low c.self.view_is c.args.node c.known_position-position.result c.known_position-position.ensures.value c.index_mut-row.result.now
    c.index_mut-row.ensures.value c.self.invariant c.index.result.now c.index.ensures

pub relist-requires-clause-shown : goal.relist-requires-clause-shown
relist-requires-clause-shown c =
    ordinal-shown c.self.view_is c.args.node c.known_position-position.result c.known_position-position.ensures.value c.index_mut-row.result.now
    c.index_mut-row.ensures.value c.self.invariant c.index.result.now c.index.ensures
    c.listing_with_room-lighter.result c.listing_with_room-lighter.ensures.value

pub invariant_of-self : goal.invariant_of-self
invariant_of-self c =
    let is = ap (λ k. k + 1) (load-read c.self.view_is c.args.node c.known_position-position.result c.known_position-position.ensures.value c.index_mut-row.result.now
    c.index_mut-row.ensures.value c.self.invariant
    c.index-load.result.now c.index-load.ensures) ∙ sym c.take.ensures.load in
    row-replaced c.self.view_is c.args.node c.known_position-position.result c.known_position-position.ensures.value c.index_mut-row.result.now
    c.index_mut-row.ensures.value c.self.invariant c.index.result.now c.index.ensures
    c.take.new.self _ c.relist.new.self c.listing-heavier.result (ap (λ (r : Row). r.node) c.take.ensures.taken)
    (load-written c.self.view_is c.args.node c.known_position-position.result c.known_position-position.ensures.value c.index_mut-row.result.now
    c.index_mut-row.ensures.value c.self.invariant c.take.new.self (c.index-load.result.now + 1) is)
    c.relist.ensures c.listing-heavier.ensures.value

pub returns : goal.returns
returns c =
    rw c.take.ensures.taken
    (taken-written c.self.view_is c.args.node c.known_position-position.result c.known_position-position.ensures.value c.index_mut-row.result.now
    c.index_mut-row.ensures.value c.args.slot c.take.ensures.within)
