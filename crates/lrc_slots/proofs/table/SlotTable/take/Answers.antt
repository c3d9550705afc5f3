use Rattle.std.proofs.Common.{sym}
use Rattle.lrc_slots.specs.Tables.{slots_of}
use Rattle.lrc_slots.proofs.OpenSlotLemmas.{least-open}
use Rattle.lrc_slots.proofs.table.SlotTable.take.Goals as goal

pub take_slot-requires : goal.take_slot-requires
take_slot-requires c =
    let open_ = least-open (slots_of c.args.self.now) c.args.node c.in_ok-slot.slot (sym c.in_ok-slot.ensures) in
    record { within = open_.0; free = open_.1 }
