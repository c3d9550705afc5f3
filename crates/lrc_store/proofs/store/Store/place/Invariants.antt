use Rattle.std.proofs.Common.{◌≡◌, length}
use Rattle.lrc_code.specs.Codes.{fragments}
use Rattle.lrc_slots.specs.Tables.{slots_of}
use Rattle.lrc_store.proofs.PlacingLemmas.{IsTakenTo}
use Rattle.lrc_store.proofs.store.Store.place.Given as goal

abbrev pub invariant-loop-seat : goal.invariant-loop-seat
invariant-loop-seat g l = record {
  rest : l.self ≡ record l.initial.self { table = l.self.table };
  all : length l.seats ≡ length (fragments l.code);
  taken : IsTakenTo l.initial.self.topology g.st l.code l.stripe l.seats l.seat-index (slots_of l.self.table);
}
