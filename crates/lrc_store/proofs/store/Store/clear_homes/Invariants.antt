use Rattle.std.proofs.Common.{◌≡◌, ◌<◌}
use Rattle.lrc_slots.specs.Slots.{load_at}
use Rattle.lrc_slots.specs.Tables.{slots_of}
use Rattle.lrc_stripes.specs.Tables.{stored_in}
use Rattle.lrc_store.proofs.AheadLemmas.{IsAhead}
use Rattle.lrc_store.proofs.EmptyLemmas.{IsEmptying}
use Rattle.lrc_store.proofs.store.Store.clear_homes.Given as goal

abbrev pub invariant-loop-stripe : goal.invariant-loop-stripe
invariant-loop-stripe g l = record {
  emptying : IsEmptying g.st l.node l.self;
  low : l.from.0 < 4096;
  ahead : IsAhead (stored_in l.self.stripes) l.node l.from.0;
  nodes : l.self.topology ≡ l.initial.self.topology;
}

abbrev pub decreases-loop-stripe : goal.decreases-loop-stripe
decreases-loop-stripe g l = load_at (slots_of l.self.table) l.node
