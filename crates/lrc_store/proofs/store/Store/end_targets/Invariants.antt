use Rattle.std.proofs.Common.{◌≡◌}
use Rattle.lrc_slots.specs.Slots.{load_at}
use Rattle.lrc_slots.specs.Tables.{slots_of}
use Rattle.lrc_store.proofs.EmptyLemmas.{IsEnding}
use Rattle.lrc_store.proofs.store.Store.end_targets.Given as goal

abbrev pub invariant-loop-lease : goal.invariant-loop-lease
invariant-loop-lease g l = record {
  ending : IsEnding g.st l.node l.self;
  nodes : l.self.topology ≡ l.initial.self.topology;
}

abbrev pub decreases-loop-lease : goal.decreases-loop-lease
decreases-loop-lease g l = load_at (slots_of l.self.table) l.node
