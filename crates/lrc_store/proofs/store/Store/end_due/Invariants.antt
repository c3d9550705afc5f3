use Rattle.std.proofs.Common.{◌≡◌, ◌-◌, ◌≤◌}
use Rattle.lrc_store.proofs.DueLemmas.{IsDue}
use Rattle.lrc_store.proofs.store.Store.end_due.Given as goal

abbrev pub invariant-loop : goal.invariant-loop
invariant-loop g l = record {
  due : IsDue g.st l.clock (l.ended - l.counter) l.self;
  nodes : l.self.topology ≡ l.initial.self.topology;
  same : l.self.clock ≡ l.initial.self.clock;
  within : l.counter ≤ l.ended;
}
