use Rattle.std.proofs.Common.{◌≡◌, take}
use Rattle.lrc_code.specs.Codes.{all_fragments}
use Rattle.lrc_store.specs.Stores.{IsOf}
use Rattle.lrc_store.specs.Dropping.{unleased}
use Rattle.lrc_store.proofs.store.Store.end_leases.Given as goal

abbrev pub invariant-loop-fragment : goal.invariant-loop-fragment
invariant-loop-fragment g l = record {
  kept : IsOf (unleased g.st l.stripe (take l.fragment-index l.fragment-items)) l.self;
  nodes : l.self.topology ≡ l.initial.self.topology;
  all : l.fragment-items ≡ all_fragments;
}
