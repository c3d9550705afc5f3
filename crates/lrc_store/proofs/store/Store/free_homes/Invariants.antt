use Rattle.std.proofs.Common.{◌≡◌}
use Rattle.lrc_code.specs.Codes.{all_fragments}
use Rattle.lrc_slots.specs.Tables.{slots_of}
use Rattle.lrc_store.proofs.FragmentLemmas.{IsFreed}
use Rattle.lrc_store.proofs.store.Store.free_homes.Given as goal

abbrev pub invariant-loop-fragment : goal.invariant-loop-fragment
invariant-loop-fragment g l = record {
  rest : l.self ≡ record l.initial.self { table = l.self.table };
  freed : IsFreed l.initial.self.topology g.st l.fn.stripe l.fragment-index (slots_of l.self.table);
  all : l.fragment-items ≡ all_fragments;
}
