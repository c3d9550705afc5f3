use Rattle.std.proofs.Common.{◌≡◌}
use Rattle.lrc_code.specs.Codes.{all_fragments}
use Rattle.lrc_rules.specs.States.{State}
use Rattle.lrc_bars.specs.Ties.{with_homes as with_more}
use Rattle.lrc_store.specs.Stores.{IsOf}
use Rattle.lrc_restore.proofs.StripeLemmas.{homes_to, AreClearTo}
use Rattle.lrc_restore.proofs.stripes.restore_homes.Given as goal

abbrev pub invariant-loop-fragment : goal.invariant-loop-fragment
invariant-loop-fragment l = record {
  nodes : l.store.topology ≡ l.initial.store.topology;
  all : l.fragment-items ≡ all_fragments;
  kept : (st : State) → IsOf st l.initial.store → IsOf (with_more st (homes_to l.row l.fragment-index)) l.store;
  clear : (st : State) → IsOf st l.initial.store → AreClearTo l.initial.store.topology st l.row l.fragment-index;
}
