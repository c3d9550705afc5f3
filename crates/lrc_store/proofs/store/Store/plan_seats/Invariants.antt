use Rattle.std.proofs.Common.{◌≡◌, ◌++◌, false, List, drop, take, length}
use Rattle.lrc_code.specs.declared.numbers.Fragment.{Fragment}
use Rattle.lrc_code.specs.Codes.{fragments}
use Rattle.lrc_topology.specs.declared.seat.Seat.{Seat}
use Rattle.lrc_rules.specs.States.{State, has_stripe}
use Rattle.lrc_rules.specs.Steps.{with_stripe}
use Rattle.lrc_rules.specs.Choices.{AreChosen, IsFirstWithout}
use Rattle.lrc_bars.specs.Ties.{with_homes}
use Rattle.lrc_store.specs.Stores.{IsOf}
use Rattle.lrc_bars.specs.Planning.{AreBarsOf}
use Rattle.lrc_store.proofs.PlanningLemmas.{planned_to}
use Rattle.lrc_store.proofs.store.Store.plan_seats.Given as goal

abbrev pub invariant-loop-i : goal.invariant-loop-i
invariant-loop-i l = record {
  chosen : (st : State) → IsOf st l.self → has_stripe st l.fn.stripe ≡ false → (rest : List Seat)
      → AreChosen l.self.topology
      (with_homes (with_stripe st l.code l.fn.stripe) (planned_to l.fn.stripe l.fragment-items l.seats l.i)) l.fn.stripe
      (drop l.i l.fragment-items) rest
      → AreChosen l.self.topology (with_stripe st l.code l.fn.stripe) l.fn.stripe l.fragment-items (take l.i l.seats ++ rest);
  first : (st : State) → IsOf st l.self → has_stripe st l.fn.stripe ≡ false → (f : Fragment)
      → IsFirstWithout l.self.topology
      (with_homes (with_stripe st l.code l.fn.stripe) (planned_to l.fn.stripe l.fragment-items l.seats l.i)) l.fn.stripe (drop l.i l.fragment-items) f
      → IsFirstWithout l.self.topology (with_stripe st l.code l.fn.stripe) l.fn.stripe l.fragment-items f;
  bars : (st : State) → IsOf st l.self → AreBarsOf l.self.topology l.code st.upgrading (planned_to l.fn.stripe l.fragment-items l.seats l.i) l.bars;
  all : l.fragment-items ≡ fragments l.code;
  seats : length l.seats ≡ 16;
}
