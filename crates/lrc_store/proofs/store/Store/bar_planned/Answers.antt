use Rattle.std.proofs.Common.{[], ◌++◌, ◌∷◌, ◌≡◌, List, Some, subst, sym, ap}
use Rattle.lrc_topology.specs.declared.NodeInfo.{NodeInfo}
use Rattle.lrc_topology.specs.declared.seat.Held.{Held}
use Rattle.lrc_topology.specs.Nodes.{node_at}
use Rattle.lrc_slots.specs.Slots.{Slots}
use Rattle.lrc_bars.specs.Planning.{AreBarsOf, row_seat}
use Rattle.lrc_store.proofs.store.Store.bar_planned.Goals as goal

pub returns : goal.returns
returns c = λ st code stripe fragment planned kept of_class found are.
    let h : Held = record { stripe = stripe; fragment = fragment; seat = row_seat c.args.next.now } in
    let same = ap (λ (t : Slots). t.nodes) kept.table_is in
    subst (λ (ns : List NodeInfo). AreBarsOf ns code st.upgrading (planned ++ h ∷ []) c.bar.new.self) same
    (c.bar.ensures code st.upgrading planned h (subst (λ (ns : List NodeInfo). node_at ns c.args.next.now.node.now.number ≡ Some c.args.next.now.node.now) (sym same) found)
    of_class (subst (λ (ns : List NodeInfo). AreBarsOf ns code st.upgrading planned c.args.bars.now) (sym same) are))
