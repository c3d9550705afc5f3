-- The node that a table opens, and the seat that the rule chooses.
use Rattle.std.proofs.Common.{◌≡◌, Bool, List, Option, Some, None, IfSome, is_some, filter, option_map, option_and_then, refl, subst, sym, ap, ◌∙◌}
use Rattle.lrc_code.specs.declared.codes.Class.{Class}
use Rattle.lrc_code.specs.declared.codes.Code.{Code}
use Rattle.lrc_code.specs.declared.numbers.NodeNo.{NodeNo}
use Rattle.lrc_code.proofs.OrderLemmas.{least-listed}
use Rattle.lrc_topology.specs.declared.NodeInfo.{NodeInfo}
use Rattle.lrc_topology.specs.declared.seat.Seat.{Seat}
use Rattle.lrc_topology.specs.declared.seat.Held.{Held}
use Rattle.lrc_topology.specs.Nodes.{AreNodes, node_at}
use Rattle.lrc_slots.specs.declared.open_node.OpenNode.{OpenNode}
use Rattle.lrc_slots.specs.declared.open_node.OpenRow.{OpenRow}
use Rattle.lrc_slots.specs.Barred.{Barred, joined}
use Rattle.lrc_slots.specs.BarredNodes.{AreBarredNodes}
use Rattle.lrc_slots.specs.Next.{next_node, may_take, is_chosen_before}
use Rattle.lrc_slots.specs.Slots.{Slots, least_free_at}
use Rattle.lrc_slots.specs.Tables as slot_tables
use Rattle.lrc_slots.specs.Tables.{slots_of}
use Rattle.lrc_rules.specs.States.{State}
use Rattle.lrc_bars.specs.Ties.{table_of, next_seat, kept_table, closed}
use Rattle.lrc_bars.specs.Planning.{fault_bars, upgrade_bars, row_seat}
use Rattle.lrc_bars.proofs.ClassBarLemmas.{bars_for, joined-bars, closed-joined}
use Rattle.lrc_bars.proofs.ClosedLemmas.{closed-next}
use Rattle.lrc_rules.proofs.MemberLemmas.{filter-member}
use Rattle.lrc_rules.proofs.NodeLemmas.{node_at-member}

-- the seat that a node and its least free slot are
abbrev pub open_seat : OpenNode → Seat
open_seat o = record { node = o.node.number; slot = o.slot }

-- the seat of a node of this number
abbrev slot_at : Slots → NodeNo → Option Seat
slot_at t n = option_map (λ slot. record { node = n; slot = slot }) (least_free_at t n)

-- with its least free slot it is the seat that the table gives
pub open-next : (t : Slots) (b : Barred) (o : Option OpenNode) → option_map (λ (x : OpenNode). x.node) o ≡ next_node t b
    → IfSome o (λ x. least_free_at t x.node.number ≡ Some x.slot) → option_map open_seat o ≡ next_seat t b
open-next t b None node slot = ap (λ (n : Option NodeInfo). option_and_then (slot_at t) (option_map (λ (m : NodeInfo). m.number) n)) node
open-next t b (Some x) node slot =
    sym (ap (option_map (λ k. record { node = x.node.number; slot = k })) slot)
    ∙ ap (λ (n : Option NodeInfo). option_and_then (slot_at t) (option_map (λ (m : NodeInfo). m.number) n)) node

-- it is there where the next node is
pub open-some : (o : Option OpenNode) → is_some o ≡ is_some (option_map (λ (n : NodeInfo). n.number) (option_map (λ (x : OpenNode). x.node) o))
open-some None = refl
open-some (Some x) = refl

-- it is one of the store's
pub open-known : (nodes : List NodeInfo) (st : State) (b : Barred) (o : Option OpenNode) → AreNodes nodes
    → option_map (λ (x : OpenNode). x.node) o ≡ next_node (table_of nodes st) b → IfSome o (λ x. node_at nodes x.node.number ≡ Some x.node)
open-known nodes st b None known node = tt
open-known nodes st b (Some x) known node =
    node_at-member nodes known x.node
    (filter-member (may_take (table_of nodes st) b) nodes x.node
    (least-listed (is_chosen_before (table_of nodes st)) x.node (filter (may_take (table_of nodes st) b) nodes) (sym node))).0

-- outside the nodes that planned seats bar for a class, it is the next beside what they bar
pub open-outside : (table : slot_tables.Table) (nodes : List NodeInfo) (st : State) (o : Option OpenNode) (faults upgrades : List Bool) (code : Code) (c : Class) (planned : List Held)
    → AreNodes nodes → slots_of table ≡ kept_table nodes st
    → ((b d : Barred) → AreBarredNodes (slots_of table).nodes b faults → AreBarredNodes (slots_of table).nodes d upgrades
    → option_map (λ (x : OpenNode). x.node) o ≡ next_node (slots_of table) (joined b d))
    → AreBarredNodes nodes (closed st.upgrading (fault_bars nodes planned)) faults → AreBarredNodes nodes (upgrade_bars nodes code c planned) upgrades
    → option_map (λ (x : OpenNode). x.node) o ≡ next_node (table_of nodes st) (bars_for nodes code c planned)
open-outside table nodes st o faults upgrades code c planned known tied next by_fault by_upgrade =
    let same = sym (ap (λ (t : Slots). t.nodes) tied) in
    let shut = closed st.upgrading (fault_bars nodes planned) in
    next shut (upgrade_bars nodes code c planned)
    (subst (λ (ns : List NodeInfo). AreBarredNodes ns shut faults) same by_fault)
    (subst (λ (ns : List NodeInfo). AreBarredNodes ns (upgrade_bars nodes code c planned) upgrades) same by_upgrade)
    ∙ ap (λ (t : Slots). next_node t (joined shut (upgrade_bars nodes code c planned))) tied
    ∙ ap (next_node (kept_table nodes st)) (closed-joined st.upgrading (fault_bars nodes planned) (upgrade_bars nodes code c planned)
    ∙ ap (closed st.upgrading) (joined-bars nodes code c planned))
    ∙ closed-next nodes st (bars_for nodes code c planned) known

-- ---- a node that is told by where the table keeps it

-- the node itself
abbrev pub opened : OpenRow → OpenNode
opened r = record { node = r.node.now; slot = r.slot }

pub opened-node : (o : Option OpenRow) → option_map (λ (x : OpenNode). x.node) (option_map opened o) ≡ option_map (λ (r : OpenRow). r.node.now) o
opened-node None = refl
opened-node (Some r) = refl

pub opened-seat : (o : Option OpenRow) → option_map open_seat (option_map opened o) ≡ option_map row_seat o
opened-seat None = refl
opened-seat (Some r) = refl

-- what is so of the one is so of the other
pub to-opened : (P : OpenNode → Type 0) (o : Option OpenRow) → IfSome o (λ r. P (opened r)) → IfSome (option_map opened o) P
to-opened P None h = tt
to-opened P (Some r) h = h

pub of-opened : (P : OpenNode → Type 0) (o : Option OpenRow) → IfSome (option_map opened o) P → IfSome o (λ r. P (opened r))
of-opened P None h = tt
of-opened P (Some r) h = h
