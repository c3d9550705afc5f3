use Rattle.std.proofs.Common.{Option, is_some, option_map, ap, ap₂, ◌∙◌}
use Rattle.lrc_topology.specs.declared.NodeInfo.{NodeInfo}
use Rattle.lrc_slots.specs.Slots.{Slots}
use Rattle.lrc_slots.specs.Barred.{Barred, no_bars}
use Rattle.lrc_slots.specs.Next.{next_node}
use Rattle.lrc_bars.specs.Ties.{closed}
use Rattle.lrc_bars.proofs.ClosedLemmas.{closed-next}
use Rattle.lrc_bars.proofs.OpenLemmas.{open-some}
use Rattle.lrc_store.proofs.store.Store.has_free_seat.Goals as goal

pub returns : goal.returns
returns c = λ st kept.
    c.is_some.ensures ∙ open-some c.open_beside.result
    ∙ ap (λ (o : Option NodeInfo). is_some (option_map (λ (n : NodeInfo). n.number) o)) (c.open_beside.ensures.node
    ∙ ap₂ (λ (t : Slots) (b : Barred). next_node t b) kept.table_is (c.bar_upgrading.ensures st kept ∙ ap (closed st.upgrading) c.new-bars.ensures)
    ∙ closed-next c.args.self.now.topology st no_bars kept.known)
