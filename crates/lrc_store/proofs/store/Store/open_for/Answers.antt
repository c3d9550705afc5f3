use Rattle.std.proofs.Common.{List, Bool, IfSome, Some, option_map, ◌≡◌, subst, sym, ap, ◌∙◌}
use Rattle.lrc_topology.specs.Nodes.{node_at}
use Rattle.lrc_slots.specs.Slots.{Slots, least_free_at}
use Rattle.lrc_slots.specs.BarredNodes.{AreBarredNodes}
use Rattle.lrc_bars.specs.Ties.{table_of, next_seat}
use Rattle.lrc_bars.specs.Planning.{upgrade_bars}
use Rattle.lrc_bars.proofs.BarLemmas.{planned-alone}
use Rattle.lrc_bars.proofs.ClassBarLemmas.{bars_for, bars_for-beside}
use Rattle.lrc_bars.proofs.PlanLemmas.{beside-chosen}
use Rattle.lrc_bars.proofs.OpenLemmas.{open-next, open-known, open-outside, opened, opened-node, opened-seat, to-opened, of-opened}
use Rattle.lrc_store.proofs.store.Store.open_for.Goals as goal

pub returns-clause-chosen : goal.returns-clause-chosen
returns-clause-chosen c = λ st code stripe fragment planned kept absent of_class beside are.
    let nodes = c.args.self.now.topology in
    let d = c.args.class in
    let o = option_map opened c.row_outside.result in
    let upgrades = subst (λ (by_rank : List Bool). AreBarredNodes nodes (upgrade_bars nodes code d planned) by_rank) (sym c.of.ensures) (are.upgrades d) in
    let node = open-outside c.args.self.now.table nodes st o c.args.bars.now.faults c.of.result.now code d planned kept.known kept.table_is
    (λ b e all more. opened-node c.row_outside.result ∙ c.row_outside.ensures.node b e all more) are.faults upgrades in
    let slot = subst (λ (t : Slots). IfSome c.row_outside.result (λ r. least_free_at t r.node.now.number ≡ Some r.slot)) kept.table_is c.row_outside.ensures.slot in
    sym (opened-seat c.row_outside.result)
    ∙ open-next (table_of nodes st) (bars_for nodes code d planned) o node (to-opened (λ x. least_free_at (table_of nodes st) x.node.number ≡ Some x.slot) c.row_outside.result slot)
    ∙ ap (next_seat (table_of nodes st)) (bars_for-beside nodes code d stripe fragment planned of_class beside)
    ∙ beside-chosen nodes st code planned planned stripe fragment kept.known kept.seated beside
    (planned-alone nodes st stripe fragment planned kept.seated absent)

pub returns-clause-known : goal.returns-clause-known
returns-clause-known c = λ st code planned kept are.
    let nodes = c.args.self.now.topology in
    let d = c.args.class in
    let o = option_map opened c.row_outside.result in
    let upgrades = subst (λ (by_rank : List Bool). AreBarredNodes nodes (upgrade_bars nodes code d planned) by_rank) (sym c.of.ensures) (are.upgrades d) in
    of-opened (λ x. node_at nodes x.node.number ≡ Some x.node) c.row_outside.result
    (open-known nodes st (bars_for nodes code d planned) o kept.known
    (open-outside c.args.self.now.table nodes st o c.args.bars.now.faults c.of.result.now code d planned kept.known kept.table_is
    (λ b e all more. opened-node c.row_outside.result ∙ c.row_outside.ensures.node b e all more) are.faults upgrades))
