use Rattle.std.proofs.Common.{[], List, Option, sym, ap, ◌∙◌, subst}
use Rattle.lrc_code.specs.declared.numbers.UpgradeNo.{UpgradeNo}
use Rattle.lrc_topology.specs.declared.NodeInfo.{NodeInfo}
use Rattle.lrc_slots.specs.Slots.{Slots}
use Rattle.lrc_slots.specs.Barred.{Barred, with_upgrade}
use Rattle.lrc_slots.specs.BarredNodes.{AreBarredNodes}
use Rattle.lrc_bars.specs.Planning.{AreBarsOf}
use Rattle.lrc_bars.proofs.ClassBarLemmas.{upgrading-barred}
use Rattle.lrc_store.proofs.store.Store.bar_upgrading_for_all.Goals as goal

pub returns-in-Some : goal.returns-in-Some
returns-in-Some c = λ st code kept are.
    let nodes = c.args.self.now.topology in
    let faults = c.bar_upgrade_in.new.barred_nodes in
    subst (λ (u : Option UpgradeNo). AreBarsOf nodes code u [] (record c.args.bars.now { faults = faults })) (sym c.in-Some.is ∙ kept.upgrading_is)
    (upgrading-barred nodes code c.in-Some.domain c.args.bars.now faults
    (subst (λ (ns : List NodeInfo). (b : Barred) → AreBarredNodes ns b c.args.bars.now.faults → AreBarredNodes ns (with_upgrade b c.in-Some.domain) faults)
    (ap (λ (t : Slots). t.nodes) kept.table_is) c.bar_upgrade_in.ensures) are)
