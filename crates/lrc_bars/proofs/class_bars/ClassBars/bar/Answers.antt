use Rattle.lrc_bars.proofs.ClassBarLemmas.{bars-push-at}
use Rattle.lrc_slots.specs.Tables.{slots_of}
use Rattle.lrc_bars.proofs.class_bars.ClassBars.bar.Goals as goal

pub returns : goal.returns
returns c = λ code upgrading seats h found of_class are.
    bars-push-at (slots_of c.args.table.now).nodes code seats h c.args.node.now c.args.class found of_class c.index_of.result c.index_of.ensures.value upgrading
    c.args.self.now c.bar_fault_in.new.barred_nodes c.bar_upgrade_in.new.barred_nodes _ are c.bar_fault_in.ensures c.bar_upgrade_in.ensures
