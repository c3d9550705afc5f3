use Rattle.std.proofs.Common.{rules, ◌≡◌, length, arith}
use Rattle.lrc_slots.specs.Indexes.{is_listed}
use Rattle.lrc_slots.proofs.SetupLemmas.{ordinals-low, ordinals-few, ordinals-apart, ordinals-made, sets-made, loads-made, indexed-made, load-key}
use Rattle.lrc_slots.proofs.table.SlotTable.of_rows.Goals as goal

pub order-requires-clause-few : goal.order-requires-clause-few
order-requires-clause-few c = ordinals-few c.args.rows.items c.requires.nodes c.in_ok-ordinals.ensures

pub order-requires-clause-low : goal.order-requires-clause-low
order-requires-clause-low c = ordinals-low c.args.rows.items c.requires.nodes c.in_ok-ordinals.ensures

pub order-requires-clause-apart : goal.order-requires-clause-apart
order-requires-clause-apart c = ordinals-apart c.args.rows.items c.requires.nodes c.in_ok-ordinals.ensures

pub sets_by-requires-clause-keys : goal.sets_by-requires-clause-keys
sets_by-requires-clause-keys c = λ i within. let none = c.in_ok-loads.ensures.zero i in omega (arith, none)

pub sets_by-requires-clause-low : goal.sets_by-requires-clause-low
sets_by-requires-clause-low c = ordinals-low c.args.rows.items c.requires.nodes c.in_ok-ordinals.ensures

pub invariant_of-result : goal.invariant_of-result
invariant_of-result c =
    let rows = c.args.rows.items in
    let known = c.requires.nodes in
    let made = c.in_ok-ordinals.ensures in
    let order = c.in_ok-order.order.items in
    let ordered = c.in_ok-order.ensures.long in
    let back = c.in_ok-order.ensures.back in
    let loads = sets-made rows known made order ordered back c.in_ok-loads.loads.items is_listed c.in_ok-by_load.by_load
    (load-key rows c.in_ok-loads.loads.items known c.requires.fresh c.in_ok-loads.ensures.zero) c.in_ok-by_load.ensures.into
    c.in_ok-by_load.ensures.only in
    let faults = c.in_ok-by_fault.ensures order (ordinals-made rows known made order ordered back) in
    let upgrades = c.in_ok-by_upgrade.ensures order (ordinals-made rows known made order ordered back) in
    let long : length c.in_ok-loads.loads.items ≡ length rows = search rules in
    let none = loads-made rows c.in_ok-loads.loads.items long c.in_ok-loads.ensures.zero c.requires.fresh in
    indexed-made rows known made order ordered back c.args.index c.in_ok-loads.loads.items c.in_ok-by_load.by_load c.in_ok-by_fault.by_fault
    c.in_ok-by_upgrade.by_upgrade c.requires.numbers none loads faults upgrades
