use Rattle.std.proofs.Common.{arith}
use Rattle.lrc_slots.proofs.LoadLemmas.{load-at, load-few}
use Rattle.lrc_slots.proofs.WriteLemmas.{load-inside}
use Rattle.lrc_slots.proofs.table.SlotTable.load.Goals as goal

pub index-requires : goal.index-requires
index-requires c = let within = load-inside c.known_position.result c.self.view_is c.self.invariant.counted c.known_position.ensures.within in omega (arith, within)

pub returns-clause-value : goal.returns-clause-value
returns-clause-value c =
    let s = c.self.inside in
    rw (← c.self.view_is) (load-at s.rows.items c.args.node c.known_position.result c.index.result.now s.loads.items c.self.invariant.counted
    (rw (← c.self.view_is) at c.requires) (rw (← c.self.view_is) at c.known_position.ensures.value) c.index.ensures)

pub returns-clause-few : goal.returns-clause-few
returns-clause-few c =
    let s = c.self.inside in
    let known = rw (← c.self.view_is) at c.requires in
    let is = load-at s.rows.items c.args.node c.known_position.result c.index.result.now s.loads.items c.self.invariant.counted
    known (rw (← c.self.view_is) at c.known_position.ensures.value) c.index.ensures in
    omega (arith, is, load-few s.rows.items c.args.node c.self.invariant.nodes known)
