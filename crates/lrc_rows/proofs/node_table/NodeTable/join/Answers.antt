use Rattle.std.proofs.Common.{arith, refl}
use Rattle.lrc_rows.proofs.NodeStateLemmas.{found, joined-none, set-same}
use Rattle.lrc_rows.proofs.node_table.NodeTable.join.Goals as goal

pub index-requires : goal.index-requires
index-requires c =
    let at = found c.self.inside.nodes c.self.inside.stripes.items c.args.self.now c.self.view_is c.args.number c.in-Some.position c.in-Some.ensures in
    omega (arith, at.1, at.2, c.self.inside.stripes.ok.0)

pub returns-in-Some : goal.returns-in-Some
returns-in-Some c =
    rw (← set-same c.self.inside.nodes c.self.inside.stripes.items c.args.self.now c.self.view_is c.args.number c.in-Some.position c.in-Some.ensures c.index.result.now c.index.result.now
    c.index.ensures) c.insert_all.ensures

pub returns-in_default : goal.returns-in_default
returns-in_default c = joined-none c.args.self.now.list c.args.self.now.stripes c.args.self.now refl c.args.number c.in_default.ensures _
