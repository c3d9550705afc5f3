use Rattle.std.proofs.Common.{arith, refl}
use Rattle.lrc_rows.proofs.NodeStateLemmas.{found, removed, removed-none}
use Rattle.lrc_rows.proofs.node_table.NodeTable.remove.Goals as goal

pub index_mut-set-requires : goal.index_mut-set-requires
index_mut-set-requires c =
    let at = found c.self.inside.nodes c.self.inside.stripes.items c.args.self.now c.self.view_is c.args.number c.in-Some.position c.in-Some.ensures in
    omega (arith, at.1, at.2, c.self.inside.stripes.ok.0)

pub returns-in-Some : goal.returns-in-Some
returns-in-Some c =
    removed c.self.inside.nodes c.self.inside.stripes.items c.args.self.now c.self.view_is c.args.number c.in-Some.position c.in-Some.ensures c.index_mut-set.result.now _
    c.index_mut-set.ensures.value c.args.stripe c.remove.ensures

pub returns-in_default : goal.returns-in_default
returns-in_default c = removed-none c.args.self.now.list c.args.self.now.stripes c.args.self.now refl c.args.number c.args.stripe c.in_default.ensures
