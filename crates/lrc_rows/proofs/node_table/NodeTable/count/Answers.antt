use Rattle.std.proofs.Common.{arith, refl}
use Rattle.lrc_rows.proofs.NodeStateLemmas.{found, joined-none, counted-none, set-same}
use Rattle.lrc_rows.proofs.node_table.NodeTable.count.Goals as goal

pub index-set-requires : goal.index-set-requires
index-set-requires c =
    let at = found c.self.inside.nodes c.self.inside.stripes.items c.args.self.now c.self.view_is c.args.number c.in-Some.position c.in-Some.ensures in
    omega (arith, at.1, at.2, c.self.inside.stripes.ok.0)

pub returns-in-Some-clause-any : goal.returns-in-Some-clause-any
returns-in-Some-clause-any c =
    rw (← set-same c.self.inside.nodes c.self.inside.stripes.items c.args.self.now c.self.view_is c.args.number c.in-Some.position c.in-Some.ensures c.index-set.result.now c.index-set.result.now
    c.index-set.ensures) c.insert_all.ensures

pub returns-in-Some-clause-several : goal.returns-in-Some-clause-several
returns-in-Some-clause-several c =
    rw (← set-same c.self.inside.nodes c.self.inside.stripes.items c.args.self.now c.self.view_is c.args.number c.in-Some.position c.in-Some.ensures c.index-set.result.now c.index-set.result.now
    c.index-set.ensures) c.insert_common.ensures

pub returns-in_default-clause-any : goal.returns-in_default-clause-any
returns-in_default-clause-any c = joined-none c.args.self.now.list c.args.self.now.stripes c.args.self.now refl c.args.number c.in_default.ensures _

pub returns-in_default-clause-several : goal.returns-in_default-clause-several
returns-in_default-clause-several c = counted-none c.args.self.now.list c.args.self.now.stripes c.args.self.now refl c.args.number c.in_default.ensures _ _
