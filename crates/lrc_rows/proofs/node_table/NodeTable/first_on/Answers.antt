use Rattle.std.proofs.Common.{arith, refl}
use Rattle.lrc_rows.proofs.NodeStateLemmas.{found, missed-on, set-same}
use Rattle.lrc_rows.proofs.node_table.NodeTable.first_on.Goals as goal

pub returns-in_err-position : goal.returns-in_err-position
returns-in_err-position c = rw c.from_residual.ensures (λ t later. missed-on c.args.self.now.list c.args.self.now.stripes c.args.self.now refl c.args.number c.in_err-position.ensures t)

pub index-requires : goal.index-requires
index-requires c =
    let at = found c.self.inside.nodes c.self.inside.stripes.items c.args.self.now c.self.view_is c.args.number c.in_ok-position.position c.in_ok-position.ensures in
    omega (arith, at.1, at.2, c.self.inside.stripes.ok.0)

pub returns : goal.returns
returns c =
    rw (← set-same c.self.inside.nodes c.self.inside.stripes.items c.args.self.now c.self.view_is c.args.number c.in_ok-position.position c.in_ok-position.ensures c.index.result.now c.index.result.now
    c.index.ensures) c.first_from.ensures
