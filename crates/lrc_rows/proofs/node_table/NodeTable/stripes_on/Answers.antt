use Rattle.std.proofs.Common.{refl}
use Rattle.lrc_rows.proofs.NodeStateLemmas.{missed-on, set-same}
use Rattle.lrc_rows.proofs.node_table.NodeTable.stripes_on.Goals as goal

pub returns-in_err-position-clause-none : goal.returns-in_err-position-clause-none
returns-in_err-position-clause-none c = rw c.from_residual.ensures (λ s. missed-on c.args.self.now.list c.args.self.now.stripes c.args.self.now refl c.args.number c.in_err-position.ensures s)

pub returns-clause-set : goal.returns-clause-set
returns-clause-set c =
    set-same c.self.inside.nodes c.self.inside.stripes.items c.args.self.now c.self.view_is c.args.number c.in_ok-position.position c.in_ok-position.ensures
    c.index.result.now c.index.result.now c.index.ensures
