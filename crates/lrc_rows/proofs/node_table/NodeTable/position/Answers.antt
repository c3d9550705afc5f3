use Rattle.lrc_rows.proofs.NodeLemmas.{positioned}
use Rattle.lrc_rows.proofs.node_table.NodeTable.position.Goals as goal

pub returns : goal.returns
returns c = rw (← c.self.view_is) (positioned c.self.inside.nodes c.self.inside.stripes.items c.args.number c.self.invariant.long c.position.result c.position.ensures)
