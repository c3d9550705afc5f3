use Rattle.std.proofs.Common.{Some, sym}
use Rattle.lrc_rows.proofs.NodeLemmas.{positioned}
use Rattle.lrc_rows.proofs.NodeStateLemmas.{known-state}
use Rattle.lrc_rows.proofs.node_table.NodeTable.position_of.Goals as goal

pub position_of-requires : goal.position_of-requires
position_of-requires c = known-state c.self.inside.nodes c.self.inside.stripes.items c.args.self.now c.self.view_is c.args.number c.requires

pub returns : goal.returns
returns c = rw (← c.self.view_is) (positioned c.self.inside.nodes c.self.inside.stripes.items c.args.number c.self.invariant.long (Some c.position_of.result) (sym c.position_of.ensures))
