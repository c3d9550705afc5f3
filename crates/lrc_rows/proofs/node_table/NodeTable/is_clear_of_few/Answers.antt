use Rattle.std.proofs.Common.{map}
use Rattle.lrc_nodes.specs.States.{is_node_offline}
use Rattle.lrc_rows.proofs.ClearLemmas.{clear-online, clear-so_far}
use Rattle.lrc_rows.proofs.node_table.NodeTable.is_clear_of_few.Goals as goal

pub returns-in-None : goal.returns-in-None
returns-in-None c = λ same.
    let s = c.args.stripe in
    clear-online c.self.inside.nodes c.self.inside.stripes.items c.args.self.now c.self.view_is c.self.invariant.long s
    (clear-so_far (map is_node_offline c.self.inside.nodes) c.self.inside.stripes.items s c.loop.from c.loop.invariant c.in-None.ensures)
