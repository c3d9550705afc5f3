use Rattle.lrc_rows.proofs.ShortLemmas.{none-offline}
use Rattle.lrc_rows.proofs.node_table.NodeTable.are_all_online.Goals as goal

pub returns : goal.returns
returns c = λ none n s on. none-offline c.self.inside.nodes c.self.inside.stripes.items c.args.self.now c.self.view_is c.self.invariant.long (c.are_all_online.ensures.0 none) n s on
