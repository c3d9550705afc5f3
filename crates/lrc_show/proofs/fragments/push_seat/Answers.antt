use Rattle.std.proofs.Common.{rules, ◌≡◌, Some, sym, ap, ◌∙◌}
use Rattle.lrc_topology.specs.Nodes.{node_at}
use Rattle.lrc_rules.proofs.NodeLemmas.{member-node_at}
use Rattle.lrc_show.proofs.fragments.push_seat.Goals as goal

pub facts_of-requires : goal.facts_of-requires
facts_of-requires c =
    let nodes = c.args.book.now.nodes in
    let found : node_at nodes c.args.seat.node ≡ Some c.in-Some.node = search rules in
    ap (node_at nodes) (sym (member-node_at nodes c.args.seat.node c.in-Some.node found).1) ∙ found
