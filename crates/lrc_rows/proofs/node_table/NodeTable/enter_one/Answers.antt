use Rattle.std.proofs.Common.{Some, get_or, arith, sym, ap, ◌∙◌}
use Rattle.std.proofs.lemmas.List.{get_or_default}
use Rattle.lrc_topology.specs.declared.NodeInfo.{NodeInfo}
use Rattle.lrc_nodes.proofs.StateLemmas.{no_state}
use Rattle.lrc_rows.proofs.NodeStateLemmas.{found, found-node, inserted}
use Rattle.lrc_rows.proofs.node_table.NodeTable.enter_one.Goals as goal

pub index_mut-set-requires : goal.index_mut-set-requires
index_mut-set-requires c =
    let at = found c.self.inside.nodes c.self.inside.stripes.items c.args.self.now c.self.view_is c.args.number c.position_of-position.result c.position_of-position.ensures in
    omega (arith, at.1, at.2, c.self.inside.stripes.ok.0)

pub node_at-node-requires : goal.node_at-node-requires
node_at-node-requires c = (found c.self.inside.nodes c.self.inside.stripes.items c.args.self.now c.self.view_is c.args.number c.position_of-position.result c.position_of-position.ensures).1

pub returns-clause-on : goal.returns-clause-on
returns-clause-on c =
    inserted c.self.inside.nodes c.self.inside.stripes.items c.args.self.now c.self.view_is c.args.number c.position_of-position.result c.position_of-position.ensures c.index_mut-set.result.now _
    c.index_mut-set.ensures.value c.args.stripe c.insert.ensures

pub returns-clause-node : goal.returns-clause-node
returns-clause-node c =
    let states = c.self.inside.nodes in
    let p = c.position_of-position.result in
    let at = found states c.self.inside.stripes.items c.args.self.now c.self.view_is c.args.number p c.position_of-position.ensures in
    let x = get_or states p no_state in
    ap (λ (n : NodeInfo). Some n) (c.node_at-node.ensures no_state)
    ∙ found-node states c.self.inside.stripes.items c.args.self.now c.self.view_is c.args.number p c.position_of-position.ensures x (sym (get_or_default states p x no_state at.1))
