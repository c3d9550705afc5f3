use Rattle.std.proofs.Common.{◌≡◌, List, Some, option_map, sym, ap, ◌∙◌, subst, rules}
use Rattle.std.specs.Prelude.{slice_get}
use Rattle.lrc_topology.specs.declared.NodeInfo.{NodeInfo}
use Rattle.lrc_topology.specs.Nodes.{AreNodes}
use Rattle.lrc_book.specs.Books.{state_of}
use Rattle.lrc_walks.specs.WalkRows.{node_record}
use Rattle.lrc_walks.proofs.RowLemmas.{node-known}
use Rattle.lrc_walks.proofs.walks.node_in.Goals as goal

pub node_record-requires : goal.node_record-requires
node_record-requires c =
    let here : slice_get c.as_slice.result.now c.args.position ≡ Some c.in_ok-node.node = search rules in
    let all : c.as_slice.result.now ≡ c.args.book.now.nodes = c.as_slice.ensures ∙ c.nodes-nodes.ensures.rest ∙ c.topology.ensures in
    let got : slice_get c.args.book.now.nodes c.args.position ≡ Some c.in_ok-node.node = ap (λ (ns : List NodeInfo). slice_get ns c.args.position) (sym all) ∙ here in
    let known : AreNodes c.args.book.now.nodes = subst AreNodes c.topology.ensures c.nodes-nodes.ensures.known in
    node-known c.args.book.now.nodes known c.args.position c.in_ok-node.node got

pub returns : goal.returns
returns c =
    let here : slice_get c.as_slice.result.now c.args.position ≡ Some c.in_ok-node.node = search rules in
    let all : c.as_slice.result.now ≡ c.args.book.now.nodes = c.as_slice.ensures ∙ c.nodes-nodes.ensures.rest ∙ c.topology.ensures in
    let got : slice_get c.args.book.now.nodes c.args.position ≡ Some c.in_ok-node.node = ap (λ (ns : List NodeInfo). slice_get ns c.args.position) (sym all) ∙ here in
    ap Some c.node_record.ensures ∙ sym (ap (option_map (node_record (state_of c.args.book.now))) got)
