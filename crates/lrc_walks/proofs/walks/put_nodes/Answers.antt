use Rattle.std.proofs.Common.{◌≡◌, ◌-◌, List, option_map, take, length, subst, ap, ◌∙◌, rules}
use Rattle.std.specs.Prelude.{slice_get}
use Rattle.std.specs.List.{filter_map, range_with_len}
use Rattle.lrc_topology.specs.declared.NodeInfo.{NodeInfo}
use Rattle.lrc_book.specs.Books.{state_of}
use Rattle.lrc_records.specs.declared.node.LrcNode.{LrcNode}
use Rattle.lrc_walks.specs.WalkRows.{AreFirstRows, node_record}
use Rattle.lrc_walks.proofs.WalkLemmas.{rows-found}
use Rattle.lrc_walks.proofs.walks.put_nodes.Goals as goal

pub returns : goal.returns
returns c =
    let nodes = c.args.book.now.nodes in
    let row = node_record (state_of c.args.book.now) in
    let end : c.as_slice-end.result.now ≡ nodes = c.as_slice-end.ensures ∙ c.nodes.ensures.rest ∙ c.topology.ensures in
    let all =
    ap (λ (ns : List NodeInfo). filter_map (λ i. option_map row (slice_get nodes i)) (range_with_len c.args.from (length ns - c.args.from))) end ∙ rows-found row nodes c.args.from in
    subst (λ (l : List LrcNode). AreFirstRows (take (length c.args.rows.now) l) c.put_found.result c.args.rows.now c.put_found.new.rows) all
    (c.put_found.ensures (λ i. option_map row (slice_get nodes i)) (λ i found low high is. search rules))
