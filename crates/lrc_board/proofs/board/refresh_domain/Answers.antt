use Rattle.std.proofs.Common.{◌≡◌, Bool, List, slice_set, sym, ap, ◌∙◌}
use Rattle.lrc_topology.specs.declared.NodeInfo.{NodeInfo}
use Rattle.lrc_topology.specs.Nodes.{nodes_in}
use Rattle.lrc_rules.specs.States.{online_at}
use Rattle.lrc_book.specs.Books.{state_of}
use Rattle.lrc_board.specs.Refreshed.{put_flags}
use Rattle.lrc_board.proofs.RefreshLemmas.{fold-next, fold-all}
use Rattle.lrc_board.proofs.board.refresh_domain.Goals as goal

pub loop-node-preserved : goal.loop-node-preserved
loop-node-preserved c =
    let book = c.args.book.now in
    let test = online_at book.nodes (state_of book) in
    let l = c.loop-node in
    record {
      long = c.refresh_node.ensures.whole;
      put = fold-next (λ (fs : List Bool) (m : NodeInfo). slice_set fs m.number.value (test m.number)) c.nodes_in-nodes.result.now l.online c.refresh_node.new.online l.node-index _ c.loop-node-test.true c.refresh_node.ensures.value ∙ l.invariant.put;
    }

pub returns-clause-value : goal.returns-clause-value
returns-clause-value c =
    let book = c.args.book.now in
    let test = online_at book.nodes (state_of book) in
    let l = c.loop-node in
    let listed : c.nodes_in-nodes.result.now ≡ nodes_in book.nodes c.args.domain = c.nodes_in-nodes.ensures ∙ ap (λ (ns : List NodeInfo). nodes_in ns c.args.domain) c.topology.ensures in
    sym (fold-all (λ (fs : List Bool) (m : NodeInfo). slice_set fs m.number.value (test m.number)) c.nodes_in-nodes.result.now l.online l.node-index c.loop-node-test.false) ∙ l.invariant.put
    ∙ ap (put_flags test c.args.online.now) listed
