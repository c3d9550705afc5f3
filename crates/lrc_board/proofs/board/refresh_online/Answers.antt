use Rattle.std.proofs.Common.{Bool, List, sym, ◌∙◌}
use Rattle.lrc_book.specs.Books.{state_of}
use Rattle.lrc_board.specs.declared.changes.ChangedNodes.{ChangedNodes}
use Rattle.lrc_board.specs.Refreshed.{online_anew}
use Rattle.lrc_board.proofs.RefreshLemmas.{fold-next, fold-all}
use Rattle.lrc_board.proofs.board.refresh_online.Goals as goal

pub loop-changed-preserved : goal.loop-changed-preserved
loop-changed-preserved c =
    let book = c.args.book.now in
    let l = c.loop-changed in
    record {
      long = c.refresh_nodes.ensures.whole;
      put = fold-next (λ (fs : List Bool) (x : ChangedNodes). online_anew book.nodes (state_of book) x fs) c.args.changes.now l.online c.refresh_nodes.new.online l.changed-index
          _ c.loop-changed-test.true c.refresh_nodes.ensures.value
          ∙ l.invariant.put;
    }

pub returns-clause-value : goal.returns-clause-value
returns-clause-value c =
    let book = c.args.book.now in
    let l = c.loop-changed in
    sym (fold-all (λ (fs : List Bool) (x : ChangedNodes). online_anew book.nodes (state_of book) x fs) c.args.changes.now l.online l.changed-index c.loop-changed-test.false)
    ∙ l.invariant.put
