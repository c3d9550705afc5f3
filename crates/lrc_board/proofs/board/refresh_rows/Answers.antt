use Rattle.std.proofs.Common.{sym, ap, ◌∙◌}
use Rattle.lrc_book.specs.Books.{state_of}
use Rattle.lrc_board.specs.declared.changes.ChangedStripes.{ChangedStripes}
use Rattle.lrc_board.specs.Views.{Rows}
use Rattle.lrc_board.specs.Refreshed.{rows_anew}
use Rattle.lrc_board.proofs.RefreshLemmas.{fold-next, fold-all}
use Rattle.lrc_board.proofs.board.refresh_rows.Goals as goal

pub loop-changed-preserved : goal.loop-changed-preserved
loop-changed-preserved c =
    let st = state_of c.args.book.now in
    let l = c.loop-changed in
    record {
      long = c.refresh_changed.ensures.whole;
      put = fold-next (λ (rs : Rows) (x : ChangedStripes). rows_anew st x rs) c.args.changes.now l.rows c.refresh_changed.new.rows l.changed-index c.changed-item.result
          c.loop-changed-test.true (c.refresh_changed.ensures.value ∙ ap (λ (x : ChangedStripes). rows_anew st x l.rows) c.changed-item.is)
          ∙ l.invariant.put;
    }

pub returns-clause-value : goal.returns-clause-value
returns-clause-value c =
    let l = c.loop-changed in
    sym (fold-all (λ (rs : Rows) (x : ChangedStripes). rows_anew (state_of c.args.book.now) x rs) c.args.changes.now l.rows l.changed-index c.loop-changed-test.false)
    ∙ l.invariant.put
