-- The update of a board from a book after one more batch.
use Rattle.std.proofs.Common.{◌≡◌, ℕ, List, length, map, ap, ◌∙◌}
use Rattle.logbook.specs.Pages.{Book}
use Rattle.lrc_topology.specs.declared.NodeInfo.{NodeInfo}
use Rattle.lrc_rules.specs.States.{load}
use Rattle.lrc_rules.specs.Histories.{first_world, state_from, IsLegal, state_after}
use Rattle.lrc_rules.specs.Boards.{Loads}
use Rattle.lrc_book.specs.Books.{BookView, state_of}
use Rattle.lrc_board.specs.declared.line.Line.{Line}
use Rattle.lrc_board.specs.Lines.{written}
use Rattle.lrc_board.specs.Views.{BoardView, IsBoard, published}
use Rattle.lrc_board.specs.Refreshed.{ChangesView, both_changes, OthersStay, AreBoards, IsWhole, rows_refreshed, online_refreshed, loads_refreshed, renewed}
use Rattle.lrc_board.proofs.HomesLemmas.{rows-long, online-long}
use Rattle.lrc_board.proofs.RefreshLemmas.{loads-whole, rows-right, online-right, loads-right, stays-both}

pub board-whole : (book : Book) (start : ℕ) (nodes : List NodeInfo) (x : BoardView) → IsBoard book start nodes x → IsWhole nodes x
board-whole book start nodes x is =
    let st = state_after nodes (published start x) in (
      (ap length is.shows.0.0 ∙ rows-long st, ap length is.shows.0.1 ∙ online-long nodes st),
      ap (λ (rows : Loads). map (λ row. row.0) rows) is.shows.1 ∙ loads-whole nodes (load st),
    )

pub board-renewed : (book : Book) (start : ℕ) (nodes : List NodeInfo) (last now : ChangesView) (shown spare : BoardView)
    (b : BookView) (count : ℕ) (lines : List Line)
    → AreBoards book start nodes last shown spare → b.nodes ≡ nodes → b.history ≡ written start lines → b.base ≡ first_world
    → count ≡ length (written start lines) → IsLegal nodes (written start lines)
    → OthersStay nodes now (state_after nodes (published start shown)) (state_after nodes (written start lines))
    → IsBoard book start nodes (renewed spare b (both_changes last now) count lines)
board-renewed book start nodes last now shown spare b count lines are same written_is began counted legal stay =
    let first = state_after nodes (published start spare) in
    let second = state_after nodes (published start shown) in
    let third = state_after nodes (written start lines) in
    let changes = both_changes last now in
    let since = stays-both nodes first second third last now are.between stay in
    let is : state_of b ≡ third = λ i. state_from (same i) (began i) (written_is i) in
    record {
      named = are.spare_is.named;
      count_is = counted;
      shows = (
        (
          (λ i. rows_refreshed (is i) changes.stripes (are.spare_is.shows.0.0 i)) ∙ rows-right nodes first third changes since,
          (λ i. online_refreshed (same i) (is i) changes.nodes (are.spare_is.shows.0.1 i)) ∙ online-right nodes first third changes since,
        ),
        (λ i. loads_refreshed (same i) (is i) changes.loads (are.spare_is.shows.1 i)) ∙ loads-right nodes first third changes since,
      );
      legal = legal;
    }
