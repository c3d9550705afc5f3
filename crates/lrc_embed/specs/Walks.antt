-- What a walk over the book of a handle writes.
use Rattle.std.specs.Prelude.{◌≡◌, ◌≢◌, ℕ, List, [], ◌∷◌, take, length, Option, None}
use Rattle.lrc_book.specs.Books.{BookView}
use Rattle.lrc_walks.specs.WalkRows.{AreFirstRows}
use Rattle.lrc_embed.specs.declared.status.TheConstants.{DONE, IS_CLOSED}
use Rattle.lrc_embed.specs.Statuses.{IsOneOf}
use Rattle.lrc_embed.specs.Calls.{Of}

-- A walk changes nothing. With `DONE` the first rows are the first of this list, as many as there is room for; else
-- nothing is written. So all of the list is written if fewer rows are than there is room for.
pub record IsWalk {T : Type 0} (Rows : BookView → List T) (book book_after : Option BookView) (status : ℕ)
    (before after : List T) (count_before count_after : ℕ) : Type 0 where
  pub same : book_after ≡ book
  pub done : (status ≡ DONE) → Of book (λ b. AreFirstRows (take (length before) (Rows b)) count_after before after)
  pub closed : (status ≡ IS_CLOSED) → book ≡ None
  pub statuses : IsOneOf status (DONE ∷ IS_CLOSED ∷ [])
  pub unwritten : (status ≢ DONE) → (after ≡ before) × (count_after ≡ count_before)
