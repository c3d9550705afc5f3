-- Internal: no public clause reaches these definitions.
-- The rule of the shared word and of the cells, and what the step tells that adds a call.
use Rattle.std.specs.Prelude.{◌≡◌, ℕ, ◌<◌, ◌==◌, true, List, [], ◌∷◌, ◌++◌, length, slice_get, Some, MatchBool}
use Rattle.logbook.specs.Pages.{Cell, Step, View, Book, Named}
use Rattle.boxcar.specs.Table.{first, others}
use Rattle.lrc_feed.specs.declared.feed.FedCall.{FedCall}

-- The first word is the number of calls. A book has two words, of which this one leaves the second at 0.
abbrev pub IsCounted : List Cell → List FedCall → Type 0
IsCounted cells log = cells ≡ (length log, true) ∷ (0, true) ∷ []

-- the first word
abbrev pub head_of : Book → Named
head_of b = record { tracked = true; key = 0; book = b }

-- the call was added to all that was seen; or there were more calls, and they were seen
abbrev pub Appends : Step FedCall → View FedCall ℕ → ℕ → View FedCall ℕ → Type 0
Appends s v found w =
    MatchBool (found == s.old) ((length v.0 ≡ s.old) × (w.0 ≡ v.0 ++ s.ask ∷ [])) (s.old < length w.0)

-- the numbers in the tags of a feed's cells
abbrev pub tag_numbers : Book → List ℕ
tag_numbers b = b.number ∷ b.log_name ∷ b.cells_name ∷ []

-- the feed of the tag has this call at the number of the tag, as these calls show
pub record IsFed (tag : List ℕ) (call : FedCall) (book : Book) (log : List FedCall) : Type 0 where
  pub feed : others tag ≡ tag_numbers book
  pub there : slice_get log (first tag) ≡ Some call
