-- What is written for the name of a number.
use Rattle.std.specs.Prelude.{◌≡◌, ◌≢◌, ℕ, ◌<◌, ◌++◌, List, [], ◌∷◌, drop, length, Option, Some, None}
use Rattle.lrc_embed.specs.declared.status.TheConstants.{DONE, UNKNOWN, SHORT}
use Rattle.lrc_embed.specs.Statuses.{IsOneOf}

-- The status, the buffer and the length are those of a name. With `DONE` the buffer starts with it, and is as it was
-- after it; with `SHORT` it has no room for it, and only the length is written; with `UNKNOWN` there is no name.
pub record IsName (name : Option (List ℕ)) (status : ℕ) (before after : List ℕ) (length_before length_after : ℕ)
    : Type 0 where
  pub done : (status ≡ DONE)
      → (word : List ℕ) × (name ≡ Some word) × (length_after ≡ length word)
      × (after ≡ word ++ drop (length word) before)
  pub short : (status ≡ SHORT)
      → (word : List ℕ) × (name ≡ Some word) × (length_after ≡ length word)
      × (length before < length word)
  pub unknown : (status ≡ UNKNOWN) → name ≡ None
  pub statuses : IsOneOf status (DONE ∷ UNKNOWN ∷ SHORT ∷ [])
  pub unwritten : (status ≢ DONE) → after ≡ before
  pub unneeded : (status ≡ UNKNOWN) → length_after ≡ length_before
