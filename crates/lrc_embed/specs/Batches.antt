-- What calls leave that are made one after the other.
use Rattle.std.specs.Prelude.{◌≡◌, ℕ, List, [], ◌∷◌, take, drop, Some}
use Rattle.std.specs.List.{slice_get}
use Rattle.lrc_book.specs.Books.{BookView}
use Rattle.lrc_records.specs.declared.entry.LrcEntry.{LrcEntry}
use Rattle.lrc_embed.specs.Calls.{contents}
use Rattle.lrc_embed.specs.Entries.{IsCallEntry}

-- each call has its entry, as `lrc_embed_call_entry` makes it after those before; they lead from the first book to the second
abbrev pub AreCalls : List LrcEntry → List LrcEntry → BookView → BookView → Type 0
AreCalls [] [] b after = contents (Some after) ≡ contents (Some b)
AreCalls (call ∷ calls) (entry ∷ entries) b after =
    (next : BookView) × IsCallEntry call.session call.command entry b next × AreCalls calls entries next after
AreCalls _ _ b after = ⊥

-- of these calls the first are made, `count` in number; their entries stand in their places, and the other calls as they were
abbrev pub AreMade : ℕ → List LrcEntry → List LrcEntry → BookView → BookView → Type 0
AreMade count calls entries b after = AreCalls (take count calls) (take count entries) b after × (drop count entries ≡ drop count calls)

-- the calls before this position are made, and this holds of the one there, in the book after them
abbrev pub StopsBefore : (LrcEntry → BookView → Type 0) → List LrcEntry → ℕ → BookView → Type 0
StopsBefore P calls count after = (call : LrcEntry) × (slice_get calls count ≡ Some call) × P call after
