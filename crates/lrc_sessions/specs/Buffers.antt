-- Internal: no public clause reaches these definitions.
-- The memory of a run.
use Rattle.std.specs.Prelude.{◌≡◌, ℕ, ◌*◌, ◌<◌, ◌≤◌, List, [], length, slice_index_or, Vec, vec_capacity}
use Rattle.lrc_rules.specs.declared.command.Command.{Command}
use Rattle.lrc_board.specs.declared.batch.Batch.{Batch}

-- an empty list of batches, with room for those of the script's calls, so many in each
abbrev pub HasRoomFor : {Y Z : Type 0} → ℕ → Vec Command Z → Vec Batch Y → Type 0
HasRoomFor most script batches = (batches.items ≡ []) × (length script.items ≤ vec_capacity batches * most)

-- there is such a list for each script
abbrev pub HaveRoomFor : {Y Z : Type 0} → ℕ → List (Vec Command Z) → List (Vec Batch Y) → Type 0
HaveRoomFor {Y} {Z} most scripts buffers =
    (length buffers ≡ length scripts)
    × ((i : ℕ) (s : Vec Command Z) (b : Vec Batch Y) → i < length scripts
    → HasRoomFor most (slice_index_or scripts i s) (slice_index_or buffers i b))
