-- The receipts of batches of calls.
use Rattle.std.specs.Prelude.{ℕ, ◌+◌, ◌-◌, ◌≤◌, if◌then◌else◌, nat_lt, List}
use Rattle.std.specs.Prelude.{[], ◌∷◌, ◌++◌, length, take, drop, flat_map}
use Rattle.lrc_rules.specs.declared.entry.Entry.{Entry}
use Rattle.lrc_board.specs.declared.batch.Batch.{Batch}
use Rattle.lrc_board.specs.declared.receipt.Receipt.{Receipt}

-- the entries of a batch in this history
abbrev pub entries_at : List Entry → Batch → List Entry
entries_at history b = take b.count (drop (b.first - 1) history)

-- the receipts of entries that stand one after another in a history, the first at this place
abbrev pub receipts_from : ℕ → List Entry → List Receipt
receipts_from place [] = []
receipts_from place (e ∷ es) = record { place = place; reply = e.reply } ∷ receipts_from (place + 1) es

-- the receipts of the calls of batches, in this history
abbrev pub receipts_in : List Entry → List Batch → List Receipt
receipts_in history batches = flat_map (λ b. receipts_from b.first (entries_at history b)) batches

-- the batch has one call or more, at most so many, and all of them are among these entries
pub record IsBatchIn (most : ℕ) (seen : List Entry) (b : Batch) : Type 0 where
  pub some : 1 ≤ b.count
  pub few : b.count ≤ most
  pub placed : 1 ≤ b.first
  pub within : b.first + b.count ≤ length seen + 1

-- (internal) the batches, and one more unless it has no call
abbrev pub with_batch : List Batch → Batch → List Batch
with_batch batches b = if nat_lt 0 b.count then batches ++ b ∷ [] else batches
