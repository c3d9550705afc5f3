-- The results of scripts.
use Rattle.std.specs.Prelude.{◌≡◌, ℕ, ◌+◌, ◌-◌, ◌<◌, ◌≤◌, List}
use Rattle.std.specs.Prelude.{length, slice_index_or, slice_get, All, Option, Some, None, Vec}
use mathlib.Core.List.{IsPrefix}
use Rattle.lrc_rules.specs.declared.command.Command.{Command}
use Rattle.lrc_rules.specs.declared.entry.Entry.{Entry}
use Rattle.lrc_board.specs.declared.batch.Batch.{Batch}
use Rattle.lrc_board.specs.declared.receipt.Receipt.{Receipt}
use Rattle.lrc_sessions.specs.declared.track.Stop.{Stop}
use Rattle.lrc_sessions.specs.declared.track.Stop.TheVariants.{Fault, Gate}
use Rattle.lrc_sessions.specs.declared.track.Track.{Track}
use Rattle.lrc_sessions.specs.Views.{SessionView}
use Rattle.lrc_sessions.specs.Calls.{IsEntryOf, IsFullIn}
use Rattle.lrc_sessions.specs.Receipts.{receipts_in, IsBatchIn}

-- Why a script stopped after this number of calls: it did not, and made all calls; or the next call returned a fault;
-- or a gate that may stop scripts stopped it before the next call.
abbrev pub StopFits : Type 0 → List Command → ℕ → Option Stop → Type 0
StopFits may_stop script calls None = calls ≡ length script
StopFits may_stop script calls (Some (Fault f)) = calls < length script
StopFits may_stop script calls (Some Gate) = (calls < length script) × may_stop

-- the entry of the call is among these entries, at the receipt's place
abbrev pub StandsAt : ℕ → Command → Receipt → List Entry → Type 0
StandsAt number command r seen = (e : Entry) × (slice_get seen (r.place - 1) ≡ Some e) × IsEntryOf number command r.reply e

-- The entry of each receipt is among those that the session with this number has seen, at the receipt's place, with the
-- script's command. The places are above the number of entries that it had seen before, and rise.
pub record AreStanding (number former : ℕ) (script : List Command) (receipts : List Receipt) (seen : List Entry) : Type 0 where
  pub stand : (i : ℕ) (r : Receipt) (c : Command) → i < length receipts
      → StandsAt number (slice_index_or script i c) (slice_index_or receipts i r) seen
  pub above : (i : ℕ) (r : Receipt) → i < length receipts
      → (former < (slice_index_or receipts i r).place) × ((slice_index_or receipts i r).place ≤ length seen)
  pub rise : (i j : ℕ) (r q : Receipt) → i < j → j < length receipts
      → (slice_index_or receipts i r).place < (slice_index_or receipts j q).place

-- a session whose script a fault stopped has seen the whole history, or not, as the fault says
abbrev pub StopIsSeen : ℕ → List Entry → Option Stop → Type 0
StopIsSeen limit seen None = Unit {0}
StopIsSeen limit seen (Some (Fault f)) = IsFullIn limit seen f
StopIsSeen limit seen (Some Gate) = Unit {0}

-- what is known of call n of a session for which both hooks of a gate ran
abbrev pub Passes : (ℕ → ℕ → Type 0) → (ℕ → ℕ → Type 0) → ℕ → ℕ → Type 0
Passes lets tells session n = lets session n × tells session n

-- this number of calls of a session, counted from 1, passed a gate
abbrev pub HavePassed : (ℕ → ℕ → Type 0) → ℕ → ℕ → Type 0
HavePassed passes session calls = (i : ℕ) → i < calls → passes session (i + 1)

-- A session ran a script: it keeps its number, and made as many more calls as there are receipts, at most those of the
-- script, each of which passed the gate. What it has now seen starts with what it had seen before, and has the entries
-- of the receipts.
abbrev pub IsRun : ℕ → Type 0 → (ℕ → ℕ → Type 0) → List Command → SessionView → SessionView → List Receipt → Option Stop → Type 0
IsRun limit may_stop passes script before after receipts stopped =
    (after.number ≡ before.number) × (after.made ≡ before.made + length receipts) × (length receipts ≤ length script)
    × StopFits may_stop script (length receipts) stopped × IsPrefix before.seen after.seen
    × AreStanding before.number (length before.seen) script receipts after.seen × StopIsSeen limit after.seen stopped
    × HavePassed passes before.number (length receipts)

-- A session ran a script in batches, each of one call or more and at most so many, all of which it has seen: their
-- receipts are those of the run.
abbrev pub IsRunInBatches : ℕ → ℕ → Type 0 → (ℕ → ℕ → Type 0) → List Command → SessionView → SessionView
    → List Batch → Option Stop → Type 0
IsRunInBatches limit most may_stop passes script before after batches stopped =
    IsRun limit may_stop passes script before after (receipts_in after.seen batches) stopped
    × All (IsBatchIn most after.seen) batches

-- session i ran script i, and track i is its result
abbrev pub AreRun : {Z : Type 0} → ℕ → ℕ → Type 0 → (ℕ → ℕ → Type 0) → List (Vec Command Z) → List SessionView
    → List SessionView → List Track → Type 0
AreRun {Z} limit most may_stop passes scripts before after tracks =
    (length after ≡ length scripts) × (length tracks ≡ length scripts)
    × ((i : ℕ) (s : Vec Command Z) (b a : SessionView) (t : Track) → i < length scripts
    → IsRunInBatches limit most may_stop passes (slice_index_or scripts i s).items (slice_index_or before i b)
    (slice_index_or after i a) (slice_index_or tracks i t).batches (slice_index_or tracks i t).stopped)
