-- Internal: no public clause reaches these definitions.
-- The calls of scripts, and what is printed of their replies.
use Rattle.std.specs.Prelude.{◌≡◌, ℕ, ◌+◌, ◌≤◌, List, [], ◌∷◌, ◌++◌, length, map, flat_map, All}
use Rattle.lrc_topology.specs.declared.NodeInfo.{NodeInfo}
use Rattle.lrc_rules.specs.declared.command.Command.{Command}
use Rattle.lrc_rules.specs.declared.entry.Entry.{Entry}
use Rattle.lrc_rules.specs.Histories.{World, first_world, IsLegalFrom}
use Rattle.lrc_rules.specs.Sessions.{commands_of_each}
use Rattle.lrc_board.specs.declared.batch.Batch.{Batch}
use Rattle.lrc_sessions.specs.declared.track.Track.{Track}
use Rattle.lrc_sessions.specs.Receipts.{entries_at, IsBatchIn}
use Rattle.lrc_text.specs.Texts.{lines_from, script_line, replies_text_behind}

-- the sessions made the commands of their scripts, in order, and no others, in this history, which is legal from this
-- world on, and of whose replies this is printed
pub record AreMadeFrom (nodes : List NodeInfo) (base : World) (before : ℕ) (scripts : List (List Command))
    (history : List Entry) (text : List ℕ) : Type 0 where
  pub legal : IsLegalFrom nodes base history
  pub made : commands_of_each (length scripts) history ≡ scripts
  pub alone : All (λ e. e.session.value ≤ length scripts) history
  pub printed : text ≡ replies_text_behind before (length scripts) history

-- the same from the empty store on
abbrev pub AreMade : List NodeInfo → List (List Command) → List Entry → List ℕ → Type 0
AreMade nodes scripts history text = AreMadeFrom nodes first_world 0 scripts history text

-- all calls of the track's batches are in this history, at most 256 in a batch
abbrev pub IsTrackIn : List Entry → Track → Type 0
IsTrackIn history track = All (IsBatchIn 256 history) track.batches

-- what is printed of the calls of batches in this history
abbrev pub batches_text : List Entry → List Batch → List ℕ
batches_text history batches = flat_map (λ b. lines_from b.first (entries_at history b)) batches

-- what is printed of a session's track
abbrev pub track_text : List Entry → ℕ → Track → List ℕ
track_text history session track = script_line session ++ batches_text history track.batches

-- what is printed of the tracks of the sessions from this number on
abbrev pub tracks_text : List Entry → ℕ → List Track → List ℕ
tracks_text history session [] = []
tracks_text history session (track ∷ tracks) = track_text history session track ++ tracks_text history (session + 1) tracks
