-- Internal: no public clause reaches these definitions.
-- What the checks of a bundle find: a refusal, or nodes and the commands of its scripts.
use Rattle.std.specs.Prelude.{◌≡◌, ℕ, ◌+◌, ◌≤◌, All, List, [], ◌∷◌, length, map, sum_by, Option, None, option_map, Vec}
use Rattle.std.specs.List.{AllZip}
use Rattle.lrc_topology.specs.declared.NodeInfo.{NodeInfo}
use Rattle.lrc_topology.specs.Documents.{IsTopologyOf}
use Rattle.lrc_book.specs.declared.book.TheConstants.{HISTORY_LIMIT}
use Rattle.lrc_rules.specs.declared.command.Command.{Command}
use Rattle.lrc_script.specs.declared.bundle.ScriptText.{ScriptText}
use Rattle.lrc_script.specs.Scripts.{lines_of, IsScript, BadLine, or_else, first_bad}
use Rattle.lrc_script.specs.Bundles.{scripts_of, topology_of}
use Rattle.lrc_outputs.specs.declared.status.Status.{Status}
use Rattle.lrc_outputs.specs.Limits.{script_limit}
use Rattle.lrc_outputs.specs.Outputs.{early_refusal_over, first_bad_of, AreCommandsOf, Ending, IsAnsweredIn}

-- ---- scripts

-- the commands of each of these lists
abbrev pub lists_of : {Z : Type 0} → List (Vec Command Z) → List (List Command)
lists_of scripts = map (λ script. script.items) scripts

-- the first bad line of these texts
abbrev pub first_bad_in : List ScriptText → Option BadLine
first_bad_in [] = None
first_bad_in (text ∷ texts) = or_else (first_bad text.first_line (lines_of text.text.now)) (first_bad_in texts)

-- the bad line, if there is one, with its number after this many lines more
abbrev pub shifted : ℕ → Option BadLine → Option BadLine
shifted passed found = option_map (λ bad. record { line = passed + bad.line; cause = bad.cause }) found

-- no line of the texts is bad, and these are the commands of each
pub record AreParsed (texts : List ScriptText) (lists : List (List Command)) : Type 0 where
  pub no_bad : first_bad_in texts ≡ None
  pub commands : AllZip (λ text commands. IsScript (lines_of text.text.now) commands) texts lists

-- there are not too many scripts, and a history has room for the commands of each, and of all together
pub record AreFew {Z : Type 0} (scripts : List (Vec Command Z)) : Type 0 where
  pub scripts_few : length scripts ≤ script_limit
  pub each_few : All (λ script. length script.items ≤ HISTORY_LIMIT) scripts
  pub commands_few : sum_by (λ script. length script.items) scripts ≤ HISTORY_LIMIT

-- ---- bundles

-- nodes and scripts that pass all checks have no text, so each text is that of a refusal
abbrev pub NoEnding : Ending
NoEnding nodes scripts text status = ⊥

-- a check of this bundle, which has at most so many scripts, fails with this text and this status; a bad line has this
-- text
abbrev pub IsRefusalIn : ℕ → (BadLine → List ℕ) → List ℕ → List ℕ → Status → Type 0
IsRefusalIn most bad_text bundle text status =
    IsAnsweredIn (record { most = most; bad_text = bad_text; ending = NoEnding }) bundle text status

-- the bundle passes all checks, with at most so many scripts, and has these nodes and these commands of each script
pub record IsAccepted {Z : Type 0} (most : ℕ) (bundle : List ℕ) (nodes : List NodeInfo)
    (scripts : List (Vec Command Z)) : Type 0 where
  pub early : early_refusal_over most bundle ≡ None
  pub read : IsTopologyOf (topology_of bundle) nodes
  pub no_bad : first_bad_of (scripts_of bundle) ≡ None
  pub commands : AreCommandsOf (scripts_of bundle) (lists_of scripts)
  pub few : AreFew scripts
