-- What a run writes for a bundle, and how it ends.
use Rattle.std.specs.Prelude.{◌≡◌, ◌≢◌, ℕ, ◌≤◌, ◌<◌, if◌then◌else◌, nat_lt}
use Rattle.std.specs.Prelude.{List, [], ◌∷◌, length, All, codes, Option, Some, None, Result, Ok, Err}
use Rattle.std.specs.List.{AllZip}
use Rattle.lrc_topology.specs.declared.NodeInfo.{NodeInfo}
use Rattle.lrc_topology.specs.declared.error.TopologyError.{TopologyError}
use Rattle.lrc_topology.specs.declared.error.TopologyError.TheVariants.{OutOfMemory}
use Rattle.lrc_topology.specs.Documents.{IsTopologyOf, IsRefusedBy}
use Rattle.lrc_rules.specs.declared.command.Command.{Command}
use Rattle.lrc_rules.specs.declared.entry.Entry.{Entry}
use Rattle.lrc_rules.specs.Histories.{World, first_world, IsLegalFrom}
use Rattle.lrc_rules.specs.Sessions.{commands_of_each}
use Rattle.lrc_outputs.specs.declared.status.Status.{Status}
use Rattle.lrc_outputs.specs.declared.status.Status.TheVariants as ended
use Rattle.lrc_script.specs.Scripts.{IsScript, BadLine, or_else, first_bad}
use Rattle.lrc_script.specs.Bundles.{Script, scripts_of, topology_of}
use Rattle.lrc_outputs.specs.Limits.{bundle_limit, script_limit}
use Rattle.lrc_text.specs.Texts.{output_text_from}
use Rattle.lrc_refusals.specs.Refusals.{topology_line}
use Rattle.lrc_outputs.specs.RefusedInputs.{bad_line_text}

-- ---- checks

-- the line for a bundle that is refused before its topology is read: it is too long, or has more than `most` scripts
abbrev pub early_refusal_over : ℕ → List ℕ → Option (List ℕ)
early_refusal_over most bundle =
    if nat_lt bundle_limit (length bundle) then Some (codes "bundle 1\n")
    else (if nat_lt most (length (scripts_of bundle)) then Some (codes "bundle 2\n") else None)

-- the same for a bundle that stands alone
abbrev pub early_refusal : List ℕ → Option (List ℕ)
early_refusal bundle = early_refusal_over script_limit bundle

-- the text is read as a topology with this outcome: its nodes, or why it is refused; `OutOfMemory` is no outcome
abbrev pub Reads : List ℕ → Result (List NodeInfo) TopologyError → Type 0
Reads text (Ok nodes) = IsTopologyOf text nodes
Reads text (Err error) = (error ≢ OutOfMemory) × IsRefusedBy text error

-- the first bad line of the scripts
abbrev pub first_bad_of : List Script → Option BadLine
first_bad_of [] = None
first_bad_of (script ∷ scripts) = or_else (first_bad script.first_line script.lines) (first_bad_of scripts)

-- the bundle passes all checks, and has two scripts or more
pub record RunsSeveral (bundle : List ℕ) : Type 0 where
  pub early : early_refusal bundle ≡ None
  pub nodes : List NodeInfo
  pub read : IsTopologyOf (topology_of bundle) nodes
  pub no_bad : first_bad_of (scripts_of bundle) ≡ None
  pub several : 1 < length (scripts_of bundle)

-- ---- the answer to a bundle: that of the first check that fails, or the one that it gets where all pass

-- what is written for nodes and scripts that pass all checks, and how it ends
abbrev pub Ending : Type 1
Ending = List NodeInfo → List Script → List ℕ → Status → Type 0

-- a way to judge bundles: the most scripts of one, the text for a bad line, and what is written where all checks pass
pub record Judging : Type 1 where
  pub most : ℕ
  pub bad_text : BadLine → List ℕ
  pub ending : Ending

-- after the check of the scripts' lines, which found this one bad, or none
abbrev pub IsAnsweredOver : Judging → List NodeInfo → List Script → Option BadLine → List ℕ → Status → Type 0
IsAnsweredOver way nodes scripts (Some bad) text status = (text ≡ way.bad_text bad) × (status ≡ ended.BadLine)
IsAnsweredOver way nodes scripts None text status = way.ending nodes scripts text status

-- after the check of the topology, with its outcome
abbrev pub IsAnsweredAfter : Judging → Result (List NodeInfo) TopologyError → List Script → List ℕ → Status → Type 0
IsAnsweredAfter way (Err error) scripts text status = (text ≡ topology_line error) × (status ≡ ended.Refused)
IsAnsweredAfter way (Ok nodes) scripts text status = IsAnsweredOver way nodes scripts (first_bad_of scripts) text status

-- after the checks of the bundle's length and of the number of scripts, of which one failed with this line, or none
abbrev pub IsAnsweredUnless : Judging → Option (List ℕ) → List ℕ → List ℕ → Status → Type 0
IsAnsweredUnless way (Some line) bundle text status = (text ≡ line) × (status ≡ ended.Refused)
IsAnsweredUnless way None bundle text status =
    (outcome : Result (List NodeInfo) TopologyError) × Reads (topology_of bundle) outcome
    × IsAnsweredAfter way outcome (scripts_of bundle) text status

-- the bundle, judged in this way, is answered by this text and this status
abbrev pub IsAnsweredIn : Judging → List ℕ → List ℕ → Status → Type 0
IsAnsweredIn way bundle text status = IsAnsweredUnless way (early_refusal_over way.most bundle) bundle text status

-- ---- bundles that stand alone

-- what is written for nodes and scripts that pass all checks
abbrev pub Answer : Type 1
Answer = List NodeInfo → List Script → List ℕ → Type 0

-- the way to judge a bundle that stands alone
abbrev pub run_judging : Answer → Judging
run_judging answer =
    record {
      most = script_limit;
      bad_text = bad_line_text;
      ending = λ nodes scripts text status. answer nodes scripts text × (status ≡ ended.Done);
    }

-- the bundle is answered by this text and this status
abbrev pub IsAnswered : Answer → List ℕ → List ℕ → Status → Type 0
IsAnswered answer bundle text status = IsAnsweredIn (run_judging answer) bundle text status

-- ---- the output of a run

-- What is printed of scripts with these commands: of a history in which each session makes the commands of its script,
-- in order, and which has no other entries. It is legal from this world on, before which the store had `before` entries.
pub record IsPlayedFrom (nodes : List NodeInfo) (base : World) (before : ℕ) (scripts : List (List Command))
    (text : List ℕ) : Type 0 where
  pub history : List Entry
  pub legal : IsLegalFrom nodes base history
  pub made : commands_of_each (length scripts) history ≡ scripts
  pub alone : All (λ e. e.session.value ≤ length scripts) history
  pub printed : text ≡ output_text_from nodes base before (length scripts) history

-- the same from the empty store on
abbrev pub IsPlayed : List NodeInfo → List (List Command) → List ℕ → Type 0
IsPlayed nodes scripts text = IsPlayedFrom nodes first_world 0 scripts text

-- these are the commands of each script, in order
abbrev pub AreCommandsOf : List Script → List (List Command) → Type 0
AreCommandsOf scripts lists = AllZip (λ script commands. IsScript script.lines commands) scripts lists

-- what is written for nodes and scripts that pass all checks: what is printed of the commands of the scripts
abbrev pub ArePrinted : Answer
ArePrinted nodes scripts text = (lists : List (List Command)) × AreCommandsOf scripts lists × IsPlayed nodes lists text

-- a run of this bundle writes this text and ends with this status
abbrev pub IsOutput : List ℕ → List ℕ → Status → Type 0
IsOutput bundle text status = IsAnswered ArePrinted bundle text status
