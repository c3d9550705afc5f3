-- What the calls that read an input may do with it.
use Rattle.std.specs.Prelude.{◌≡◌, ℕ, Bool, true, false, not, ◌⊎◌, List, Option, Result, IfOk, OnOk, OnErr, IfSome}
use Rattle.std.specs.Io.KnownBytes.{Appends}
use Rattle.lrc_streams.specs.declared.streams.RunFault.{RunFault}
use Rattle.lrc_streams.specs.declared.streams.RunFault.TheVariants as fault
use Rattle.lrc_streams.specs.declared.streams.Sink.{Ghosts}
use Rattle.lrc_streams.specs.Streams.{AppendsPart}
use Rattle.lrc_refusals.specs.declared.refusal.InputRefusal.{InputRefusal}
use Rattle.lrc_refusals.specs.Refusals.{refusal_line, input_refusal_text}
use Rattle.lrc_outputs.specs.declared.sequel.Goal.{Goal}
use Rattle.lrc_outputs.specs.declared.status.Status.{Status}
use Rattle.lrc_outputs.specs.Limits.{bundle_limit, sequel_limit}
use Rattle.lrc_outputs.specs.RefusedInputs.{is_answer}
use Rattle.lrc_outputs.specs.Outputs.{RunsSeveral, IsOutput}
use Rattle.lrc_outputs.specs.Sequels.{IsSequelOutput}
use Rattle.lrc_outputs.specs.Checks.{IsCheck, IsWarned}
use Rattle.lrc_tool.specs.Answering.{Writing, writing, none_apart, InputOutcomes, no_faults}

-- ---- running and going on

-- A run of a bundle writes its output. For want of a reader it stops only where it runs two scripts or more.
abbrev pub running : InputOutcomes
running = record {
  limit = bundle_limit;
  is_outcome = IsOutput;
  is_apart = none_apart;
  is_fault = λ bundle e. (e ≡ fault.NoReader) × IfSome bundle RunsSeveral;
}

-- going on from a sequel to a goal writes its output
abbrev pub going_on : Goal → InputOutcomes
going_on goal =
    record { limit = sequel_limit; is_outcome = IsSequelOutput goal; is_apart = none_apart; is_fault = no_faults }

-- ---- asking, with refusals apart from answers

-- the input was refused, and not answered
abbrev pub is_refusal : Status → Bool
is_refusal status = not (is_answer status)

-- what is written for an output: an answer as it is, and the line of a refusal behind its words
abbrev pub IsWorded : Bool → List ℕ → List ℕ → Type 0
IsWorded false output text = text ≡ output
IsWorded true output text = (r : InputRefusal) × (output ≡ refusal_line r) × (text ≡ input_refusal_text r)

-- the output of a sequel, worded
pub record IsWordedOutput (goal : Goal) (sequel text : List ℕ) (status : Status) : Type 0 where
  pub output : List ℕ
  pub is_output : IsSequelOutput goal sequel output status
  pub worded : IsWorded (is_refusal status) output text

-- asking for a goal of a sequel writes its answer to the first sink, or its refusal, in words, to the second
abbrev pub asking : Goal → InputOutcomes
asking goal =
    record { limit = sequel_limit; is_outcome = IsWordedOutput goal; is_apart = is_refusal; is_fault = no_faults }

-- ---- checking

-- a check of an input writes its line
abbrev pub checking : InputOutcomes
checking = record { limit = sequel_limit; is_outcome = IsCheck; is_apart = none_apart; is_fault = no_faults }

-- A prefix of what the check of an input warns of was written, and all of it unless a write has failed.
pub record WritesWarnings (errors : Writing) (input : List ℕ) (status : Status) : Type 0 where
  pub text : List ℕ
  pub warned : IsWarned input text status
  pub part : AppendsPart errors.old errors.new text
  pub whole : errors.has_failed ≡ false → Appends errors.old errors.new text

-- a check of this input, which is known or not, warned this sink, and returned this result: no failure of the sink
-- stops it
pub record Warns {E : Type 0} (members : Ghosts E) (old new : E) (input : Option (List ℕ))
    (result : Result Status RunFault) : Type 0 where
  -- After `Ok` what is warned of was written, whole unless a write has failed.
  pub warned : IfOk result (λ status. IfSome input (λ bytes. WritesWarnings (writing members old new) bytes status))
  -- After `Ok` the sink was flushed after its last write, or not touched, unless a write has failed.
  pub flushed : OnOk result (members.has_failed new ≡ false → (members.is_flushed new ≡ true) ⊎ (new ≡ old))
  -- After an error it was not touched.
  pub untouched : OnErr result (new ≡ old)
