-- The contract of every call of the program: what it reads, what it writes to which sink, and what it returns.
use Rattle.std.specs.Prelude.{◌≡◌, ◌≢◌, ◌⊎◌, ℕ, ◌+◌, Bool, true, false, ◌||◌, List, Option, None, Result}
use Rattle.std.specs.Prelude.{IfOk, IfErr, IsErrOf, IfSome}
use Rattle.std.specs.Io.KnownBytes.{Appends, Keeps}
use Rattle.lrc_streams.specs.declared.streams.RunFault.{RunFault}
use Rattle.lrc_streams.specs.declared.streams.RunFault.TheVariants as fault
use Rattle.lrc_streams.specs.declared.streams.Sink.{Ghosts}
use Rattle.lrc_streams.specs.declared.streams.Source as source
use Rattle.lrc_streams.specs.Streams.{is_read_fault, is_write_fault, AppendsPart, ConsumesAtMost}
use Rattle.lrc_outputs.specs.declared.status.Status.{Status}

-- ---- streams before and after a call

-- a source: the bytes that are left, where they are known, and whether a read has failed
pub record Reading : Type 0 where
  pub old : Option (List ℕ)
  pub new : Option (List ℕ)
  pub had_failed : Bool
  pub has_failed : Bool

-- a sink: the bytes that were written, where they are known, whether a write or a flush has failed, and whether it was
-- flushed after its last write
pub record Writing : Type 0 where
  pub old : Option (List ℕ)
  pub new : Option (List ℕ)
  pub had_failed : Bool
  pub has_failed : Bool
  pub is_flushed : Bool

-- a source of this type, as it was before a call and is after it
abbrev pub reading : {R : Type 0} → source.Ghosts R → R → R → Reading
reading R old new =
    record { old = R.left old; new = R.left new; had_failed = R.has_failed old; has_failed = R.has_failed new }

-- the same of a sink
abbrev pub writing : {W : Type 0} → Ghosts W → W → W → Writing
writing W old new = record {
  old = W.written old;
  new = W.written new;
  had_failed = W.has_failed old;
  has_failed = W.has_failed new;
  is_flushed = W.is_flushed new;
}

-- a second sink of a call that has none
abbrev pub no_writing : Writing
no_writing = record { old = None; new = None; had_failed = false; has_failed = false; is_flushed = true }

-- ---- calls that write

-- What a call may do: the text that it writes and the status that it returns; whether the text of a status goes to
-- the second of its two sinks; and its faults, besides `OutOfMemory` and `Write`.
pub record Outcomes : Type 1 where
  pub is_outcome : List ℕ → Status → Type 0
  pub is_apart : Status → Bool
  pub is_fault : RunFault → Type 0

-- each text goes to the first sink
abbrev pub none_apart : Status → Bool
none_apart status = false

-- this text and this status alone
abbrev pub one_outcome : List ℕ → Status → Outcomes
one_outcome text status =
    record { is_outcome = λ t s. (t ≡ text) × (s ≡ status); is_apart = none_apart; is_fault = λ e. ⊥ }

-- the sink that a text goes to, which is apart or not
abbrev pub chosen_sink : Bool → Writing → Writing → Writing
chosen_sink false sink errors = sink
chosen_sink true sink errors = errors

-- the sink that it doesn't go to
abbrev pub other_sink : Bool → Writing → Writing → Writing
other_sink false sink errors = errors
other_sink true sink errors = sink

-- the text of an outcome with this status was written, whole, to its sink, and nothing to the other one
pub record WritesWhole (call : Outcomes) (sink errors : Writing) (status : Status) : Type 0 where
  pub text : List ℕ
  pub is_outcome : call.is_outcome text status
  pub written : let to = chosen_sink (call.is_apart status) sink errors in Appends to.old to.new text
  pub kept : let to = other_sink (call.is_apart status) sink errors in Keeps to.old to.new

-- a prefix of the text of an outcome was written to its sink, and nothing to the other one
pub record WritesPart (call : Outcomes) (sink errors : Writing) : Type 0 where
  pub text : List ℕ
  pub status : Status
  pub is_outcome : call.is_outcome text status
  pub written : let to = chosen_sink (call.is_apart status) sink errors in AppendsPart to.old to.new text
  pub kept : let to = other_sink (call.is_apart status) sink errors in Keeps to.old to.new

-- a call with these outcomes wrote to these sinks, and returned this result
pub record Writes (call : Outcomes) (sink errors : Writing) (result : Result Status RunFault) : Type 0 where
  -- After `Ok` the text of an outcome with this status was written, whole.
  pub whole : IfOk result (λ status. WritesWhole call sink errors status)
  -- After a failed write a prefix of the text of an outcome was written.
  pub part : IsErrOf result fault.Write → WritesPart call sink errors
  -- After any other error nothing was written to either sink.
  pub nothing : IfErr result (λ e. e ≢ fault.Write → Keeps sink.old sink.new × Keeps errors.old errors.new)
  -- After `Ok` the sink that the text went to was flushed after its last write.
  pub flushed : IfOk result (λ status. (chosen_sink (call.is_apart status) sink errors).is_flushed ≡ true)
  -- It returns `Write` exactly if a write or a flush failed, of either sink.
  pub write : (errors.has_failed || sink.has_failed) ≡ ((errors.had_failed || sink.had_failed) || is_write_fault result)
  -- It returns no other fault than `OutOfMemory`, `Write` and those of the call.
  pub err : IfErr result (λ e. (e ≡ fault.OutOfMemory) ⊎ (e ≡ fault.Write) ⊎ call.is_fault e)

-- ---- calls that read an input, and write

-- What a call may do with an input: the most bytes of one; the text that it writes for it and the status that it
-- returns; whether the text of a status goes to the second of its two sinks; and its faults for an input, which is
-- known or not, besides `OutOfMemory`, `Read` and `Write`.
pub record InputOutcomes : Type 1 where
  pub limit : ℕ
  pub is_outcome : List ℕ → List ℕ → Status → Type 0
  pub is_apart : Status → Bool
  pub is_fault : Option (List ℕ) → RunFault → Type 0

-- no faults besides those three
abbrev pub no_faults : Option (List ℕ) → RunFault → Type 0
no_faults input e = ⊥

-- what it may do with this input, which is known or not
abbrev pub outcomes_of : InputOutcomes → Option (List ℕ) → Outcomes
outcomes_of call input = record {
  is_outcome = λ text status. IfSome input (λ bytes. call.is_outcome bytes text status);
  is_apart = call.is_apart;
  is_fault = λ e. (e ≡ fault.Read) ⊎ call.is_fault input e;
}

-- a call with these outcomes read this source, wrote to these sinks, and returned this result
pub record Answers (call : InputOutcomes) (source : Reading) (sink errors : Writing)
    (result : Result Status RunFault) : Type 0 where
  -- It wrote what it may write for the input that the source held.
  pub writes : Writes (outcomes_of call source.old) sink errors result
  -- It read at most one byte more than an input may have.
  pub most : ConsumesAtMost (call.limit + 1) source.old source.new
  -- It returns `Read` exactly if a read failed.
  pub read : source.has_failed ≡ (source.had_failed || is_read_fault result)
