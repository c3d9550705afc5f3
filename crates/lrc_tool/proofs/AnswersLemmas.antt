-- A call that writes one text answers the input that was read.
use Rattle.std.proofs.Common.{◌≡◌, ◌⊎◌, inl, inr, ℕ, ◌+◌, Bool, true, false, ◌||◌, List, Option, Some, None, Result, Ok, Err, refl, sym, ap, subst, ◌∙◌}
use Rattle.std.specs.Io.KnownBytes.{Appends, Keeps}
use Rattle.lrc_streams.specs.declared.streams.RunFault.{RunFault}
use Rattle.lrc_streams.specs.declared.streams.RunFault.TheVariants as fault
use Rattle.lrc_streams.specs.Reads.{IsReadUpTo}
use Rattle.lrc_streams.specs.Streams.{is_read_fault, is_write_fault, AppendsPart, ConsumesAtMost}
use Rattle.lrc_outputs.specs.declared.status.Status.{Status}
use Rattle.lrc_tool.specs.Answering.{Reading, Writing, no_writing, Outcomes, one_outcome, chosen_sink, other_sink, Writes, InputOutcomes, outcomes_of, Answers}
use Rattle.lrc_tool.proofs.ReadLemmas.{AnswersAlike, outcome_of_read}

-- ---- faults

or_none : (b : Bool) → b ≡ (b || false)
or_none true = refl
or_none false = refl

or_before : (one other now : Bool) → (one || (other || now)) ≡ ((one || other) || now)
or_before true other now = refl
or_before false other now = refl

or_behind : (one other now : Bool) → ((one || now) || other) ≡ ((one || other) || now)
or_behind true other now = refl
or_behind false true true = refl
or_behind false true false = refl
or_behind false false now = sym (or_none now)

-- of two sinks one has failed now if this one has, and the other stays as it is
or_failed : (b : Bool) (sink errors : Writing) (now : Bool) → (other_sink b sink errors).has_failed ≡ (other_sink b sink errors).had_failed
    → (chosen_sink b sink errors).has_failed ≡ ((chosen_sink b sink errors).had_failed || now)
    → (errors.has_failed || sink.has_failed) ≡ ((errors.had_failed || sink.had_failed) || now)
or_failed false sink errors now still failed = rw (still, failed) (or_before errors.had_failed sink.had_failed now)
or_failed true sink errors now still failed = rw (still, failed) (or_behind errors.had_failed sink.had_failed now)

no_read_in : (e : RunFault) → (e ≡ fault.OutOfMemory) ⊎ (e ≡ fault.Write) ⊎ ⊥ → is_read_fault {X = Status} (Err e) ≡ false
no_read_in e (inl memory) = rw memory refl
no_read_in e (inr (inl write)) = rw write refl
no_read_in e (inr (inr none)) = absurd none

-- a call that writes one text reads nothing
no_read : (text : List ℕ) (status : Status) (sink : Writing) (result : Result Status RunFault) → Writes (one_outcome text status) sink no_writing result → is_read_fault result ≡ false
no_read text status sink (Ok ended) w = refl
no_read text status sink (Err e) w = no_read_in e w.err

-- neither of two sinks was written to
both : (b : Bool) (sink errors : Writing) → Keeps (other_sink b sink errors).old (other_sink b sink errors).new → Keeps (chosen_sink b sink errors).old (chosen_sink b sink errors).new
    → Keeps sink.old sink.new × Keeps errors.old errors.new
both false sink errors other chosen = (chosen, other)
both true sink errors other chosen = (other, chosen)

pub keeps_same : (known : Option (List ℕ)) → Keeps known known
keeps_same None = tt
keeps_same (Some bytes) = refl

-- ---- the text of an outcome, written to the sink that it goes to

module _ (call : Outcomes) (text : List ℕ) (status : Status) (outcome : call.is_outcome text status) (sink errors : Writing) (b : Bool) (apart : call.is_apart status ≡ b)
    (kept : Keeps (other_sink b sink errors).old (other_sink b sink errors).new) (still : (other_sink b sink errors).has_failed ≡ (other_sink b sink errors).had_failed) where
  faults : (e : RunFault) → (e ≡ fault.OutOfMemory) ⊎ (e ≡ fault.Write) ⊎ ⊥ → (e ≡ fault.OutOfMemory) ⊎ (e ≡ fault.Write) ⊎ call.is_fault e
  faults e (inl memory) = inl memory
  faults e (inr (inl write)) = inr (inl write)
  faults e (inr (inr none)) = absurd none

  keeps : (b' : Bool) → b' ≡ b → Keeps (other_sink b' sink errors).old (other_sink b' sink errors).new
  keeps b' same = subst (λ x. Keeps (other_sink x sink errors).old (other_sink x sink errors).new) (sym same) kept

  failed : (now : Bool) → (chosen_sink b sink errors).has_failed ≡ ((chosen_sink b sink errors).had_failed || now)
      → (errors.has_failed || sink.has_failed) ≡ ((errors.had_failed || sink.had_failed) || now)
  failed now = or_failed b sink errors now still

  pub writes : (result : Result Status RunFault) → Writes (one_outcome text status) (chosen_sink b sink errors) no_writing result → Writes call sink errors result
  writes (Ok ended) w =
      let here : call.is_apart ended ≡ b = ap call.is_apart w.whole.is_outcome.1 ∙ apart in
      record {
        whole = record {
          text = text;
          is_outcome = subst (λ s. call.is_outcome text s) (sym w.whole.is_outcome.1) outcome;
          written = subst (λ x. Appends (chosen_sink x sink errors).old (chosen_sink x sink errors).new text) (sym here)
              (subst (Appends (chosen_sink b sink errors).old (chosen_sink b sink errors).new) w.whole.is_outcome.0 w.whole.written);
          kept = keeps (call.is_apart ended) here;
        };
        part = λ is. absurd (cc);
        nothing = tt;
        flushed = subst (λ x. (chosen_sink x sink errors).is_flushed ≡ true) (sym here) w.flushed;
        write = failed false w.write;
        err = tt;
      }
  writes (Err e) w = record {
    whole = tt;
    part = λ is. record {
      text = text;
      status = status;
      is_outcome = outcome;
      written = subst (λ x. AppendsPart (chosen_sink x sink errors).old (chosen_sink x sink errors).new text) (sym apart)
          (subst (AppendsPart (chosen_sink b sink errors).old (chosen_sink b sink errors).new) (w.part is).is_outcome.0 (w.part is).written);
      kept = keeps (call.is_apart status) apart;
    };
    nothing = λ not. both b sink errors kept (w.nothing not).0;
    flushed = tt;
    write = failed (is_write_fault {X = Status} (Err e)) w.write;
    err = faults e w.err;
  }

-- ---- the same of an input that was read

-- what stands in the code's own names: the bytes that were read
pub answers : (call : InputOutcomes) → AnswersAlike call.limit call.is_outcome → (b : Bool) (source : Reading) (sink errors : Writing) (bytes bytes' text : List ℕ) (status : Status)
    (result : Result Status RunFault) → bytes' ≡ bytes → IsReadUpTo call.limit source.old source.new bytes → ConsumesAtMost (call.limit + 1) source.old source.new
    → source.has_failed ≡ (source.had_failed || false) → call.is_outcome bytes' text status → call.is_apart status ≡ b
    → Keeps (other_sink b sink errors).old (other_sink b sink errors).new → (other_sink b sink errors).has_failed ≡ (other_sink b sink errors).had_failed
    → Writes (one_outcome text status) (chosen_sink b sink errors) no_writing result → Answers call source sink errors result
answers call alike b source sink errors bytes bytes' text status result same taken most read outcome apart kept still w = record {
  writes = writes (outcomes_of call source.old) text status
      (outcome_of_read call.is_outcome call.limit alike source.old source.new bytes text status taken (subst (λ x. call.is_outcome x text status) same outcome))
      sink errors b apart kept still result w;
  most = most;
  read = read ∙ ap (λ x. source.had_failed || x) (sym (no_read text status (chosen_sink b sink errors) result w));
}
