-- What is known of an error, and of the output that tells of it.
use Rattle.std.proofs.Common.{◌≡◌, ℕ, List, ◌⊎◌, inl, inr, sym, subst}
use Rattle.lrc_streams.specs.declared.streams.RunFault.{RunFault}
use Rattle.lrc_streams.specs.declared.streams.RunFault.TheVariants as fault
use Rattle.lrc_refusals.specs.Refusals.{refusal_line}
use Rattle.lrc_outputs.specs.declared.status.Status.{Status}
use Rattle.lrc_outputs.specs.declared.error.OutputError.{OutputError}
use Rattle.lrc_outputs.specs.declared.error.OutputError.TheVariants.{Refused, Fault}
use Rattle.lrc_outputs.specs.RefusedInputs.{refusal_status}
use Rattle.lrc_outputs.specs.OutputErrors.{IsStopped, IsRefusedWith, IsLineFor}

-- what follows of each refusal follows of the error
pub refused_as : (told other : List ℕ → Status → Type 0) → ((text : List ℕ) (status : Status) → told text status → other text status) → (e : OutputError) → IsRefusedWith told e → IsRefusedWith other e
refused_as told other weaker (Refused r) h = weaker (refusal_line r) (refusal_status r) h
refused_as told other weaker (Fault f) h = h

-- the output of an error is one of which that holds
pub output_told : (told : List ℕ → Status → Type 0) (stopped : RunFault → Type 0) (e : OutputError) (text : List ℕ) (status : Status) → IsStopped told stopped e → IsLineFor e text status
    → told text status
output_told told stopped (Refused r) text status h (is, ends) =
    subst (λ (s : Status). told text s) (sym ends) (subst (λ (t : List ℕ). told t (refusal_status r)) (sym is) h)
output_told told stopped (Fault f) text status h never = absurd never

-- so is its fault
pub fault_told : (told : List ℕ → Status → Type 0) (stopped : RunFault → Type 0) (e : OutputError) (f : RunFault) → IsStopped told stopped e → stopped fault.OutOfMemory
    → (f ≡ fault.OutOfMemory) ⊎ (e ≡ Fault f) → stopped f
fault_told told stopped e f h memory (inl is) = subst stopped (sym is) memory
fault_told told stopped e f h memory (inr is) = subst (IsStopped told stopped) is h
