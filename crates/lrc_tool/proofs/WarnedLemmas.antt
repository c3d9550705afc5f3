-- What was checked and warned of an input that was read.
use Rattle.std.proofs.Common.{◌≡◌, ℕ, ◌<◌, Bool, true, false, List, length, codes, Option, Some, None, IfSome, sym, subst, arith}
use Rattle.std.proofs.lemmas.Bool.{lt-ltb}
use Rattle.std.proofs.lemmas.List.{take_all}
use Rattle.std.specs.Io.KnownBytes.{Appends}
use Rattle.lrc_streams.specs.Streams.{AppendsPart}
use Rattle.lrc_streams.specs.Reads.{IsReadUpTo}
use Rattle.lrc_outputs.specs.declared.status.Status.{Status}
use Rattle.lrc_outputs.specs.declared.status.Status.TheVariants as ended
use Rattle.lrc_outputs.specs.Limits.{sequel_limit}
use Rattle.lrc_outputs.specs.Outputs.{run_judging, IsAnsweredUnless}
use Rattle.lrc_outputs.specs.Sequels.{has_image, IsToldUnless}
use Rattle.lrc_outputs.specs.Checks.{IsCountedLine, counting, IsCheckIn, IsCheck, IsWarned}
use Rattle.lrc_tool.specs.Answering.{Writing}
use Rattle.lrc_tool.specs.Inputs.{WritesWarnings}
use Rattle.lrc_tool.proofs.ReadLemmas.{AnswersAlike, too_long, outcome_of_read}

-- ---- inputs that are too long

-- they are refused with this line
abbrev IsTooLong : List ℕ → Status → Type 0
IsTooLong text status = (text ≡ codes "bundle 1\n") × (status ≡ ended.Refused)

long_told : (is : Bool) (input text : List ℕ) (status : Status) → sequel_limit < length input → IsCheckIn is input text status → IsTooLong text status
long_told true input text status long h = subst (λ (b : Bool). IsToldUnless counting b input text status) (lt-ltb sequel_limit (length input) long) h
long_told false input text status long h =
    subst (λ (o : Option (List ℕ)). IsAnsweredUnless (run_judging IsCountedLine) o input text status) (too_long input (omega (arith, long))) h

told_long : (is : Bool) (input text : List ℕ) (status : Status) → sequel_limit < length input → IsTooLong text status → IsCheckIn is input text status
told_long true input text status long h = subst (λ (b : Bool). IsToldUnless counting b input text status) (sym (lt-ltb sequel_limit (length input) long)) h
told_long false input text status long h =
    subst (λ (o : Option (List ℕ)). IsAnsweredUnless (run_judging IsCountedLine) o input text status) (sym (too_long input (omega (arith, long)))) h

pub checked_alike : AnswersAlike sequel_limit IsCheck
checked_alike a b text status p q h = told_long (has_image b) b text status q (long_told (has_image a) a text status p h)

pub warned_alike : AnswersAlike sequel_limit IsWarned
warned_alike a b text ended.Done p q h = absurd (omega (arith, p, h.1.short))
warned_alike a b text ended.BadLine p q h = h
warned_alike a b text ended.Refused p q h = h
warned_alike a b text ended.Unsafe p q h = h

-- ---- warnings

-- what was written whole is a beginning too
pub whole_part : (old new : Option (List ℕ)) (bytes : List ℕ) → Appends old new bytes → AppendsPart old new bytes
whole_part old new bytes written = record { count = length bytes; within = omega arith; written = subst (Appends old new) (sym (take_all (length bytes) bytes (omega arith))) written }

-- what stands in the code's own names: the bytes that were read, and what is warned of
pub warns : (errors : Writing) (after : Option (List ℕ)) (read read' warned warned' : List ℕ) (status : Status) → read' ≡ read → warned' ≡ warned
    → (before : Option (List ℕ)) → IsReadUpTo sequel_limit before after read → IsWarned read' warned status → AppendsPart errors.old errors.new warned'
    → (errors.has_failed ≡ false → Appends errors.old errors.new warned') → IfSome before (λ input. WritesWarnings errors input status)
warns errors after read read' warned warned' status same_read same None taken told part whole = tt
warns errors after read read' warned warned' status same_read same (Some input) taken told part whole = record {
  text = warned;
  warned = outcome_of_read IsWarned sequel_limit warned_alike (Some input) after read warned status taken (subst (λ (b : List ℕ). IsWarned b warned status) same_read told);
  part = subst (AppendsPart errors.old errors.new) same part;
  whole = λ well. subst (Appends errors.old errors.new) same (whole well);
}
