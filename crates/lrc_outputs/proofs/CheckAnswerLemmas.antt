-- Each input has a check, and only one, which refuses what a run refuses, or going on from an image.
use Rattle.std.proofs.Common.{◌≡◌, ◌≢◌, ℕ, ◌↔◌, Bool, true, false, List, length, refl, sym, subst, ◌∙◌, arith}
use Rattle.lrc_script.specs.Bundles.{scripts_of}
use Rattle.lrc_outputs.specs.declared.status.Status.{Status}
use Rattle.lrc_outputs.specs.declared.status.Status.TheVariants as ended
use Rattle.lrc_outputs.specs.declared.sequel.Goal.TheVariants.{Replies}
use Rattle.lrc_outputs.specs.Limits.{script_limit}
use Rattle.lrc_outputs.specs.RefusedInputs.{bad_line_text}
use Rattle.lrc_outputs.specs.Outputs.{run_judging, ArePrinted, IsAnswered, IsOutput}
use Rattle.lrc_outputs.specs.Sequels.{has_image, going_to, IsTold, IsSequelOutput}
use Rattle.lrc_outputs.specs.Checks.{counted_line, IsCountedLine, counting, IsCheckIn, IsCheck}
use Rattle.lrc_outputs.proofs.AnswerLemmas.{one_answer, some_answer, ends_other}
use Rattle.lrc_outputs.proofs.SequelLemmas.{tells_other}
use Rattle.lrc_outputs.proofs.OneSequelLemmas.{one-told}
use Rattle.lrc_outputs.proofs.SomeSequelLemmas.{some-told}

-- ---- one check

one_in : (is : Bool) (input text other : List ℕ) (status another : Status) → IsCheckIn is input text status → IsCheckIn is input other another → (text ≡ other) × (status ≡ another)
one_in true input text other status another h k = one-told counting (λ nodes start scripts t u s r few p q. (p.0 ∙ sym q.0, p.1 ∙ sym q.1)) input text other status another h k
one_in false input text other status another h k =
    one_answer (run_judging IsCountedLine) (length (scripts_of input)) (λ nodes scripts t u s r few p q. (p.0 ∙ sym q.0, p.1 ∙ sym q.1)) input text other status another (λ early. omega arith) h k

pub one_check : (input text other : List ℕ) (status another : Status) → IsCheck input text status → IsCheck input other another → (text ≡ other) × (status ≡ another)
one_check input = one_in (has_image input) input

some_in : (is : Bool) (input : List ℕ) → (text : List ℕ) × (status : Status) × IsCheckIn is input text status
some_in true input = some-told counting (λ nodes start scripts few good. (counted_line (length nodes) scripts, ended.Done, (refl, refl))) input
some_in false input = some_answer (run_judging IsCountedLine) (λ nodes scripts few good. (counted_line (length nodes) scripts, ended.Done, (refl, refl))) input

pub some_check : (input : List ℕ) → (text : List ℕ) × (status : Status) × IsCheck input text status
some_check input = some_in (has_image input) input

-- ---- refusals

module _ (input text : List ℕ) (status : Status) (refused : status ≢ ended.Done) where
  alone_alike : IsAnswered IsCountedLine input text status ↔ IsOutput input text status
  alone_alike = (
    ends_other script_limit bad_line_text (run_judging IsCountedLine).ending (run_judging ArePrinted).ending text status (λ nodes scripts h. absurd (refused h.1)) input,
    ends_other script_limit bad_line_text (run_judging ArePrinted).ending (run_judging IsCountedLine).ending text status (λ nodes scripts h. absurd (refused h.1)) input,
  )

  behind_alike : IsTold counting input text status ↔ IsSequelOutput Replies input text status
  behind_alike = (
    tells_other counting (going_to Replies) text status (λ nodes start scripts h. absurd (refused h.1)) input,
    tells_other (going_to Replies) counting text status (λ nodes start scripts h. absurd (refused h.2.1)) input,
  )

  pub refused_alike : has_image input ≡ false → IsCheck input text status ↔ IsOutput input text status
  refused_alike none = subst (λ (b : Bool). IsCheckIn b input text status ↔ IsOutput input text status) (sym none) alone_alike

  pub refused_alike_behind : has_image input ≡ true → IsCheck input text status ↔ IsSequelOutput Replies input text status
  refused_alike_behind some = subst (λ (b : Bool). IsCheckIn b input text status ↔ IsSequelOutput Replies input text status) (sym some) behind_alike
