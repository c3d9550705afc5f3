-- What was read has the same outcomes as the input.
use Rattle.std.proofs.Common.{◌≡◌, ℕ, ◌<◌, Bool, inl, inr, List, ◌++◌, length, Option, Some, None, IfSome, codes, sym, ap, subst, ◌∙◌, arith, length-append, append-nil, refl}
use Rattle.std.proofs.lemmas.Bool.{lt-ltb}
use Rattle.lrc_outputs.specs.declared.status.Status.{Status}
use Rattle.lrc_outputs.specs.Limits.{bundle_limit, sequel_limit}
use Rattle.lrc_streams.specs.Reads.{IsReadUpTo}
use Rattle.lrc_outputs.specs.Outputs.{early_refusal, Answer, run_judging, IsAnsweredUnless, IsAnswered}
use Rattle.lrc_outputs.specs.Sequels.{Going, IsToldUnless, IsTold}
use Rattle.lrc_outputs.proofs.SequelLemmas.{told_long}

-- all inputs with more bytes than the limit have the same outcomes
abbrev pub AnswersAlike : ℕ → (List ℕ → List ℕ → Status → Type 0) → Type 0
AnswersAlike limit is_outcome =
    (a b text : List ℕ) (status : Status) → limit < length a → limit < length b → is_outcome a text status → is_outcome b text status

-- such a bundle is refused
pub too_long : (bundle : List ℕ) → bundle_limit < length bundle → early_refusal bundle ≡ Some (codes "bundle 1\n")
too_long bundle long = rw (lt-ltb bundle_limit (length bundle) long) refl

-- bundles that are too long have one output
pub bundles_alike : (answer : Answer) → AnswersAlike bundle_limit (IsAnswered answer)
bundles_alike answer a b text status p q h =
    subst (λ (o : Option (List ℕ)). IsAnsweredUnless (run_judging answer) o b text status) (sym (too_long b q))
    (subst (λ (o : Option (List ℕ)). IsAnsweredUnless (run_judging answer) o a text status) (too_long a p) h)

-- sequels that are too long have one answer
pub sequels_alike : (going : Going) → AnswersAlike sequel_limit (IsTold going)
sequels_alike going a b text status long long' h =
    told_long going b text status long' (subst (λ (x : Bool). IsToldUnless going x a text status) (lt-ltb sequel_limit (length a) long) h)

-- an outcome of the bytes that were read is one of the input, if that is known
module _ (is_outcome : List ℕ → List ℕ → Status → Type 0) (limit : ℕ) (alike : AnswersAlike limit is_outcome) where
  pub outcome_of_read : (before after : Option (List ℕ)) (read text : List ℕ) (status : Status) → IsReadUpTo limit before after read → is_outcome read text status
      → IfSome before (λ input. is_outcome input text status)
  outcome_of_read None after read text status taken h = tt
  outcome_of_read (Some input) None read text status taken h = absurd taken.0
  outcome_of_read (Some input) (Some rest) read text status taken h =
      elim taken.1 [
        | inl none ↦ let whole : input ≡ read = taken.0 ∙ ap (λ t. read ++ t) none ∙ append-nil read in subst (λ (b : List ℕ). is_outcome b text status) (sym whole) h
        | inr long ↦ let more : limit < length input = omega (arith, ap length taken.0, length-append read rest) in alike read input text status long more h
      ]
