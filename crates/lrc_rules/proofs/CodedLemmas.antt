-- The codes of stripes after one is placed or dropped.
use Rattle.std.proofs.Common.{[], ◌≡◌, Bool, true, false, not, ◌&&◌, ◌||◌, if◌then◌else◌, eqb, List, ◌∷◌, filter, refl, sym, ap, ◌∙◌}
use Rattle.std.specs.List.{list_any}
use Rattle.std.proofs.lemmas.Bool.{eqb-true, eq-eqb}
use Rattle.std.proofs.lemmas.List.Folds.{list_any-append}
use Rattle.std.proofs.lemmas.Map.Views.{any-filter_same}
use Rattle.lrc_code.specs.declared.codes.Code.{Code}
use Rattle.lrc_code.specs.declared.codes.Code.TheVariants.{Wide, Narrow}
use Rattle.lrc_code.specs.declared.numbers.StripeNo.{StripeNo}
use Rattle.lrc_code.specs.Numbers.{same_stripe}
use Rattle.lrc_rules.specs.States.{State, code_of}
use Rattle.lrc_rules.specs.Steps.{with_stripe, is_other, without_stripe}
use Rattle.lrc_rules.proofs.LookUpLemmas.{test-sym}

-- the code of a stripe in the list of narrow stripes, and of one that is not
abbrev code_by : Bool → Code
code_by is_narrow = if is_narrow then Narrow else Wide

-- removing one stripe from the list keeps the others
pub narrow-left : (s r : StripeNo) (narrow : List StripeNo)
    → list_any (same_stripe r) (filter (is_other s) narrow) ≡ (not (eqb s.value r.value) && list_any (same_stripe r) narrow)
narrow-left s r narrow =
    any-filter_same (λ (t : StripeNo). eqb r.value t.value) (is_other s) (not (eqb s.value r.value))
    (λ t hit. ap (λ v. not (eqb s.value v)) (sym (eqb-true r.value t.value hit))) narrow

wide-by : (own was : Bool) → code_by (not own && was) ≡ (if own then Wide else code_by was)
wide-by true was = refl
wide-by false was = refl

narrow-by : (own was : Bool) → code_by (was || (own || false)) ≡ (if own then Narrow else code_by was)
narrow-by true true = refl
narrow-by true false = refl
narrow-by false true = refl
narrow-by false false = refl

-- a new stripe has the code that it was added with; every other stripe keeps its code
pub code-with : (st : State) (code : Code) (s r : StripeNo) → code_of (with_stripe st code s) r ≡ (if eqb s.value r.value then code else code_of st r)
code-with st Wide s r = ap code_by (narrow-left s r st.narrow) ∙ wide-by (eqb s.value r.value) (list_any (same_stripe r) st.narrow)
code-with st Narrow s r =
    ap code_by (list_any-append (same_stripe r) st.narrow (s ∷ []) ∙ ap (λ b. list_any (same_stripe r) st.narrow || (b || false)) (test-sym r.value s.value))
    ∙ narrow-by (eqb s.value r.value) (list_any (same_stripe r) st.narrow)

-- a stripe that is removed has no code left; every other stripe keeps its code
pub code-without : (st : State) (s r : StripeNo) → code_of (without_stripe st s) r ≡ (if eqb s.value r.value then Wide else code_of st r)
code-without st s r = ap code_by (narrow-left s r st.narrow) ∙ wide-by (eqb s.value r.value) (list_any (same_stripe r) st.narrow)

pub code-own : (st : State) (code : Code) (s : StripeNo) → code_of (with_stripe st code s) s ≡ code
code-own st code s = code-with st code s s ∙ ap (λ (b : Bool). if b then code else code_of st s) (eq-eqb s.value s.value refl)

pub code-other : (st : State) (code : Code) (s r : StripeNo) → eqb s.value r.value ≡ false → code_of (with_stripe st code s) r ≡ code_of st r
code-other st code s r other = code-with st code s r ∙ ap (λ (b : Bool). if b then code else code_of st r) other

pub code-left : (st : State) (s r : StripeNo) → eqb s.value r.value ≡ false → code_of (without_stripe st s) r ≡ code_of st r
code-left st s r other = code-without st s r ∙ ap (λ (b : Bool). if b then Wide else code_of st r) other
