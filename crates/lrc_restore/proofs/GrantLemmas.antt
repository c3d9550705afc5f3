-- The counts of an image, row by row.
use Rattle.std.proofs.Common.{[], ◌≡◌, ℕ, inl, inr, true, false, if◌then◌else◌, List, ◌∷◌, ◌++◌, get_or, None, refl, ap, ◌∙◌, arith}
use Rattle.std.specs.List.{All}
use Rattle.std.proofs.lemmas.Bool.{cases_Bool, eqb-true, ltb-true}
use Rattle.std.proofs.lemmas.List.Elements.{All-contains}
use Rattle.std.proofs.lemmas.List.Sums.{sum_by-append, sum_by-cons}
use Rattle.lrc_code.specs.declared.numbers.StripeNo.{StripeNo}
use Rattle.lrc_code.specs.declared.numbers.Fragment.{Fragment}
use Rattle.lrc_code.specs.Numbers.{same_stripe}
use Rattle.lrc_leases.specs.Granted.{granted_in}
use Rattle.lrc_images.specs.declared.cause.Cause.TheVariants as cause
use Rattle.lrc_images.specs.declared.image.GrantRow.{GrantRow}
use Rattle.lrc_images.specs.Images.{earlier}
use Rattle.lrc_images.specs.Rising.{grant_first}
use Rattle.lrc_images.specs.Causes.{is_out_of_order, grant_cause}
use Rattle.lrc_images.proofs.EarlierLemmas.{counted, grants-earlier, none-granted}
use Rattle.lrc_images.proofs.AnswerLemmas.{if-none, comes-after}
use Rattle.lrc_store.specs.Stores.{AreGrantsOf}

-- a row without a cause comes after the others
pub grant-ordered : (before : List GrantRow) (r : GrantRow) → grant_cause before r ≡ None → is_out_of_order grant_first before r ≡ false
grant-ordered before r none = (if-none (is_out_of_order grant_first before r) cause.OutOfOrder _ none).0

grant-after : (before : List GrantRow) (r : GrantRow) → grant_cause before r ≡ None → All (λ b. grant_first b r ≡ true) before
grant-after before r none = comes-after grant_first before r (grant-ordered before r none)

-- one more row
pub grants-more : (before : List GrantRow) (r : GrantRow) (counts counts_new : List ℕ) → grant_cause before r ≡ None → AreGrantsOf (earlier before) counts
    → ((s : StripeNo) (f : Fragment) → granted_in counts_new s f ≡ (if same_stripe r.stripe s then get_or r.granted f.value 0 else granted_in counts s f))
    → AreGrantsOf (earlier (before ++ r ∷ [])) counts_new
grants-more before r counts counts_new none kept set = λ s f.
    let now = set s f in
    let sum = grants-earlier s f (before ++ r ∷ []) in
    let parts = sum_by-append (counted s f) before (r ∷ []) in
    let last = sum_by-cons (counted s f) r [] in
    elim (cases_Bool (same_stripe r.stripe s)) [
      | inl own ↦
          let at = eqb-true r.stripe.value s.value own in
          let old = grants-earlier s f before in
          let zero = none-granted s f before (λ b here same.
          let less = ltb-true b.stripe.value r.stripe.value (All-contains (λ b. grant_first b r ≡ true) before b (grant-after before r none) here) in
          let number : b.stripe.value ≡ s.value = ap (λ (s : StripeNo). s.value) same in omega (arith, at, less, number)) in
          let count : counted s f r ≡ get_or r.granted f.value 0 = rw own refl in
          let is : granted_in counts_new s f ≡ get_or r.granted f.value 0 = now ∙ rw own refl in
          omega (arith, sum, parts, last, old, zero, count, is)
      | inr other ↦
          let old = grants-earlier s f before in
          let was = kept s f in
          let count : counted s f r ≡ 0 = rw other refl in
          let is : granted_in counts_new s f ≡ granted_in counts s f = now ∙ rw other refl in
          omega (arith, sum, parts, last, old, was, count, is)
    ]
