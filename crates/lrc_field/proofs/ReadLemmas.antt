-- What the coefficients of a fragment read, and that the fragment is their sum.
use Rattle.std.proofs.Common.{◌≡◌, ◌≢◌, ℕ, ◌+◌, ◌<◌, ◌≤◌, Bool, true, false, not, ◌&&◌, eqb, lit<, refl, sym, ap, subst, ◌∙◌, inl, inr, arith}
use Rattle.std.proofs.lemmas.Bool.{cases_Bool, cases_lt, eqb-true, eq-eqb, ne_eqb, le-ltb, and_parts, and_from, not-true, not-false}
use Rattle.lrc_code.specs.declared.codes.Code.{Code}
use Rattle.lrc_code.specs.Codes.{fragment_count, data_count}
use Rattle.lrc_code.specs.Losses.{FragmentSet}
use Rattle.lrc_field.specs.Stripes.{Bytes, IsStripe, numbers_of, sum_of, outside, Determines}
use Rattle.lrc_field.specs.Recipes.{read_by, readable}
use Rattle.lrc_field.specs.Weights.{Weights, value_at, in_equation, coefficient_by}
use Rattle.lrc_field.proofs.FieldLemmas.{times_zero}
use Rattle.lrc_field.proofs.MemberLemmas.{fragments_below, at_most_sixteen, four_parities}
use Rattle.lrc_field.proofs.ValueLemmas.{rebuilt, value_below}
use Rattle.lrc_field.proofs.SumLemmas.{sum_of-agree}
use Rattle.lrc_field.proofs.DecodableLemmas.{Rebuilds, determined, except}

-- ---- numbers that the code lacks

no_equation : (code : Code) (j f : ℕ) → j < 4 → fragment_count code ≤ f → in_equation code j f ≡ 0
no_equation code j f few past =
    let parities = four_parities code in
    rw (le-ltb f (data_count code) (omega (arith, past, parities)), ne_eqb f (data_count code + j) (omega (arith, few, past, parities))) refl

-- a fragment that the code lacks gets 0
pub no_value : (code : Code) (w : Weights) (f : ℕ) → fragment_count code ≤ f → value_at code w f ≡ 0
unfolding value_at
no_value code w f past =
    rw (no_equation code 0 f (lit< tt) past, no_equation code 1 f (lit< tt) past, no_equation code 2 f (lit< tt) past, no_equation code 3 f (lit< tt) past, times_zero w.local_a, times_zero w.local_b, times_zero w.global, times_zero w.square) refl

-- the coefficients are those of the weights, for all sixteen numbers
pub record AreOf (code : Code) (f : ℕ) (w : Weights) (c : ℕ → ℕ) : Type 0 where
  pub by : (g : ℕ) → g < 16 → c g ≡ coefficient_by code f w g
  pub past : (g : ℕ) → 16 ≤ g → c g ≡ 0

-- the others of a set that determines the fragment
module _ (code : Code) (c : ℕ → ℕ) (g : ℕ) where
  pub unread : c g ≡ 0 → read_by c g ≡ false
  unread none = rw none refl

  pub read_none : read_by c g ≡ false → c g ≡ 0
  read_none out = eqb-true (c g) 0 (not-false (eqb (c g) 0) out)

  pub read_some : read_by c g ≡ true → c g ≢ 0
  read_some reads none = let e : read_by c g ≡ false = unread none in let k : true ≡ false = sym reads ∙ e in cc

module _ (code : Code) (m o : FragmentSet) (f : ℕ) (w : Weights) (c : ℕ → ℕ) (within : f < fragment_count code) (out : o f ≡ false) (others : (g : ℕ) → o g ≡ (not (eqb g f) && m g)) (rebuilds : Rebuilds code o f w) (are : AreOf code f w c) where
  own : c f ≡ 0
  own = are.by f (let sixteen = at_most_sixteen code in omega (arith, within, sixteen)) ∙ rw (eq-eqb f f refl) refl

  pub lacking : (g : ℕ) → fragment_count code ≤ g → c g ≡ 0
  lacking g past = elim (cases_lt g 16) [
    | inr high ↦ are.past g high
    | inl low ↦ are.by g low ∙ rw (ne_eqb g f (omega (arith, within, past))) (no_value code w g past)
  ]

  pub below : (g : ℕ) → c g < 256
  below g = elim (cases_lt g 16) [
    | inr high ↦ subst (λ n. n < 256) (sym (are.past g high)) (lit< tt)
    | inl low ↦ subst (λ n. n < 256) (sym (are.by g low)) (elim (cases_Bool (eqb g f)) [
      | inl here ↦ rw here (lit< tt)
      | inr other ↦ rw other (value_below code w rebuilds.small g)
    ])
  ]

  by_weights : (g : ℕ) → g < fragment_count code → c g ≡ coefficient_by code f w g
  by_weights g few = are.by g (let sixteen = at_most_sixteen code in omega (arith, few, sixteen))

  lost : (g : ℕ) → g < fragment_count code → o g ≡ true → c g ≡ 0
  lost g few hit = elim (cases_Bool (eqb g f)) [
    | inl here ↦ by_weights g few ∙ rw here refl
    | inr other ↦ by_weights g few ∙ rw other (rebuilds.none g few hit)
  ]

  pub reads_within : (g : ℕ) → read_by c g ≡ true → g < fragment_count code
  reads_within g reads = elim (cases_lt g (fragment_count code)) [
    | inl few ↦ few
    | inr past ↦ absurd (read_some code c g reads (lacking g past))
  ]

  pub reads_readable : (g : ℕ) → read_by c g ≡ true → readable m f g ≡ true
  reads_readable g reads =
      let few = reads_within g reads in
      elim (cases_Bool (eqb g f)) [
        | inl here ↦ absurd (read_some code c g reads (ap c (eqb-true g f here) ∙ own))
        | inr other ↦ elim (cases_Bool (m g)) [
          | inr stands ↦ rw (stands, other) refl
          | inl missing ↦ absurd (read_some code c g reads (lost g few (others g ∙ rw (other, missing) refl)))
        ]
      ]

  pub exact : (v : Bytes) → IsStripe code v → v f ≡ sum_of c v (numbers_of code)
  exact v stripe = rebuilt code w rebuilds.small f within rebuilds.one v stripe ∙ sym (sum_of-agree c (coefficient_by code f w) v (fragment_count code) by_weights (numbers_of code) (fragments_below code))

  pub readable_determines : Determines code (readable m f) f
  readable_determines = determined code o (readable m f) f w within rebuilds (λ g unknown other. others g ∙ turned (m g) (eqb g f) unknown other) where
    turned : (missing here : Bool) → (not missing && not here) ≡ false → here ≡ false → (not here && missing) ≡ true
    turned true true e h = absurd (let k : true ≡ false = h in cc)
    turned true false e h = refl
    turned false true e h = absurd (let k : true ≡ false = h in cc)
    turned false false e h = absurd (let k : true ≡ false = e in cc)

  zero_outside : (g : ℕ) → g < fragment_count code → except (outside (read_by c)) f g ≡ true → value_at code w g ≡ 0
  zero_outside g few h =
      let parts = and_parts (not (read_by c g)) (not (eqb g f)) h in
      let same : c g ≡ value_at code w g = by_weights g few ∙ rw (not-true (eqb g f) parts.1) refl in
      sym same ∙ read_none code c g (not-true (read_by c g) parts.0)

  -- the fragments that are read determine it
  pub read_determines : Determines code (read_by c) f
  read_determines =
      determined code (except (outside (read_by c)) f) (read_by c) f w within (record { small = rebuilds.small; one = rebuilds.one; none = zero_outside })
      (λ g unread_g other. and_from (not (read_by c g)) (not (eqb g f)) (rw unread_g refl) (rw other refl))
