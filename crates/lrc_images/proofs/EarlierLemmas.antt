-- The grants of the entries that stand for an image's rows are the counts in the rows.
use Rattle.std.proofs.Common.{[], ◌≡◌, ◌≢◌, ◌≤◌, ℕ, zero, suc, inl, inr, Bool, true, false, cond, ◌&&◌, if◌then◌else◌, List, ◌∷◌, flat_map, replicate, get_or, refl, sym, ap, ◌∙◌, arith}
use Rattle.std.specs.List.{All, AllPairs, Contains, sum_by}
use Rattle.std.proofs.lemmas.Bool.{cases_Bool, eqb-true, eq-eqb, ne_eqb, and_parts, and_from, and_left, false_from_ne_true, lt-ltb, ltb-true}
use Rattle.std.proofs.lemmas.List.Elements.{All-contains, All-head, All-tail, All-weaker}
use Rattle.std.proofs.lemmas.List.Sums.{sum_by-append, sum_by-cons, get_or-le-sum_by}
use Rattle.lrc_code.specs.declared.codes.Code.TheVariants.{Wide}
use Rattle.lrc_code.specs.declared.numbers.StripeNo.{StripeNo}
use Rattle.lrc_code.specs.declared.numbers.Fragment.{Fragment}
use Rattle.lrc_code.specs.Numbers.{same_stripe, same_fragment}
use Rattle.lrc_code.specs.Codes.{all_fragments}
use Rattle.lrc_code.proofs.NumbersLemmas.{equal_stripes, equal_fragments}
use Rattle.lrc_terms.proofs.CodeListLemmas.{code-fragments}
use Rattle.lrc_rules.specs.declared.entry.Entry.{Entry}
use Rattle.lrc_rules.specs.Leases.{is_grant, grants}
use Rattle.lrc_rules.proofs.MemberLemmas.{All-members, Contains-cases, not-Contains-nil, AllPairs-head, AllPairs-tail}
use Rattle.lrc_rules.proofs.SeatingLemmas.{fragments-distinct}
use Rattle.lrc_images.specs.declared.image.GrantRow.{GrantRow}
use Rattle.lrc_images.specs.Images.{some_grant, row_grants, earlier}
use Rattle.lrc_images.specs.Rising.{grant_first, IsRising}

-- each fragment is one of the sixteen
pub wide-fragment : (f : Fragment) → Contains all_fragments f
wide-fragment f = code-fragments Wide f (lt-ltb f.value 16 f.in_range)

-- the count that the row has for a fragment of the stripe
abbrev pub counted : StripeNo → Fragment → GrantRow → ℕ
counted s f r = if same_stripe r.stripe s then get_or r.granted f.value 0 else 0

module _ (s : StripeNo) (f : Fragment) where
  abbrev one : Entry → ℕ
  one x = cond (is_grant s f x.reply) 1 0

  copies : (x : Entry) (b : Bool) → is_grant s f x.reply ≡ b → (n : ℕ) → grants (replicate n x) s f ≡ (if b then n else 0)
  copies x true is zero = refl
  copies x false is zero = refl
  copies x true is (suc n) = sum_by-cons one x (replicate n x) ∙ rw is (let rest = copies x true is n in omega (arith, rest))
  copies x false is (suc n) = sum_by-cons one x (replicate n x) ∙ rw is (let rest = copies x false is n in omega (arith, rest))

  module _ (t : StripeNo) (count : Fragment → ℕ) where
    abbrev entries : List Fragment → List Entry
    entries fs = flat_map (λ g. replicate (count g) (some_grant t g)) fs

    -- the entries of one fragment, if they are of this one and if they are of another
    own-copies : (g : Fragment) → g ≡ f → same_stripe t s ≡ true → grants (replicate (count g) (some_grant t g)) s f ≡ count g
    own-copies g same stripe =
        copies (some_grant t g) true (and_from (same_stripe t s) (same_fragment g f) stripe (eq-eqb g.value f.value (ap (λ (x : Fragment). x.value) same))) (count g)

    other-copies : (g : Fragment) → g ≢ f → grants (replicate (count g) (some_grant t g)) s f ≡ 0
    other-copies g other =
        copies (some_grant t g) false (false_from_ne_true (same_stripe t s && same_fragment g f) (λ hit.
        other (equal_fragments g f (eqb-true g.value f.value (and_parts (same_stripe t s) (same_fragment g f) hit).1)))) (count g)

    none-of : (fs : List Fragment) → All (λ g. g ≢ f) fs → grants (entries fs) s f ≡ 0
    none-of [] none = refl
    none-of (g ∷ gs) none =
        sum_by-append one (replicate (count g) (some_grant t g)) (entries gs)
        ∙ (let own = other-copies g (All-head (λ g. g ≢ f) g gs none) in
        let rest = none-of gs (All-tail (λ g. g ≢ f) g gs none) in omega (arith, own, rest))

    one-of : (fs : List Fragment) → AllPairs (λ g h. g ≢ h) fs → Contains fs f → same_stripe t s ≡ true → grants (entries fs) s f ≡ count f
    one-of [] distinct among stripe = absurd (not-Contains-nil f among)
    one-of (g ∷ gs) distinct among stripe =
        sum_by-append one (replicate (count g) (some_grant t g)) (entries gs)
        ∙ (elim (Contains-cases g f gs among) [
          | inl same ↦
              let own = own-copies g same stripe in
              let is : count g ≡ count f = ap count same in
              let rest = none-of gs (All-weaker (λ h. g ≢ h) (λ h. h ≢ f) (λ h other e. other (same ∙ sym e)) gs (AllPairs-head (λ g h. g ≢ h) g gs distinct)) in
              omega (arith, own, is, rest)
          | inr later ↦
              let own = other-copies g (All-contains (λ h. g ≢ h) gs f (AllPairs-head (λ g h. g ≢ h) g gs distinct) later) in
              let rest = one-of gs (AllPairs-tail (λ g h. g ≢ h) g gs distinct) later stripe in omega (arith, own, rest)
        ])

    no-stripe : (fs : List Fragment) → same_stripe t s ≡ false → grants (entries fs) s f ≡ 0
    no-stripe [] other = refl
    no-stripe (g ∷ gs) other =
        sum_by-append one (replicate (count g) (some_grant t g)) (entries gs)
        ∙ (let own = copies (some_grant t g) false (and_left (same_stripe t s) (same_fragment g f) other) (count g) in
        let rest = no-stripe gs other in omega (arith, own, rest))

  grants-row : (r : GrantRow) → grants (row_grants r) s f ≡ counted s f r
  grants-row r =
      let count = λ (g : Fragment). get_or r.granted g.value 0 in
      elim (cases_Bool (same_stripe r.stripe s)) [
        | inl own ↦ one-of r.stripe count all_fragments (fragments-distinct Wide) (wide-fragment f) own ∙ rw own refl
        | inr other ↦ no-stripe r.stripe count all_fragments other ∙ rw other refl
      ]

  pub grants-earlier : (rows : List GrantRow) → grants (earlier rows) s f ≡ sum_by (counted s f) rows
  grants-earlier [] = refl
  grants-earlier (r ∷ rs) =
      sum_by-append one (row_grants r) (earlier rs)
      ∙ (let own = grants-row r in
      let rest = grants-earlier rs in
      let sum = sum_by-cons (counted s f) r rs in omega (arith, own, rest, sum))

  -- ---- rows in rising order: at most one is of the stripe

  none-counted : (rows : List GrantRow) → All (λ r. same_stripe r.stripe s ≡ false) rows → sum_by (counted s f) rows ≡ 0
  none-counted [] none = refl
  none-counted (r ∷ rs) none =
      let sum = sum_by-cons (counted s f) r rs in
      let own : counted s f r ≡ 0 = rw (All-head (λ (r : GrantRow). same_stripe r.stripe s ≡ false) r rs none) refl in
      let rest = none-counted rs (All-tail (λ (r : GrantRow). same_stripe r.stripe s ≡ false) r rs none) in omega (arith, sum, own, rest)

  pub few-counted : (m : ℕ) (rows : List GrantRow) → IsRising grant_first rows → All (λ r. get_or r.granted f.value 0 ≤ m) rows → sum_by (counted s f) rows ≤ m
  few-counted m [] rising few = omega arith
  few-counted m (r ∷ rs) rising few =
      let sum = sum_by-cons (counted s f) r rs in
      let low = All-head (λ (r : GrantRow). get_or r.granted f.value 0 ≤ m) r rs few in
      elim (cases_Bool (same_stripe r.stripe s)) [
        | inl own ↦
            let first : counted s f r ≡ get_or r.granted f.value 0 = rw own refl in
            let at = eqb-true r.stripe.value s.value own in
            let rest = none-counted rs (All-weaker (λ (q : GrantRow). grant_first r q ≡ true) (λ q. same_stripe q.stripe s ≡ false)
            (λ q later. ne_eqb q.stripe.value s.value (λ same. let less = ltb-true r.stripe.value q.stripe.value later in omega (arith, at, same, less))) rs
            (AllPairs-head (λ (a b : GrantRow). grant_first a b ≡ true) r rs rising)) in
            omega (arith, sum, low, first, rest)
        | inr other ↦
            let first : counted s f r ≡ 0 = rw other refl in
            let rest = few-counted m rs (AllPairs-tail (λ (a b : GrantRow). grant_first a b ≡ true) r rs rising)
            (All-tail (λ (r : GrantRow). get_or r.granted f.value 0 ≤ m) r rs few) in
            omega (arith, sum, first, rest)
      ]

  -- if no row is of the stripe
  pub none-granted : (rows : List GrantRow) → ((r : GrantRow) → Contains rows r → r.stripe ≢ s) → grants (earlier rows) s f ≡ 0
  none-granted rows none =
      grants-earlier rows
      ∙ none-counted rows (All-members (λ (r : GrantRow). same_stripe r.stripe s ≡ false) rows
      (λ r here. ne_eqb r.stripe.value s.value (λ e. none r here (equal_stripes r.stripe s e))))

-- if the rows rise, the count of a row is the number of grants of its fragment
counted-one : (rows : List GrantRow) (r : GrantRow) (f : Fragment) → IsRising grant_first rows → Contains rows r → sum_by (counted r.stripe f) rows ≡ get_or r.granted f.value 0
counted-one [] r f rising here = absurd (not-Contains-nil r here)
counted-one (q ∷ qs) r f rising here =
    let sum = sum_by-cons (counted r.stripe f) q qs in
    let later = AllPairs-head (λ (a b : GrantRow). grant_first a b ≡ true) q qs rising in
    elim (Contains-cases q r qs here) [
      | inl same ↦
          let own : counted r.stripe f q ≡ get_or r.granted f.value 0 = ap (counted r.stripe f) same ∙ rw (eq-eqb r.stripe.value r.stripe.value refl) refl in
          let rest = none-counted r.stripe f qs (All-weaker (λ (p : GrantRow). grant_first q p ≡ true) (λ p. same_stripe p.stripe r.stripe ≡ false)
          (λ p behind. ne_eqb p.stripe.value r.stripe.value (λ e.
          let less = ltb-true q.stripe.value p.stripe.value behind in
          let at : q.stripe.value ≡ r.stripe.value = ap (λ (p : GrantRow). p.stripe.value) same in omega (arith, less, at, e))) qs later) in
          omega (arith, sum, own, rest)
      | inr more ↦
          let less = ltb-true q.stripe.value r.stripe.value (All-contains (λ (p : GrantRow). grant_first q p ≡ true) qs r later more) in
          let own : counted r.stripe f q ≡ 0 = rw (ne_eqb q.stripe.value r.stripe.value (λ e. omega (arith, less, e))) refl in
          let rest = counted-one qs r f (AllPairs-tail (λ (a b : GrantRow). grant_first a b ≡ true) q qs rising) more in
          omega (arith, sum, own, rest)
    ]

pub row-granted : (rows : List GrantRow) (r : GrantRow) (f : Fragment) → IsRising grant_first rows → Contains rows r → grants (earlier rows) r.stripe f ≡ get_or r.granted f.value 0
row-granted rows r f rising here = grants-earlier r.stripe f rows ∙ counted-one rows r f rising here

-- a count of a row is no more than the grants of its fragment
pub counted-most : (rows : List GrantRow) (r : GrantRow) (f : Fragment) → Contains rows r → get_or r.granted f.value 0 ≤ grants (earlier rows) r.stripe f
counted-most rows r f here =
    let own : counted r.stripe f r ≡ get_or r.granted f.value 0 = rw (eq-eqb r.stripe.value r.stripe.value refl) refl in
    let most = get_or-le-sum_by (counted r.stripe f) rows here.0 r here.1 in
    let at : counted r.stripe f (get_or rows here.0 r) ≡ counted r.stripe f r = ap (counted r.stripe f) here.2 in
    let sum = grants-earlier r.stripe f rows in
    omega (arith, own, most, at, sum)
