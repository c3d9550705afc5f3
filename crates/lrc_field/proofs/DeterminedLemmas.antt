-- What determines a fragment: its local group, or all but four fragments.
use Rattle.std.proofs.Common.{◌≡◌, ℕ, zero, suc, ◌+◌, ◌-◌, ◌<◌, ◌≤◌, Bool, true, false, cond, not, ◌&&◌, ◌||◌, eqb, ltb, List, [], ◌∷◌, count_by, refl, sym, ap, ◌∙◌, inl, inr, arith}
use Rattle.std.proofs.lemmas.List.Sums.{sum_by-cons}
use Rattle.std.proofs.lemmas.Bool.{cases_Bool, cases_lt, cases_eq, eqb-true, eq-eqb, ltb-true, lt-ltb, or_cases, or_left, or_right, and_parts, and_from, not-true}
use Rattle.lrc_code.specs.declared.codes.Code.{Code}
use Rattle.lrc_code.specs.declared.codes.Class.{Class}
use Rattle.lrc_code.specs.declared.codes.Class.TheVariants.{A, B, G}
use Rattle.lrc_code.specs.Codes.{fragment_count, members, data_count}
use Rattle.lrc_code.specs.Losses.{FragmentSet, IsRecoverable, excess, losses_in, size_of, joined}
use Rattle.lrc_code.proofs.LossesLemmas.{by_counts, members-below, size_of-classes, losses_in-within}
use Rattle.lrc_code.proofs.SubsetsLemmas.{count_by-within}
use Rattle.lrc_code.proofs.SizeLemmas.{recoverable_four}
use Rattle.lrc_field.specs.Stripes.{Bytes, IsStripe, outside, Determines, IsDecodable}
use Rattle.lrc_field.proofs.MemberLemmas.{only, only_one, size_of-outside, four_parities}
use Rattle.lrc_field.proofs.LeftOutLemmas.{IsNear, near-within, losses-one_more}
use Rattle.lrc_field.proofs.DecodableLemmas.{decodable, except}
use Rattle.lrc_field.proofs.UndecodableLemmas.{recoverable}

-- what determines a fragment makes it decodable together with any recoverable set of unknown fragments
together : (code : Code) (known t : FragmentSet) (f : ℕ) → f < fragment_count code → known f ≡ false → ((g : ℕ) → t g ≡ true → known g ≡ false) → IsRecoverable code t → Determines code known f → IsRecoverable code (joined t (only f))
together code known t f within unknown part good determines = recoverable code (joined t (only f)) all where
  left : (g : ℕ) → known g ≡ true → (t g || eqb g f) ≡ false
  left g knows = elim (cases_Bool (t g || eqb g f)) [
    | inr absent ↦ absent
    | inl some ↦ elim (or_cases (t g) (eqb g f) some) [
      | inl taken ↦ absurd (let e : true ≡ false = sym knows ∙ part g taken in cc)
      | inr here ↦ absurd (let e : true ≡ false = sym knows ∙ (ap known (eqb-true g f here) ∙ unknown) in cc)
    ]
  ]

  at_f : (v w : Bytes) → IsStripe code v → IsStripe code w → ((g : ℕ) → g < fragment_count code → not (t g || eqb g f) ≡ true → v g ≡ w g) → v f ≡ w f
  at_f v w sv sw same = determines v w sv sw (λ g few knows. same g few (rw (left g knows) refl))

  all : IsDecodable code (joined t (only f))
  all g few v w sv sw same = elim (cases_Bool (eqb g f)) [
    | inl here ↦ ap v (eqb-true g f here) ∙ at_f v w sv sw same ∙ ap w (sym (eqb-true g f here))
    | inr other ↦ decodable code t good g few v w sv sw (λ h low stands. elim (cases_Bool (eqb h f)) [
      | inl here ↦ ap v (eqb-true h f here) ∙ at_f v w sv sw same ∙ ap w (sym (eqb-true h f here))
      | inr apart ↦ same h low (rw (not-true (t h) stands, apart) refl)
    ])
  ]

either : (p q r : Bool) → (p ≡ true → (q || r) ≡ true) → cond {A = ℕ} p 1 0 ≤ cond q 1 0 + cond r 1 0
either true true r h = omega arith
either true false true h = omega arith
either true false false h = absurd (let e : false ≡ true = h refl in cc)
either false true true h = omega arith
either false true false h = omega arith
either false false true h = omega arith
either false false false h = omega arith

-- a set whose members are each in one of two sets has no more members than both
count_by-either : (p q r : ℕ → Bool) → ((g : ℕ) → p g ≡ true → (q g || r g) ≡ true) → (xs : List ℕ) → count_by p xs ≤ count_by q xs + count_by r xs
count_by-either p q r each [] = omega arith
count_by-either p q r each (x ∷ xs) =
    let here = either (p x) (q x) (r x) (each x) in
    let tail = count_by-either p q r each xs in
    omega (arith, here, tail, sum_by-cons (λ f. cond (p f) 1 0) x xs, sum_by-cons (λ f. cond (q f) 1 0) x xs, sum_by-cons (λ f. cond (r f) 1 0) x xs)

-- a number that rises by at most 1 from at most 2 to at least 2 is 2 somewhere
record Reached (e : ℕ → ℕ) : Type 0 where
  pub k : ℕ
  pub two : e k ≡ 2

reach : (e : ℕ → ℕ) (n : ℕ) → ((k : ℕ) → k < n → e (suc k) ≤ e k + 1) → e 0 ≤ 2 → 2 ≤ e n → Reached e
reach e zero step low high = record { k = 0; two = omega (arith, low, high) }
reach e (suc n) step low high = elim (cases_lt (e n) 2) [
  | inr enough ↦ reach e n (λ k few. step k (omega (arith, few))) low enough
  | inl short ↦ record { k = suc n; two = omega (arith, high, short, step n (omega arith)) }
]

one_more : (a b g x y z fa fb fg : ℕ) → x ≤ a + fa → y ≤ b + fb → z ≤ g + fg → fa + fb + fg ≡ 1 → (x - 1) + (y - 1) + z ≤ (a - 1) + (b - 1) + g + 1
one_more a b g x y z fa fb fg la lb lg one = omega (arith, la, lb, lg, one)

few_first : (x y z fa fb fg : ℕ) → x ≤ fa → y ≤ fb → z ≤ fg → fa + fb + fg ≡ 1 → (x - 1) + (y - 1) + z ≤ 2
few_first x y z fa fb fg la lb lg one = omega (arith, la, lb, lg, one)

many_last : (a b g x y z s t u fa fb fg : ℕ) → a ≤ x → b ≤ y → g ≤ z → s ≡ a + fa → t ≡ b + fb → u ≡ g + fg → fa + fb + fg ≡ 1 → 2 < (s - 1) + (t - 1) + u → 2 ≤ (x - 1) + (y - 1) + z
many_last a b g x y z s t u fa fb fg la lb lg es et eu one many = omega (arith, la, lb, lg, es, et, eu, one, many)

three : (a b g s t u fa fb fg : ℕ) → fa ≤ a → fb ≤ b → s ≡ a + fa → t ≡ b + fb → u ≡ g + fg → fa + fb + fg ≡ 1 → (a - 1) + (b - 1) + g ≡ 2 → (s - 1) + (t - 1) + u ≤ 2 → ⊥
three a b g s t u fa fb fg near_a near_b es et eu one two few = omega (arith, near_a, near_b, es, et, eu, one, two, few)

module _ (code : Code) (o : FragmentSet) (f p : ℕ) (within : f < fragment_count code) (out : o f ≡ false) (near : IsNear code o f p) where
  -- the near one and the first `n` others
  abbrev some_of : ℕ → FragmentSet
  some_of n g = o g && (eqb g p || ltb g n)

  abbrev excess_at : ℕ → ℕ
  excess_at n = excess code (some_of n)

  inside : (n g : ℕ) → some_of n g ≡ true → o g ≡ true
  inside n g h = (and_parts (o g) (eqb g p || ltb g n) h).0

  next : (n g : ℕ) → some_of (suc n) g ≡ true → (some_of n g || eqb g n) ≡ true
  next n g h =
      let parts = and_parts (o g) (eqb g p || ltb g (suc n)) h in
      elim (or_cases (eqb g p) (ltb g (suc n)) parts.1) [
        | inl here ↦ or_left (some_of n g) (eqb g n) (and_from (o g) (eqb g p || ltb g n) parts.0 (or_left (eqb g p) (ltb g n) here))
        | inr low ↦ elim (cases_eq g n) [
          | inl last ↦ or_right (some_of n g) (eqb g n) (eq-eqb g n last)
          | inr before ↦ or_left (some_of n g) (eqb g n) (and_from (o g) (eqb g p || ltb g n) parts.0 (or_right (eqb g p) (ltb g n) (lt-ltb g n (let l = ltb-true g (suc n) low in omega (arith, l, before)))))
        ]
      ]

  rises : (n : ℕ) → n < fragment_count code → excess_at (suc n) ≤ excess_at n + 1
  rises n few =
      let count = λ (c : Class). count_by-either (some_of (suc n)) (some_of n) (only n) (next n) (members code c) in
      one_more (losses_in code A (some_of n)) (losses_in code B (some_of n)) (losses_in code G (some_of n)) (losses_in code A (some_of (suc n))) (losses_in code B (some_of (suc n))) (losses_in code G (some_of (suc n))) (losses_in code A (only n)) (losses_in code B (only n)) (losses_in code G (only n))
      (count A) (count B) (count G) (only_one code n few)

  first : (g : ℕ) → some_of 0 g ≡ true → only p g ≡ true
  first g h = elim (or_cases (eqb g p) (ltb g 0) (and_parts (o g) (eqb g p || ltb g 0) h).1) [
    | inl here ↦ here
    | inr low ↦ absurd (let l = ltb-true g 0 low in omega (arith, l))
  ]

  begins : excess_at 0 ≤ 2
  begins =
      let n = fragment_count code in
      let count = λ (c : Class). count_by-within (only p) (some_of 0) n (λ g few h. first g h) (members code c) (members-below code c) in
      few_first (losses_in code A (some_of 0)) (losses_in code B (some_of 0)) (losses_in code G (some_of 0)) (losses_in code A (only p)) (losses_in code B (only p)) (losses_in code G (only p)) (count A) (count B) (count G) (only_one code p near.within)

  ends : 2 < excess code (joined o (only f)) → 2 ≤ excess_at (fragment_count code)
  ends many =
      let n = fragment_count code in
      let count = λ (c : Class). count_by-within (some_of n) o n (λ g few h. and_from (o g) (eqb g p || ltb g n) h (or_right (eqb g p) (ltb g n) (lt-ltb g n few))) (members code c) (members-below code c) in
      many_last (losses_in code A o) (losses_in code B o) (losses_in code G o) (losses_in code A (some_of n)) (losses_in code B (some_of n)) (losses_in code G (some_of n)) (losses_in code A (joined o (only f))) (losses_in code B (joined o (only f))) (losses_in code G (joined o (only f))) (losses_in code A (only f)) (losses_in code B (only f)) (losses_in code G (only f))
      (count A) (count B) (count G) (losses-one_more code o f out A) (losses-one_more code o f out B) (losses-one_more code o f out G) (only_one code f within) many

  -- the fragment makes a set of an excess of two too large
  too_many : (k : ℕ) → excess_at k ≡ 2 → IsRecoverable code (joined (some_of k) (only f)) → ⊥
  too_many k two good =
      let missing : some_of k f ≡ false = rw out refl in
      let enough = near-within code o (some_of k) f p (λ g h. let parts = and_parts (o g) (eqb g p) h in and_from (o g) (eqb g p || ltb g k) parts.0 (or_left (eqb g p) (ltb g k) parts.1)) near in
      three (losses_in code A (some_of k)) (losses_in code B (some_of k)) (losses_in code G (some_of k)) (losses_in code A (joined (some_of k) (only f))) (losses_in code B (joined (some_of k) (only f))) (losses_in code G (joined (some_of k) (only f))) (losses_in code A (only f)) (losses_in code B (only f)) (losses_in code G (only f))
      enough.0 enough.1 (losses-one_more code (some_of k) f missing A) (losses-one_more code (some_of k) f missing B) (losses-one_more code (some_of k) f missing G) (only_one code f within) two ((by_counts code (joined (some_of k) (only f))).0 good)

  -- A fragment that is determined although its group lacks another is lost in a recoverable set.
  pub recoverable_near : (known : FragmentSet) → known f ≡ false → ((g : ℕ) → o g ≡ true → known g ≡ false) → Determines code known f → IsRecoverable code (joined o (only f))
  recoverable_near known unknown part determines = elim (cases_lt 2 (excess code (joined o (only f)))) [
    | inr few ↦ (by_counts code (joined o (only f))).1 few
    | inl many ↦
        let r = reach excess_at (fragment_count code) rises begins (ends many) in
        absurd (too_many r.k r.two (together code known (some_of r.k) f within unknown (λ g h. part g (inside r.k g h)) ((by_counts code (some_of r.k)).1 (omega (arith, r.two))) determines))
  ]

sum_within : (a b g x y z s t : ℕ) → a ≤ x → b ≤ y → g ≤ z → s ≡ a + b + g → t ≡ x + y + z → s ≤ t
sum_within a b g x y z s t la lb lg es et = omega (arith, la, lb, lg, es, et)

-- a part of a set has no more fragments
pub size_of-within : (code : Code) (m part : FragmentSet) → ((g : ℕ) → g < fragment_count code → part g ≡ true → m g ≡ true) → size_of code part ≤ size_of code m
size_of-within code m part within =
    sum_within (losses_in code A part) (losses_in code B part) (losses_in code G part) (losses_in code A m) (losses_in code B m) (losses_in code G m) (size_of code part) (size_of code m)
    (losses_in-within code m part within A) (losses_in-within code m part within B) (losses_in-within code m part within G) (size_of-classes code part) (size_of-classes code m)

left_over : (known unknown all least lost : ℕ) → unknown + known ≡ all → all ≡ least + 4 → unknown ≤ lost → lost ≤ 4 → least ≤ known
left_over known unknown all least lost both count few four = omega (arith, both, count, few, four)

-- So it takes as many as there are data fragments to determine it.
pub many_known : (code : Code) (known : FragmentSet) (f p : ℕ) → f < fragment_count code → known f ≡ false → IsNear code (except (outside known) f) f p → Determines code known f → data_count code ≤ size_of code known
many_known code known f p within unknown near determines =
    let o = except (outside known) f in
    let out : o f ≡ false = rw (eq-eqb f f refl) (last (outside known f)) in
    let good = recoverable_near code o f p within out near known unknown (λ g h. not-true (known g) (and_parts (outside known g) (not (eqb g f)) h).0) determines in
    left_over (size_of code known) (size_of code (outside known)) (fragment_count code) (data_count code) (size_of code (joined o (only f))) (size_of-outside code known) (four_parities code)
    (size_of-within code (joined o (only f)) (outside known) (λ g few h. elim (cases_Bool (eqb g f)) [
      | inl here ↦ or_right (o g) (eqb g f) here
      | inr apart ↦ or_left (o g) (eqb g f) (and_from (outside known g) (not (eqb g f)) h (rw apart refl))
    ]))
    (recoverable_four code (joined o (only f)) good) where
      last : (b : Bool) → (b && not true) ≡ false
      last true = refl
      last false = refl
