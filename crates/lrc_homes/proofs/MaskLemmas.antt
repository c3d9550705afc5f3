-- Masks of fragments, built fragment by fragment.
use Rattle.std.proofs.Common.{◌≡◌, ℕ, ◌+◌, ◌<◌, inl, inr, Bool, true, false, ◌&&◌, ◌||◌, eqb, ltb, List, get_or, refl, sym, ◌∙◌, arith, zero, suc, ◌^◌, subst, ◌≤◌, [], ◌∷◌, length, map, cond, not, if◌then◌else◌, ap, min, max, ◌-◌, bit_or, bit_and, w16, Option, Some, None, is_some, is_none}
use Rattle.std.specs.Int.{bit_at, bit_not}
use Rattle.std.proofs.lemmas.Nat.Bits.{bit_at_or, bit_at_and, bit_at_not, bit_at-lt, bit_at_above, bit_at_ones, bit_at-zero}
use Rattle.std.proofs.lemmas.Bool.{cases_eq, cases_lt, eq-eqb, ne_eqb, lt-ltb, le-ltb, ltb-true}
use Rattle.std.proofs.lemmas.List.{get_or-map, length-map}
use Rattle.std.proofs.lemmas.Simd.{mask_l-lt, bit_mask_l}
use Rattle.std.specs.Simd.Lanes.{mask_l}
use Rattle.lrc_code.specs.declared.codes.Code.{Code}
use Rattle.lrc_code.specs.declared.numbers.Fragment.{Fragment}
use Rattle.lrc_code.specs.Codes.{fragments, fragment_count, has_fragment, all_fragments}
use Rattle.lrc_code.specs.Losses.{bits_set}
use Rattle.lrc_terms.proofs.CodeListLemmas.{fragment-number, few-fragments}

-- a fragment of the code has a number below sixteen
pub has-low : (code : Code) (f : ℕ) → has_fragment code f ≡ true → f < 16
has-low code f has = omega (arith, ltb-true f (fragment_count code) has, few-fragments code)

-- the members of a set among those below the next number
module _ (m : ℕ → Bool) (i : ℕ) where
  pub below-next_true : (f : ℕ) → m i ≡ true → (eqb f i || (ltb f i && m f)) ≡ (ltb f (i + 1) && m f)
  below-next_true f hit = elim (cases_eq f i) [
    | inl same ↦ let s : m f ≡ true = rw same hit in rw (eq-eqb f i same, lt-ltb f (i + 1) (omega (arith, same)), s) refl
    | inr other ↦ elim (cases_lt f i) [
      | inl below ↦ rw (ne_eqb f i other, lt-ltb f i below, lt-ltb f (i + 1) (omega (arith, below))) refl
      | inr above ↦ rw (ne_eqb f i other, le-ltb f i above, le-ltb f (i + 1) (omega (arith, above, other))) refl
    ]
  ]

  pub below-next_false : (f : ℕ) → m i ≡ false → (ltb f i && m f) ≡ (ltb f (i + 1) && m f)
  below-next_false f miss = elim (cases_eq f i) [
    | inl same ↦ let s : m f ≡ false = rw same miss in rw (le-ltb f i (omega (arith, same)), lt-ltb f (i + 1) (omega (arith, same)), s) refl
    | inr other ↦ elim (cases_lt f i) [
      | inl below ↦ rw (lt-ltb f i below, lt-ltb f (i + 1) (omega (arith, below))) refl
      | inr above ↦ rw (le-ltb f i above, le-ltb f (i + 1) (omega (arith, above, other))) refl
    ]
  ]

  -- the mask with the next fragment, which is in the set
  pub mask-next_true : (bits next k : ℕ) → k ≡ i → m i ≡ true → ((f : ℕ) → bits_set bits f ≡ (ltb f i && m f)) → ((f : ℕ) → bits_set next f ≡ (eqb f k || bits_set bits f)) → (f : ℕ) → bits_set next f ≡ (ltb f (i + 1) && m f)
  mask-next_true bits next k same hit before after f = after f ∙ rw (same, before f) (below-next_true f hit)

  -- the mask as it was, where the next fragment is not in the set
  pub mask-next_false : (bits : ℕ) → m i ≡ false → ((f : ℕ) → bits_set bits f ≡ (ltb f i && m f)) → (f : ℕ) → bits_set bits f ≡ (ltb f (i + 1) && m f)
  mask-next_false bits miss before f = before f ∙ below-next_false f miss

  -- the mask with the next fragment, if it is in the set
  pub mask-next : (bits next k : ℕ) (b : Bool) → k ≡ i → b ≡ m i → ((f : ℕ) → bits_set bits f ≡ (ltb f i && m f)) → ((f : ℕ) → bits_set next f ≡ ((eqb f k && b) || bits_set bits f)) → (f : ℕ) → bits_set next f ≡ (ltb f (i + 1) && m f)
  mask-next bits next k true same hit before after = mask-next_true bits next k same (sym hit) before (λ f. after f ∙ ap (λ (x : Bool). x || bits_set bits f) (and-true (eqb f k))) where
    and-true : (x : Bool) → (x && true) ≡ x
    and-true true = refl
    and-true false = refl
  mask-next bits next k false same miss before after = (λ f. after f ∙ (ap (λ (x : Bool). x || bits_set bits f) (and-false (eqb f k)) ∙ mask-next_false bits (sym miss) before f)) where
    and-false : (x : Bool) → (x && false) ≡ false
    and-false true = refl
    and-false false = refl

-- the cases of `is_none`
pub is_none-answer : {X : Type 0} (o : Option X) (b : Bool) → is_some o ≡ not b → is_none o ≡ b
is_none-answer None true e = refl
is_none-answer None false e = absurd (cc)
is_none-answer (Some x) true e = absurd (cc)
is_none-answer (Some x) false e = refl

-- the number of the fragment at a place of the array of all
pub item-number : (items : List Fragment) (i : ℕ) (d : Fragment) → items ≡ all_fragments → i < 16 → (get_or items i d).value ≡ i
item-number items i d all within = rw all (fragment-number i d within)

-- ---- masks joined and taken apart

module _ (a b c f : ℕ) where
  pub put-in : c ≡ bit_or a b → bits_set c f ≡ (if bits_set b f then true else bits_set a f)
  put-in is =
      let joined : bit_at c f ≡ max (bit_at a f) (bit_at b f) = ap (λ (n : ℕ). bit_at n f) is ∙ bit_at_or a b f in
      let low = bit_at-lt a f in
      elim (cases_eq (bit_at b f) 1) [
        | inl one ↦ rw (eq-eqb _ _ one) (eq-eqb _ _ (omega (arith, joined, one, low)))
        | inr other ↦
            let none = bit_at-lt b f in
            let same : bit_at c f ≡ bit_at a f = omega (arith, joined, other, none, low) in
            rw (ne_eqb _ _ other) (ap (λ (n : ℕ). eqb n 1) same)
      ]

  pub put-out : c ≡ bit_and a (bit_not w16 b) → a < 65536 → b < 65536 → bits_set c f ≡ (if bits_set b f then false else bits_set a f)
  put-out is small few =
      let met : bit_at c f ≡ min (bit_at a f) (bit_at (bit_not w16 b) f) = ap (λ (n : ℕ). bit_at n f) is ∙ bit_at_and a (bit_not w16 b) f in
      elim (cases_lt f 16) [
        | inl within ↦
            let turned : bit_at (bit_not w16 b) f ≡ 1 - bit_at b f = bit_at_not w16 b f few within in
            elim (cases_eq (bit_at b f) 1) [
              | inl one ↦ rw (eq-eqb _ _ one) (ne_eqb _ _ (λ e. omega (arith, met, turned, one, e)))
              | inr other ↦
                  let none = bit_at-lt b f in
                  let low = bit_at-lt a f in
                  let same : bit_at c f ≡ bit_at a f = omega (arith, met, turned, other, none, low) in
                  rw (ne_eqb _ _ other) (ap (λ (n : ℕ). eqb n 1) same)
            ]
        | inr past ↦
            let a_none : bit_at a f ≡ 0 = bit_at_above a 16 f small past in
            let b_none : bit_at b f ≡ 0 = bit_at_above b 16 f few past in
            let c_none : bit_at c f ≡ 0 = omega (arith, met, a_none) in
            rw (a_none, b_none, c_none) refl
      ]

-- every fragment is in the mask of sixteen bits
pub full-mask : (b : ℕ) → b ≡ 65535 → (f : ℕ) → bits_set b f ≡ ltb f 16
full-mask b all f = elim (cases_lt f 16) [
  | inl within ↦
      let one : bit_at b f ≡ 1 = ap (λ (n : ℕ). bit_at n f) all ∙ bit_at_ones 16 f within in
      rw (lt-ltb f 16 within) (eq-eqb _ _ one)
  | inr past ↦
      let none : bit_at b f ≡ 0 = ap (λ (n : ℕ). bit_at n f) all ∙ bit_at_above 65535 16 f (omega arith) past in
      rw (le-ltb f 16 past, none) refl
]

-- the mask of one fragment
pub one-mask : (zero_bits one f g : ℕ) → zero_bits ≡ 0 → bits_set one g ≡ (eqb g f || bits_set zero_bits g) → bits_set one g ≡ eqb g f
one-mask zero_bits one f g none is =
    let no : bits_set zero_bits g ≡ false = rw (none, bit_at-zero g) refl in
    is ∙ ap (λ (b : Bool). eqb g f || b) no ∙ or-false (eqb g f)
  where
    or-false : (b : Bool) → (b || false) ≡ b
    or-false true = refl
    or-false false = refl

pub put-one : (before after one f : ℕ) (b : Bool) → ((g : ℕ) → bits_set one g ≡ eqb g f) → ((g : ℕ) → bits_set after g ≡ (if bits_set one g then b else bits_set before g))
    → (g : ℕ) → bits_set after g ≡ (if eqb g f then b else bits_set before g)
put-one before after one f b is put g = put g ∙ ap (λ (x : Bool). if x then b else bits_set before g) (is g)

-- ---- sixteen numbers compared with one at once

-- a list has nothing past its end
none-past : (bs : List Bool) (i : ℕ) → length bs ≤ i → get_or bs i false ≡ false
none-past [] i past = refl
none-past (b ∷ bs) zero past = absurd (omega (arith, past))
none-past (b ∷ bs) (suc i) past = none-past bs i (omega (arith, past))

-- the mask of those that are alike
abbrev pub alike : List ℕ → ℕ → ℕ
alike xs y = mask_l (map (λ x. eqb x y) xs)

pub alike-few : (xs : List ℕ) (y : ℕ) → length xs ≡ 16 → alike xs y < 65536
alike-few xs y long =
    let marks = map (λ (x : ℕ). eqb x y) xs in
    subst (λ (n : ℕ). mask_l marks < 2 ^ n) (length-map xs (λ (x : ℕ). eqb x y) ∙ long) (mask_l-lt marks)

pub alike-set : (xs : List ℕ) (y f : ℕ) → length xs ≡ 16 → bits_set (alike xs y) f ≡ (ltb f 16 && eqb (get_or xs f 0) y)
alike-set xs y f long =
    let marks = map (λ (x : ℕ). eqb x y) xs in
    let sixteen : length marks ≡ 16 = length-map xs (λ (x : ℕ). eqb x y) ∙ long in
    ap (λ n. eqb n 1) (bit_mask_l marks f)
    ∙ back (get_or marks f false)
    ∙ (elim (cases_lt f 16) [
      | inl below ↦ get_or-map (λ (x : ℕ). eqb x y) xs f 0 false (omega (arith, below, long)) ∙ sym (ap (λ b. b && eqb (get_or xs f 0) y) (lt-ltb f 16 below))
      | inr above ↦ none-past marks f (omega (arith, above, sixteen)) ∙ sym (ap (λ b. b && eqb (get_or xs f 0) y) (le-ltb f 16 above))
    ]) where
      back : (b : Bool) → eqb (cond b 1 0) 1 ≡ b
      back true = refl
      back false = refl
