-- Numbers of 64 stripes as words of bits, and the ranks that follow from them.
use Rattle.std.proofs.Common.{bit_and, bit_or, bit_xor, ◌≡◌, ◌≢◌, ℕ, zero, suc, ◌+◌, ◌-◌, ◌*◌, ◌^◌, ◌<◌, ◌≤◌, Bool, true, false, not, ◌&&◌, ◌||◌, nat_eq, nat_lt, nat_le, cond, List, [], ◌∷◌, length, get_or, arith, refl, sym, ap, ◌∙◌, inl, inr}
use Rattle.std.specs.List.{sum_by}
use Rattle.std.specs.Int.{bit_at}
use Rattle.std.proofs.lemmas.Bool.{cases_eq, cases_lt, eq-eqb, ne_eqb, eqb-true, eqb-false, lt-ltb, le-ltb, lt-leb}
use Rattle.std.proofs.lemmas.Nat.Bits.{bit_at_and, bit_at_or, bit_at_xor, bit_at-lt, bit_at-zero}
use Rattle.lrc_bits.proofs.UnionLemmas.{or_flag, and_flag, and_not_flag, not_flag}
use Rattle.lrc_ranks.specs.declared.counts.AtLeast.{AtLeast}
use Rattle.lrc_ranks.specs.Counts.{IsAtLeast, rank_by_excess}

-- ---- sums

-- the two words of a full adder add up to the three bits
pub adder-sum : (a b c k : ℕ) → bit_at (bit_xor (bit_xor a b) c) k + 2 * bit_at (bit_or (bit_and a b) (bit_and (bit_xor a b) c)) k ≡ bit_at a k + bit_at b k + bit_at c k
adder-sum a b c k =
    let half = bit_at_xor a b k in
    let low = bit_at_xor (bit_xor a b) c k in
    let both = bit_at_and a b k in
    let more = bit_at_and (bit_xor a b) c k in
    let high = bit_at_or (bit_and a b) (bit_and (bit_xor a b) c) k in
    let p = bit_at-lt a k in
    let q = bit_at-lt b k in
    let r = bit_at-lt c k in
    omega (arith, half, low, both, more, high, p, q, r)

-- the sum over seven words
pub seven-sum : (words : List ℕ) (k : ℕ) → length words ≡ 7
    → sum_by (λ w. bit_at w k) words ≡ 0 + bit_at (get_or words 0 0) k + bit_at (get_or words 1 0) k + bit_at (get_or words 2 0) k + bit_at (get_or words 3 0) k
    + bit_at (get_or words 4 0) k + bit_at (get_or words 5 0) k + bit_at (get_or words 6 0) k
seven-sum [] k long = absurd (omega (arith, long))
seven-sum (a ∷ []) k long = absurd (omega (arith, long))
seven-sum (a ∷ b ∷ []) k long = absurd (omega (arith, long))
seven-sum (a ∷ b ∷ c ∷ []) k long = absurd (omega (arith, long))
seven-sum (a ∷ b ∷ c ∷ d ∷ []) k long = absurd (omega (arith, long))
seven-sum (a ∷ b ∷ c ∷ d ∷ e ∷ []) k long = absurd (omega (arith, long))
seven-sum (a ∷ b ∷ c ∷ d ∷ e ∷ f ∷ []) k long = absurd (omega (arith, long))
seven-sum (a ∷ b ∷ c ∷ d ∷ e ∷ f ∷ g ∷ []) k long = refl
seven-sum (a ∷ b ∷ c ∷ d ∷ e ∷ f ∷ g ∷ h ∷ words) k long = absurd (omega (arith, long))

-- two rounds of full adders count seven bits
pub seven-counted : (a b c d e f g low low_carry high high_carry ones carry twos fours : ℕ) → low + 2 * low_carry ≡ a + b + c → high + 2 * high_carry ≡ d + e + f
    → ones + 2 * carry ≡ low + high + g → twos + 2 * fours ≡ low_carry + high_carry + carry → ones + 2 * twos + 4 * fours ≡ 0 + a + b + c + d + e + f + g
seven-counted a b c d e f g low low_carry high high_carry ones carry twos fours p q r s = omega (arith, p, q, r, s)

-- ---- tests

-- a test of a bit and one of a number that hold together are the same
test-same : (x m n : ℕ) → (x ≡ 1 → m < n) → (m < n → x ≡ 1) → nat_eq x 1 ≡ nat_lt m n
test-same x m n there back = elim (cases_lt m n) [
  | inl less ↦ eq-eqb x 1 (back less) ∙ sym (lt-ltb m n less)
  | inr most ↦ ne_eqb x 1 (λ e. let less = there e in absurd (omega (arith, less, most))) ∙ sym (le-ltb m n most)
]

-- a set bit counts one
pub bit-count : (x k : ℕ) (b : Bool) → nat_eq (bit_at x k) 1 ≡ b → bit_at x k ≡ cond b 1 0
bit-count x k true e = eqb-true _ 1 e
bit-count x k false e = let none : bit_at x k ≢ 1 = eqb-false _ 1 e in let low = bit_at-lt x k in omega (arith, none, low)

module _ (a b c k : ℕ) where
  abbrev number : ℕ
  number = bit_at a k + 2 * bit_at b k + 4 * bit_at c k

  -- a number has a bit exactly if it is not 0
  pub any-bit : nat_eq (bit_at (bit_or (bit_or a b) c) k) 1 ≡ nat_lt 0 number
  any-bit =
      let p = bit_at_or (bit_or a b) c k in
      let q = bit_at_or a b k in
      let x = bit_at-lt a k in
      let y = bit_at-lt b k in
      let z = bit_at-lt c k in
      test-same _ 0 number (λ e. omega (arith, e, p, q, x, y, z)) (λ less. omega (arith, less, p, q, x, y, z))

  pub less-one_one : nat_eq (bit_at (bit_or b c) k) 1 ≡ nat_lt 0 (number - 1)
  less-one_one =
      let p = bit_at_or b c k in
      let x = bit_at-lt a k in
      let y = bit_at-lt b k in
      let z = bit_at-lt c k in
      test-same _ 0 (number - 1) (λ e. omega (arith, e, p, x, y, z)) (λ less. omega (arith, less, p, x, y, z))

  pub less-one_two : nat_eq (bit_at (bit_or c (bit_and a b)) k) 1 ≡ nat_lt 1 (number - 1)
  less-one_two =
      let p = bit_at_or c (bit_and a b) k in
      let q = bit_at_and a b k in
      let x = bit_at-lt a k in
      let y = bit_at-lt b k in
      let z = bit_at-lt c k in
      test-same _ 1 (number - 1) (λ e. omega (arith, e, p, q, x, y, z)) (λ less. omega (arith, less, p, q, x, y, z))

  pub less-one_three : nat_eq (bit_at c k) 1 ≡ nat_lt 2 (number - 1)
  less-one_three =
      let x = bit_at-lt a k in
      let y = bit_at-lt b k in
      let z = bit_at-lt c k in
      test-same _ 2 (number - 1) (λ e. omega (arith, e, x, y, z)) (λ less. omega (arith, less, x, y, z))

module _ (a b k : ℕ) where
  pub two-one : nat_eq (bit_at (bit_or a b) k) 1 ≡ nat_lt 0 (bit_at a k + bit_at b k)
  two-one =
      let p = bit_at_or a b k in
      let x = bit_at-lt a k in
      let y = bit_at-lt b k in
      test-same _ 0 (bit_at a k + bit_at b k) (λ e. omega (arith, e, p, x, y)) (λ less. omega (arith, less, p, x, y))

  pub two-two : nat_eq (bit_at (bit_and a b) k) 1 ≡ nat_lt 1 (bit_at a k + bit_at b k)
  two-two =
      let p = bit_at_and a b k in
      let x = bit_at-lt a k in
      let y = bit_at-lt b k in
      test-same _ 1 (bit_at a k + bit_at b k) (λ e. omega (arith, e, p, x, y)) (λ less. omega (arith, less, p, x, y))

  pub two-three : nat_eq (bit_at 0 k) 1 ≡ nat_lt 2 (bit_at a k + bit_at b k)
  two-three =
      let x = bit_at-lt a k in
      let y = bit_at-lt b k in
      ap (λ n. nat_eq n 1) (bit_at-zero k) ∙ sym (le-ltb 2 (bit_at a k + bit_at b k) (omega (arith, x, y)))

-- ---- sums of two numbers

zero-plus : (n : ℕ) → n ≡ 0 + n
zero-plus n = omega arith

or-true : (x : Bool) → (x || true) ≡ true
or-true true = refl
or-true false = refl

-- each of two sums of tests is that of the sum
module _ (m n : ℕ) where
  plus-one : (nat_lt 0 m || nat_lt 0 n) ≡ nat_lt 0 (m + n)
  plus-one = elim (cases_lt 0 m) [
    | inl p ↦ rw (lt-ltb 0 m p, lt-ltb 0 (m + n) (omega (arith, p))) refl
    | inr p ↦ let none : m ≡ 0 = omega (arith, p) in rw none (ap (λ x. nat_lt 0 x) (zero-plus n))
  ]

  plus-two : ((nat_lt 1 m || nat_lt 1 n) || (nat_lt 0 m && nat_lt 0 n)) ≡ nat_lt 1 (m + n)
  plus-two = elim (cases_lt 1 m) [
    | inl p ↦ rw (lt-ltb 1 m p, lt-ltb 1 (m + n) (omega (arith, p))) refl
    | inr p ↦ elim (cases_eq m 0) [
      | inl none ↦ rw none (or-false (nat_lt 1 n) ∙ ap (λ x. nat_lt 1 x) (zero-plus n))
      | inr some ↦ let one : m ≡ 1 = omega (arith, p, some) in rw one (one-more n)
    ]
  ] where
    or-false : (b : Bool) → (b || false) ≡ b
    or-false true = refl
    or-false false = refl

    one-more : (n : ℕ) → (nat_lt 1 n || nat_lt 0 n) ≡ nat_lt 1 (1 + n)
    one-more n = elim (cases_lt 0 n) [
      | inl p ↦ rw (lt-ltb 0 n p, lt-ltb 1 (1 + n) (omega (arith, p))) (or-true (nat_lt 1 n))
      | inr p ↦ let none : n ≡ 0 = omega (arith, p) in rw none refl
    ]

  plus-three : (((nat_lt 2 m || nat_lt 2 n) || (nat_lt 1 m && nat_lt 0 n)) || (nat_lt 0 m && nat_lt 1 n)) ≡ nat_lt 2 (m + n)
  plus-three = elim (cases_lt 2 m) [
    | inl p ↦ rw (lt-ltb 2 m p, lt-ltb 2 (m + n) (omega (arith, p))) refl
    | inr p ↦ elim (cases_eq m 0) [
      | inl none ↦ rw none (or-falses (nat_lt 2 n) ∙ ap (λ x. nat_lt 2 x) (zero-plus n))
      | inr some ↦ elim (cases_eq m 1) [
        | inl one ↦ rw one (one-more n)
        | inr more ↦ let two : m ≡ 2 = omega (arith, p, some, more) in rw two (two-more n)
      ]
    ]
  ] where
    or-falses : (b : Bool) → ((b || false) || false) ≡ b
    or-falses true = refl
    or-falses false = refl

    one-more : (n : ℕ) → ((nat_lt 2 n || false) || nat_lt 1 n) ≡ nat_lt 2 (1 + n)
    one-more n = elim (cases_lt 1 n) [
      | inl p ↦ rw (lt-ltb 1 n p, lt-ltb 2 (1 + n) (omega (arith, p))) (or-true (nat_lt 2 n || false))
      | inr p ↦ rw (le-ltb 1 n p, le-ltb 2 n (omega (arith, p)), le-ltb 2 (1 + n) (omega (arith, p))) refl
    ]

    two-more : (n : ℕ) → ((nat_lt 2 n || nat_lt 0 n) || nat_lt 1 n) ≡ nat_lt 2 (2 + n)
    two-more n = elim (cases_lt 0 n) [
      | inl p ↦ rw (lt-ltb 0 n p, lt-ltb 2 (2 + n) (omega (arith, p))) (ap (λ b. b || nat_lt 1 n) (or-true (nat_lt 2 n)))
      | inr p ↦ let none : n ≡ 0 = omega (arith, p) in rw none refl
    ]

-- the words of a sum
module _ (x y : AtLeast) (k m n : ℕ) (p : IsAtLeast x k m) (q : IsAtLeast y k n) where
  abbrev flag_of : ℕ → Bool
  flag_of w = nat_eq (bit_at w k) 1

  pub sum-one : nat_eq (bit_at (bit_or x.one y.one) k) 1 ≡ nat_lt 0 (m + n)
  sum-one = or_flag x.one y.one k ∙ (ap (λ b. b || flag_of y.one) p.one ∙ (ap (λ b. nat_lt 0 m || b) q.one ∙ plus-one m n))

  pub sum-two : nat_eq (bit_at (bit_or (bit_or x.two y.two) (bit_and x.one y.one)) k) 1 ≡ nat_lt 1 (m + n)
  sum-two =
      or_flag (bit_or x.two y.two) (bit_and x.one y.one) k
      ∙ (ap (λ b. b || flag_of (bit_and x.one y.one)) (or_flag x.two y.two k ∙ (ap (λ b. b || flag_of y.two) p.two ∙ ap (λ b. nat_lt 1 m || b) q.two))
      ∙ (ap (λ b. (nat_lt 1 m || nat_lt 1 n) || b) (both 0 0 x.one y.one p.one q.one) ∙ plus-two m n)) where
        both : (i j a b : ℕ) → nat_eq (bit_at a k) 1 ≡ nat_lt i m → nat_eq (bit_at b k) 1 ≡ nat_lt j n → nat_eq (bit_at (bit_and a b) k) 1 ≡ (nat_lt i m && nat_lt j n)
        both i j a b e f = and_flag a b k ∙ (ap (λ c. c && flag_of b) e ∙ ap (λ c. nat_lt i m && c) f)

  pub sum-three : nat_eq (bit_at (bit_or (bit_or (bit_or x.three y.three) (bit_and x.two y.one)) (bit_and x.one y.two)) k) 1 ≡ nat_lt 2 (m + n)
  sum-three =
      or_flag (bit_or (bit_or x.three y.three) (bit_and x.two y.one)) (bit_and x.one y.two) k
      ∙ (ap (λ b. b || flag_of (bit_and x.one y.two)) (or_flag (bit_or x.three y.three) (bit_and x.two y.one) k
      ∙ (ap (λ b. b || flag_of (bit_and x.two y.one)) (or_flag x.three y.three k ∙ (ap (λ b. b || flag_of y.three) p.three ∙ ap (λ b. nat_lt 2 m || b) q.three))
      ∙ ap (λ b. (nat_lt 2 m || nat_lt 2 n) || b) (both 1 0 x.two y.one p.two q.one)))
      ∙ (ap (λ b. ((nat_lt 2 m || nat_lt 2 n) || (nat_lt 1 m && nat_lt 0 n)) || b) (both 0 1 x.one y.two p.one q.two) ∙ plus-three m n)) where
        both : (i j a b : ℕ) → nat_eq (bit_at a k) 1 ≡ nat_lt i m → nat_eq (bit_at b k) 1 ≡ nat_lt j n → nat_eq (bit_at (bit_and a b) k) 1 ≡ (nat_lt i m && nat_lt j n)
        both i j a b e f = and_flag a b k ∙ (ap (λ c. c && flag_of b) e ∙ ap (λ c. nat_lt i m && c) f)

-- ---- ranks

-- what holds of 0, of 1, of 2 and of all higher numbers
by-few : (P : ℕ → Type 0) → P 0 → P 1 → P 2 → ((n : ℕ) → 3 ≤ n → P n) → (n : ℕ) → P n
by-few P none one two more zero = none
by-few P none one two more (suc zero) = one
by-few P none one two more (suc (suc zero)) = two
by-few P none one two more (suc (suc (suc n))) = more (suc (suc (suc n))) (omega arith)

abbrev t1 : ℕ → Bool
t1 n = nat_lt 0 n

abbrev t2 : ℕ → Bool
t2 n = nat_lt 1 n

abbrev t3 : ℕ → Bool
t3 n = nat_lt 2 n

-- all tests of a high number hold
high : (P : Bool → Bool → Bool → Bool → Type 0) → P true true true false → (n : ℕ) → 3 ≤ n → P (t1 n) (t2 n) (t3 n) (nat_le n 2)
high P all n more = rw (lt-ltb 0 n (omega (arith, more)), lt-ltb 1 n (omega (arith, more)), lt-ltb 2 n (omega (arith, more)), lt-leb n 2 (omega (arith, more))) all

rank-zero : (l : Bool) (n : ℕ) → cond l (t2 n && not (t3 n)) false ≡ nat_eq (rank_by_excess l n) 0
rank-zero true = by-few (λ n. (t2 n && not (t3 n)) ≡ nat_eq (rank_by_excess true n) 0) refl refl refl (λ n more. high (λ a b c d. (b && not c) ≡ nat_eq (cond d (2 - n) 4) 0) refl n more)
rank-zero false = by-few (λ n. false ≡ nat_eq (rank_by_excess false n) 0) refl refl refl (λ n more. high (λ a b c d. false ≡ nat_eq (cond d (3 - n) 4) 0) refl n more)

rank-one : (l : Bool) (n : ℕ) → cond l (t1 n && not (t2 n)) (t2 n && not (t3 n)) ≡ nat_eq (rank_by_excess l n) 1
rank-one true = by-few (λ n. (t1 n && not (t2 n)) ≡ nat_eq (rank_by_excess true n) 1) refl refl refl (λ n more. high (λ a b c d. (a && not b) ≡ nat_eq (cond d (2 - n) 4) 1) refl n more)
rank-one false = by-few (λ n. (t2 n && not (t3 n)) ≡ nat_eq (rank_by_excess false n) 1) refl refl refl (λ n more. high (λ a b c d. (b && not c) ≡ nat_eq (cond d (3 - n) 4) 1) refl n more)

rank-two : (l : Bool) (n : ℕ) → cond l (not (t1 n)) (t1 n && not (t2 n)) ≡ nat_eq (rank_by_excess l n) 2
rank-two true = by-few (λ n. not (t1 n) ≡ nat_eq (rank_by_excess true n) 2) refl refl refl (λ n more. high (λ a b c d. not a ≡ nat_eq (cond d (2 - n) 4) 2) refl n more)
rank-two false = by-few (λ n. (t1 n && not (t2 n)) ≡ nat_eq (rank_by_excess false n) 2) refl refl refl (λ n more. high (λ a b c d. (a && not b) ≡ nat_eq (cond d (3 - n) 4) 2) refl n more)

rank-three : (l : Bool) (n : ℕ) → cond l false (not (t1 n)) ≡ nat_eq (rank_by_excess l n) 3
rank-three true = by-few (λ n. false ≡ nat_eq (rank_by_excess true n) 3) refl refl refl (λ n more. high (λ a b c d. false ≡ nat_eq (cond d (2 - n) 4) 3) refl n more)
rank-three false = by-few (λ n. not (t1 n) ≡ nat_eq (rank_by_excess false n) 3) refl refl refl (λ n more. high (λ a b c d. not a ≡ nat_eq (cond d (3 - n) 4) 3) refl n more)

rank-four : (l : Bool) (n : ℕ) → t3 n ≡ nat_eq (rank_by_excess l n) 4
rank-four true = by-few (λ n. t3 n ≡ nat_eq (rank_by_excess true n) 4) refl refl refl (λ n more. high (λ a b c d. c ≡ nat_eq (cond d (2 - n) 4) 4) refl n more)
rank-four false = by-few (λ n. t3 n ≡ nat_eq (rank_by_excess false n) 4) refl refl refl (λ n more. high (λ a b c d. c ≡ nat_eq (cond d (3 - n) 4) 4) refl n more)

rank-most : (l : Bool) (n r : ℕ) → 5 ≤ r → false ≡ nat_eq (rank_by_excess l n) r
rank-most true n r most = by-few (λ n. false ≡ nat_eq (rank_by_excess true n) r) (off 2 (omega (arith, most))) (off 1 (omega (arith, most))) (off 0 (omega (arith, most)))
    (λ n more. high (λ a b c d. false ≡ nat_eq (cond d (2 - n) 4) r) (off 4 (omega (arith, most))) n more) n where
      off : (x : ℕ) → x ≢ r → false ≡ nat_eq x r
      off x differ = sym (ne_eqb x r differ)
rank-most false n r most = by-few (λ n. false ≡ nat_eq (rank_by_excess false n) r) (off 3 (omega (arith, most))) (off 2 (omega (arith, most))) (off 1 (omega (arith, most)))
    (λ n more. high (λ a b c d. false ≡ nat_eq (cond d (3 - n) 4) r) (off 4 (omega (arith, most))) n more) n where
      off : (x : ℕ) → x ≢ r → false ≡ nat_eq x r
      off x differ = sym (ne_eqb x r differ)

-- the words of the ranks
module _ (work local : ℕ) (x : AtLeast) (k n : ℕ) (fits : local < 2 ^ 64) (fits_one : x.one < 2 ^ 64) (fits_two : x.two < 2 ^ 64) (fits_three : x.three < 2 ^ 64) (small : k < 64) (p : IsAtLeast x k n) where
  abbrev flag_at : ℕ → Bool
  flag_at w = nat_eq (bit_at w k) 1

  abbrev with_local : ℕ
  with_local = bit_and work local

  abbrev others : ℕ
  others = bit_and work (2 ^ 64 - 1 - local)

  -- what the stripes with a loss in a local group have, and the others
  both-kinds : (a b : ℕ) (s t : Bool) → flag_at a ≡ s → flag_at b ≡ t
      → flag_at (bit_or (bit_and with_local a) (bit_and others b)) ≡ (flag_at work && cond (flag_at local) s t)
  both-kinds a b s t e f =
      or_flag (bit_and with_local a) (bit_and others b) k
      ∙ (ap (λ u. u || flag_at (bit_and others b)) (and_flag with_local a k ∙ (ap (λ u. u && flag_at a) (and_flag work local k) ∙ ap (λ u. (flag_at work && flag_at local) && u) e))
      ∙ (ap (λ u. ((flag_at work && flag_at local) && s) || u) (and_flag others b k ∙ (ap (λ u. u && flag_at b) (and_not_flag work local k fits small) ∙ ap (λ u. (flag_at work && not (flag_at local)) && u) f))
      ∙ by (flag_at work) (flag_at local) s t)) where
        by : (w l s t : Bool) → (((w && l) && s) || ((w && not l) && t)) ≡ (w && cond l s t)
        by false l s t = refl
        by true true true t = refl
        by true true false t = refl
        by true false s t = refl

  first-kind : (a : ℕ) (s : Bool) → flag_at a ≡ s → flag_at (bit_and with_local a) ≡ (flag_at work && cond (flag_at local) s false)
  first-kind a s e = and_flag with_local a k ∙ (ap (λ u. u && flag_at a) (and_flag work local k) ∙ (ap (λ u. (flag_at work && flag_at local) && u) e ∙ by (flag_at work) (flag_at local) s)) where
    by : (w l s : Bool) → ((w && l) && s) ≡ (w && cond l s false)
    by false l s = refl
    by true true s = refl
    by true false s = refl

  other-kind : (a : ℕ) (s : Bool) → flag_at a ≡ s → flag_at (bit_and others a) ≡ (flag_at work && cond (flag_at local) false s)
  other-kind a s e = and_flag others a k ∙ (ap (λ u. u && flag_at a) (and_not_flag work local k fits small) ∙ (ap (λ u. (flag_at work && not (flag_at local)) && u) e ∙ by (flag_at work) (flag_at local) s)) where
    by : (w l s : Bool) → ((w && not l) && s) ≡ (w && cond l false s)
    by false l s = refl
    by true true s = refl
    by true false s = refl

  none : flag_at (2 ^ 64 - 1 - x.one) ≡ not (t1 n)
  none = not_flag x.one k fits_one small ∙ ap not p.one

  one : flag_at (bit_and x.one (2 ^ 64 - 1 - x.two)) ≡ (t1 n && not (t2 n))
  one = and_not_flag x.one x.two k fits_two small ∙ (ap (λ u. u && not (flag_at x.two)) p.one ∙ ap (λ u. t1 n && not u) p.two)

  two : flag_at (bit_and x.two (2 ^ 64 - 1 - x.three)) ≡ (t2 n && not (t3 n))
  two = and_not_flag x.two x.three k fits_three small ∙ (ap (λ u. u && not (flag_at x.three)) p.two ∙ ap (λ u. t2 n && not u) p.three)

  abbrev two_word : ℕ
  two_word = bit_and x.two (2 ^ 64 - 1 - x.three)

  abbrev one_word : ℕ
  one_word = bit_and x.one (2 ^ 64 - 1 - x.two)

  abbrev words : List ℕ
  words = bit_and with_local two_word ∷ bit_or (bit_and with_local one_word) (bit_and others two_word)
      ∷ bit_or (bit_and with_local (2 ^ 64 - 1 - x.one)) (bit_and others one_word) ∷ bit_and others (2 ^ 64 - 1 - x.one) ∷ bit_and work x.three ∷ []

  pub rank-word : (rank : ℕ) → flag_at (get_or words rank 0) ≡ (flag_at work && nat_eq (rank_by_excess (flag_at local) n) rank)
  rank-word zero = first-kind two_word _ two ∙ ap (λ b. flag_at work && b) (rank-zero (flag_at local) n)
  rank-word (suc zero) = both-kinds one_word two_word _ _ one two ∙ ap (λ b. flag_at work && b) (rank-one (flag_at local) n)
  rank-word (suc (suc zero)) = both-kinds (2 ^ 64 - 1 - x.one) one_word _ _ none one ∙ ap (λ b. flag_at work && b) (rank-two (flag_at local) n)
  rank-word (suc (suc (suc zero))) = other-kind (2 ^ 64 - 1 - x.one) _ none ∙ ap (λ b. flag_at work && b) (rank-three (flag_at local) n)
  rank-word (suc (suc (suc (suc zero)))) =
      and_flag work x.three k ∙ (ap (λ u. flag_at work && u) p.three ∙ ap (λ b. flag_at work && b) (rank-four (flag_at local) n))
  rank-word (suc (suc (suc (suc (suc r))))) =
      ap (λ v. nat_eq v 1) (bit_at-zero k) ∙ (sym (and-false (flag_at work)) ∙ ap (λ b. flag_at work && b) (rank-most (flag_at local) n (suc (suc (suc (suc (suc r))))) (omega arith))) where
        and-false : (b : Bool) → (b && false) ≡ false
        and-false true = refl
        and-false false = refl
