-- The laws of the field.
use Rattle.std.proofs.Common.{◌≡◌, ℕ, zero, suc, ◌+◌, ◌*◌, ◌/◌, ◌%◌, ◌^◌, ◌<◌, ◌⊎◌, ◌≢◌, ◌&&◌, ◌||◌, Bool, true, false, eqb, ltb, bit_xor, refl, sym, ap, ◌∙◌, inl, inr, arith, lit<}
use Rattle.std.proofs.lemmas.Bool.{agree_below, agree_below_at, eqb-true, ne_eqb, ltb-true, cases_eq, and_parts, or_cases}
use lib.Bits.{xor_assoc, xor_comm, xor_self, xor_zero_r, xor_lt, xor_shr, xor_mod, xor_block}
use Rattle.lrc_field.specs.Field.{times_x, times_by, times, inverse}
use Rattle.lrc_field.specs.Polynomials.{product, remainder}

-- ---- XOR

-- the middle two of four change places
pub xor_swap : (a b c d : ℕ) → bit_xor (bit_xor a b) (bit_xor c d) ≡ bit_xor (bit_xor a c) (bit_xor b d)
xor_swap a b c d =
    xor_assoc a b (bit_xor c d) ∙ ap (bit_xor a) (sym (xor_assoc b c d) ∙ ap (λ x. bit_xor x d) (xor_comm b c) ∙ xor_assoc c b d) ∙ sym (xor_assoc a c (bit_xor b d))

-- what is added twice is gone
pub xor_twice : (a b : ℕ) → bit_xor a (bit_xor a b) ≡ b
xor_twice a b = sym (xor_assoc a a b) ∙ ap (λ x. bit_xor x b) (xor_self a)

-- ---- the product by a digit

digit_cases : (n : ℕ) → n < 2 → (n ≡ 0) ⊎ (n ≡ 1)
digit_cases n small = elim (cases_eq n 0) [ inl e ↦ inl e | inr other ↦ inr (omega (arith, small, other)) ]

digit_xor : (n a b : ℕ) → n < 2 → n * bit_xor a b ≡ bit_xor (n * a) (n * b)
digit_xor n a b small = elim (digit_cases n small) [
  | inl e ↦ rw e (let l : 0 * bit_xor a b ≡ 0 = omega arith in let p : 0 * a ≡ 0 = omega arith in let q : 0 * b ≡ 0 = omega arith in rw (l, p, q) refl)
  | inr e ↦ rw e (let l : 1 * bit_xor a b ≡ bit_xor a b = omega arith in let p : 1 * a ≡ a = omega arith in let q : 1 * b ≡ b = omega arith in rw (l, p, q) refl)
]

digits_xor : (m n : ℕ) → m < 2 → n < 2 → 29 * bit_xor m n ≡ bit_xor (29 * m) (29 * n)
digits_xor m n small_m small_n = elim (digit_cases m small_m) [
  | inl e ↦ elim (digit_cases n small_n) [ inl f ↦ rw (e, f) refl | inr f ↦ rw (e, f) refl ]
  | inr e ↦ elim (digit_cases n small_n) [ inl f ↦ rw (e, f) refl | inr f ↦ rw (e, f) refl ]
]

mod_two : (n : ℕ) → n % 2 < 2
mod_two n = omega arith

-- ---- the product by x

pub times_x-xor : (a b : ℕ) → times_x (bit_xor a b) ≡ bit_xor (times_x a) (times_x b)
unfolding times_x
times_x-xor a b =
    let low : bit_xor a b * 2 % 256 ≡ bit_xor (a * 2 % 256) (b * 2 % 256) =
    ap (λ (x : ℕ). x % 256) (sym (let e = xor_block 1 a b 0 0 (lit< tt) (lit< tt) in let p : a * 2 ^ 1 + 0 ≡ a * 2 = omega arith in let q : b * 2 ^ 1 + 0 ≡ b * 2 = omega arith in
    let r : bit_xor a b * 2 ^ 1 + bit_xor 0 0 ≡ bit_xor a b * 2 = omega arith in sym (ap (λ x. bit_xor x (b * 2)) p) ∙ ap (bit_xor (a * 2 ^ 1 + 0)) (sym q) ∙ e ∙ r)) ∙ xor_mod (a * 2) (b * 2) 8 in
    let high : bit_xor a b / 128 % 2 ≡ bit_xor (a / 128 % 2) (b / 128 % 2) = ap (λ (x : ℕ). x % 2) (xor_shr a b 7) ∙ xor_mod (a / 128) (b / 128) 1 in
    rw (low, high, digits_xor (a / 128 % 2) (b / 128 % 2) (mod_two (a / 128)) (mod_two (b / 128)))
    (xor_swap (a * 2 % 256) (b * 2 % 256) (29 * (a / 128 % 2)) (29 * (b / 128 % 2)))

-- ---- the product

times_by-xor : (n c a b : ℕ) → times_by n c (bit_xor a b) ≡ bit_xor (times_by n c a) (times_by n c b)
unfolding times_by
times_by-xor zero c a b = refl
times_by-xor (suc n) c a b =
    rw (digit_xor (c % 2) a b (mod_two c), times_x-xor a b, times_by-xor n (c / 2) (times_x a) (times_x b))
    (xor_swap (c % 2 * a) (c % 2 * b) (times_by n (c / 2) (times_x a)) (times_by n (c / 2) (times_x b)))

-- a product distributes over a sum on the right
pub times-xor : (c a b : ℕ) → times c (bit_xor a b) ≡ bit_xor (times c a) (times c b)
unfolding times
times-xor c a b = times_by-xor 8 c a b

zero_times_x : 0 ≡ times_x 0
unfolding times_x
zero_times_x = refl

digit_times_x : (n a : ℕ) → n < 2 → n * times_x a ≡ times_x (n * a)
digit_times_x n a small = elim (digit_cases n small) [
  | inl e ↦ rw e (let l : 0 * times_x a ≡ 0 = omega arith in let p : 0 * a ≡ 0 = omega arith in rw (l, p) zero_times_x)
  | inr e ↦ rw e (let l : 1 * times_x a ≡ times_x a = omega arith in let p : 1 * a ≡ a = omega arith in rw (l, p) refl)
]

times_by-times_x : (n c a : ℕ) → times_by n c (times_x a) ≡ times_x (times_by n c a)
unfolding times_by
times_by-times_x zero c a = zero_times_x
times_by-times_x (suc n) c a =
    rw (times_by-times_x n (c / 2) (times_x a), times_x-xor (c % 2 * a) (times_by n (c / 2) (times_x a)), digit_times_x (c % 2) a (mod_two c)) refl

times-times_x : (c a : ℕ) → times c (times_x a) ≡ times_x (times c a)
unfolding times
times-times_x c a = times_by-times_x 8 c a

zero_by : (n c : ℕ) → times_by n c 0 ≡ 0
unfolding times_by
zero_by zero c = refl
zero_by (suc n) c = let e : c % 2 * 0 ≡ 0 = omega arith in rw (e, sym zero_times_x, zero_by n (c / 2)) refl

-- a product with zero is zero
pub times_zero : (c : ℕ) → times c 0 ≡ 0
unfolding times
times_zero c = zero_by 8 c

digit_times : (n c a : ℕ) → n < 2 → n * times c a ≡ times c (n * a)
digit_times n c a small = elim (digit_cases n small) [
  | inl e ↦ rw e (let l : 0 * times c a ≡ 0 = omega arith in let p : 0 * a ≡ 0 = omega arith in rw (l, p, times_zero c) refl)
  | inr e ↦ rw e (let l : 1 * times c a ≡ times c a = omega arith in let p : 1 * a ≡ a = omega arith in rw (l, p) refl)
]

times_by-times : (n d c a : ℕ) → times_by n d (times c a) ≡ times c (times_by n d a)
unfolding times_by
times_by-times zero d c a = sym (times_zero c)
times_by-times (suc n) d c a =
    rw (sym (times-times_x c a), times_by-times n (d / 2) c (times_x a), times-xor c (d % 2 * a) (times_by n (d / 2) (times_x a)), digit_times (d % 2) c a (mod_two d)) refl

by_eight : (c a : ℕ) → times c a ≡ times_by 8 c a
unfolding times
by_eight c a = refl

-- the order of two products is free
pub times_turn : (d c a : ℕ) → times d (times c a) ≡ times c (times d a)
times_turn d c a = by_eight d (times c a) ∙ times_by-times 8 d c a ∙ ap (times c) (sym (by_eight d a))

-- a product of bytes is a byte, and its order is free: all pairs, by computation
same_products : agree_below (λ c. agree_below (λ a. eqb (times c a) (times a c)) (λ _. true) 256) (λ _. true) 256 ≡ true
unfolding times times_by times_x
same_products = refl

bytes_out : agree_below (λ c. agree_below (λ a. ltb (times c a) 256) (λ _. true) 256) (λ _. true) 256 ≡ true
unfolding times times_by times_x
bytes_out = refl

both_below : (t : ℕ → ℕ → Bool) → agree_below (λ c. agree_below (t c) (λ _. true) 256) (λ _. true) 256 ≡ true → (c a : ℕ) → c < 256 → a < 256 → t c a ≡ true
both_below t all c a lc la = agree_below_at (t c) (λ _. true) 256 a (agree_below_at (λ c. agree_below (t c) (λ _. true) 256) (λ _. true) 256 c all lc) la

pub times_comm : (c a : ℕ) → c < 256 → a < 256 → times c a ≡ times a c
times_comm c a lc la = eqb-true _ _ (both_below (λ c a. eqb (times c a) (times a c)) same_products c a lc la)

pub times_below : (c a : ℕ) → c < 256 → a < 256 → times c a < 256
times_below c a lc la = ltb-true _ _ (both_below (λ c a. ltb (times c a) 256) bytes_out c a lc la)

pub times_assoc : (c d a : ℕ) → c < 256 → d < 256 → a < 256 → times (times c d) a ≡ times c (times d a)
times_assoc c d a lc ld la =
    times_comm (times c d) a (times_below c d lc ld) la ∙ times_turn a c d ∙ ap (times c) (times_comm a d la ld)

-- a product distributes over a sum on the left
pub xor-times : (c d a : ℕ) → c < 256 → d < 256 → a < 256 → times (bit_xor c d) a ≡ bit_xor (times c a) (times d a)
xor-times c d a lc ld la =
    times_comm (bit_xor c d) a (xor_lt 8 c d lc ld) la ∙ times-xor a c d ∙ ap (λ x. bit_xor x (times a d)) (times_comm a c la lc) ∙ ap (bit_xor (times c a)) (times_comm a d la ld)

ones : agree_below (λ a. eqb (times 1 a) a) (λ _. true) 256 ≡ true
unfolding times times_by times_x
ones = refl

pub one_times : (a : ℕ) → a < 256 → times 1 a ≡ a
one_times a l = eqb-true _ _ (agree_below_at (λ a. eqb (times 1 a) a) (λ _. true) 256 a ones l)

pub zero_times : (a : ℕ) → a < 256 → times 0 a ≡ 0
zero_times a l = times_comm 0 a (lit< tt) l ∙ times_zero a

-- ---- the program's loop

pub times_whole : (c a : ℕ) → bit_xor 0 (times_by 8 c a) ≡ times c a
unfolding times
times_whole c a = refl

pub times_digit : (n sum c a : ℕ) → bit_xor (bit_xor sum (c % 2 * a)) (times_by n (c / 2) (times_x a)) ≡ bit_xor sum (times_by (suc n) c a)
unfolding times_by
times_digit n sum c a = xor_assoc sum (c % 2 * a) (times_by n (c / 2) (times_x a))

pub times_done : (sum c a : ℕ) → bit_xor sum (times_by 0 c a) ≡ sum
unfolding times_by
times_done sum c a = xor_zero_r sum

-- ---- products of polynomials

-- a product of bytes is what the modulus leaves of the product of polynomials: all pairs, by computation
all_remainders : agree_below (λ c. agree_below (λ a. eqb (times c a) (remainder 7 (product 8 c a))) (λ _. true) 256) (λ _. true) 256 ≡ true
unfolding times times_by times_x product remainder
all_remainders = refl

pub times_remainder : (c a : ℕ) → c < 256 → a < 256 → times c a ≡ remainder 7 (product 8 c a)
times_remainder c a lc la = eqb-true _ _ (both_below (λ c a. eqb (times c a) (remainder 7 (product 8 c a))) all_remainders c a lc la)

-- ---- the inverse

inverses : agree_below (λ a. ltb (inverse a) 256 && (eqb a 0 || eqb (times (inverse a) a) 1)) (λ _. true) 256 ≡ true
unfolding inverse times times_by times_x
inverses = refl

inverse_parts : (a : ℕ) → a < 256 → (ltb (inverse a) 256 ≡ true) × ((eqb a 0 || eqb (times (inverse a) a) 1) ≡ true)
inverse_parts a l = and_parts _ _ (agree_below_at (λ a. ltb (inverse a) 256 && (eqb a 0 || eqb (times (inverse a) a) 1)) (λ _. true) 256 a inverses l)

pub inverse_below : (a : ℕ) → a < 256 → inverse a < 256
inverse_below a l = ltb-true _ _ (inverse_parts a l).0

pub inverse_times : (a : ℕ) → a < 256 → eqb a 0 ≡ false → times (inverse a) a ≡ 1
inverse_times a l other = elim (or_cases (eqb a 0) (eqb (times (inverse a) a) 1) (inverse_parts a l).1) [
  | inl none ↦ absurd (let e : true ≡ false = sym none ∙ other in cc)
  | inr one ↦ eqb-true _ _ one
]

pub times_inverse : (a : ℕ) → a < 256 → a ≢ 0 → times a (inverse a) ≡ 1
times_inverse a l other = times_comm a (inverse a) l (inverse_below a l) ∙ inverse_times a l (ne_eqb a 0 other)

pub inverse_zero : inverse 0 ≡ 0
unfolding inverse times times_by times_x
inverse_zero = refl
