-- Products of bytes, and lists that are filled position by position.
use Rattle.std.proofs.Common.{◌≡◌, ℕ, zero, suc, ◌+◌, ◌*◌, ◌/◌, ◌%◌, ◌<◌, ◌≤◌, true, inl, inr, eqb, bit_xor, List, length, get_or, set, replicate, refl, sym, ap, ◌∙◌, arith}
use Rattle.std.proofs.lemmas.Bool.{agree_below, agree_below_at, eqb-true, cases_eq}
use Rattle.std.proofs.lemmas.List.{get_or-set_same, get_or-set_other}
use Rattle.lrc_field.specs.Field.{times}
use Rattle.lrc_field.proofs.FieldLemmas.{times-xor}

-- a byte is the sum of its half-bytes
halves : agree_below (λ b. eqb (bit_xor (b % 16) (16 * (b / 16))) b) (λ _. true) 256 ≡ true
halves = refl

-- the product of a byte is that of its half-bytes
pub times_halves : (c b : ℕ) → b < 256 → bit_xor (times c (b % 16)) (times c (16 * (b / 16))) ≡ times c b
times_halves c b below =
    sym (times-xor c (b % 16) (16 * (b / 16))) ∙ ap (times c) (eqb-true _ _ (agree_below_at (λ b. eqb (bit_xor (b % 16) (16 * (b / 16))) b) (λ _. true) 256 b halves below))

-- one more item of a list that is filled from the front
pub filled : (f : ℕ → ℕ) (xs : List ℕ) (i y : ℕ) → i < length xs → y ≡ f i → ((k : ℕ) → k < i → get_or xs k 0 ≡ f k) → (k : ℕ) → k < i + 1 → get_or (set xs i y) k 0 ≡ f k
filled f xs i y inside is so_far k below =
    elim (cases_eq k i) [
      | inl same ↦ ap (λ (n : ℕ). get_or (set xs i y) n 0) same ∙ get_or-set_same xs i y 0 inside ∙ is ∙ ap f (sym same)
      | inr other ↦ get_or-set_other xs i k y 0 other ∙ so_far k (omega (arith, below, other))
    ]

-- the items behind it stay
pub unfilled : (xs ys : List ℕ) (i y : ℕ) → ((k : ℕ) → i ≤ k → get_or xs k 0 ≡ get_or ys k 0) → (k : ℕ) → i + 1 ≤ k → get_or (set xs i y) k 0 ≡ get_or ys k 0
unfilled xs ys i y rest k past = get_or-set_other xs i k y 0 (λ same. omega (arith, same, past)) ∙ rest k (omega (arith, past))

-- zeros are 0 at each position, and past the end
pub zeros_at : (n i : ℕ) → ◌≡◌ {A = ℕ} (get_or (replicate n 0) i 0) 0
zeros_at zero i = refl
zeros_at (suc n) zero = refl
zeros_at (suc n) (suc i) = zeros_at n i
