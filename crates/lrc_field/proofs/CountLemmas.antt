-- The number of coefficients that are not 0, as a list and by fragment.
use Rattle.std.proofs.Common.{◌≡◌, ℕ, ◌+◌, ◌<◌, ◌≤◌, Bool, cond, not, eqb, List, length, get_or, take, take_all, count_by, refl, sym, ap, ◌∙◌, inl, inr, arith}
use Rattle.std.proofs.lemmas.Bool.{cases_Bool}
use Rattle.std.proofs.lemmas.List.Sums.{count_by_more_yes, count_by_more_no}
use Rattle.lrc_code.specs.declared.codes.Code.{Code}
use Rattle.lrc_code.specs.declared.codes.Code.TheVariants.{Wide, Narrow}
use Rattle.lrc_code.specs.Codes.{fragment_count}
use Rattle.lrc_code.specs.Losses.{size_of}
use Rattle.lrc_field.specs.Recipes.{read_by}

-- one more element
one_more : (t : ℕ → Bool) (xs : List ℕ) (i : ℕ) → i < length xs → count_by t (take (i + 1) xs) ≡ count_by t (take i xs) + cond (t (get_or xs i 0)) 1 0
one_more t xs i low = elim (cases_Bool (t (get_or xs i 0))) [
  | inl hit ↦ let e : cond {A = ℕ} (t (get_or xs i 0)) 1 0 ≡ 1 = rw hit refl in count_by_more_yes t xs i 0 low hit ∙ ap (λ n. count_by t (take i xs) + n) (sym e)
  | inr miss ↦ let e : cond {A = ℕ} (t (get_or xs i 0)) 1 0 ≡ 0 = rw miss refl in let none = count_by_more_no t xs i 0 low miss in omega (arith, none, e)
]

abbrev is_some_at : List ℕ → ℕ → ℕ
is_some_at xs g = cond {A = ℕ} (not (eqb (get_or xs g 0) 0)) 1 0

none_at : (xs : List ℕ) (g : ℕ) → get_or xs g 0 ≡ 0 → is_some_at xs g ≡ 0
none_at xs g none = rw none refl

ten : (t : ℕ → Bool) (xs : List ℕ) → 10 ≤ length xs → count_by t (take 10 xs) ≡ cond (t (get_or xs 0 0)) 1 0 + cond (t (get_or xs 1 0)) 1 0 + cond (t (get_or xs 2 0)) 1 0 + cond (t (get_or xs 3 0)) 1 0 + cond (t (get_or xs 4 0)) 1 0 + cond (t (get_or xs 5 0)) 1 0 + cond (t (get_or xs 6 0)) 1 0 + cond (t (get_or xs 7 0)) 1 0 + cond (t (get_or xs 8 0)) 1 0 + cond (t (get_or xs 9 0)) 1 0
ten t xs long =
    omega (arith, one_more t xs 0 (omega (arith, long)), one_more t xs 1 (omega (arith, long)), one_more t xs 2 (omega (arith, long)), one_more t xs 3 (omega (arith, long)), one_more t xs 4 (omega (arith, long)), one_more t xs 5 (omega (arith, long)), one_more t xs 6 (omega (arith, long)), one_more t xs 7 (omega (arith, long)), one_more t xs 8 (omega (arith, long)), one_more t xs 9 (omega (arith, long)))

six : (t : ℕ → Bool) (xs : List ℕ) → length xs ≡ 16 → count_by t xs ≡ count_by t (take 10 xs) + (cond (t (get_or xs 10 0)) 1 0 + cond (t (get_or xs 11 0)) 1 0 + cond (t (get_or xs 12 0)) 1 0 + cond (t (get_or xs 13 0)) 1 0 + cond (t (get_or xs 14 0)) 1 0 + cond (t (get_or xs 15 0)) 1 0)
six t xs long =
    let all : take 16 xs ≡ xs = take_all 16 xs (omega (arith, long)) in
    let whole : count_by t (take 16 xs) ≡ count_by t xs = ap (count_by t) all in
    omega (arith, whole, one_more t xs 10 (omega (arith, long)), one_more t xs 11 (omega (arith, long)), one_more t xs 12 (omega (arith, long)), one_more t xs 13 (omega (arith, long)), one_more t xs 14 (omega (arith, long)), one_more t xs 15 (omega (arith, long)))

pub listed_count : (code : Code) (xs : List ℕ) → length xs ≡ 16 → ((g : ℕ) → fragment_count code ≤ g → get_or xs g 0 ≡ 0) → count_by (λ c. not (eqb c 0)) xs ≡ size_of code (read_by (λ g. get_or xs g 0))
listed_count Wide xs long past =
    let first = ten (λ c. not (eqb c 0)) xs (omega (arith, long)) in
    let last = six (λ c. not (eqb c 0)) xs long in
    omega (arith, first, last)
listed_count Narrow xs long past =
    let first = ten (λ c. not (eqb c 0)) xs (omega (arith, long)) in
    let last = six (λ c. not (eqb c 0)) xs long in
    let none : (g : ℕ) → 10 ≤ g → is_some_at xs g ≡ 0 = λ g high. none_at xs g (past g high) in
    omega (arith, first, last, none 10 (omega arith), none 11 (omega arith), none 12 (omega arith), none 13 (omega arith), none 14 (omega arith), none 15 (omega arith))
