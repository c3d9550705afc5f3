-- The numbers of fragments, as they are written.
use Rattle.std.proofs.Common.{◌≡◌, ℕ, ◌+◌, ◌/◌, ◌%◌, ◌<◌, ◌≤◌, ◌⊎◌, inl, inr, List, [], ◌∷◌, ◌++◌, length, decimal, sym, ap, ◌∙◌, arith}
use Rattle.std.proofs.lemmas.Bool.{cases_lt}
use Rattle.lrc_code.specs.declared.codes.Code.{Code}
use Rattle.lrc_code.specs.declared.codes.Code.TheVariants.{Wide, Narrow}
use Rattle.lrc_code.specs.Codes.{fragment_count, all_fragments}
use Rattle.std.proofs.lemmas.Fmt.{decimal_digit, decimal_step}

-- a number below 16 has one digit or two
record IsShort (n : ℕ) : Type 0 where
  pub ten : ℕ
  pub one : ℕ
  pub is : (decimal n ≡ (48 + one) ∷ []) ⊎ (decimal n ≡ (48 + ten) ∷ (48 + one) ∷ [])

short : (n : ℕ) → n < 16 → IsShort n
short n small =
    elim (cases_lt n 10) [
      | inl few ↦ record { ten = 0; one = n; is = inl (decimal_digit n few) }
      | inr many ↦ record {
        ten = n / 10;
        one = n % 10;
        is = inr (decimal_step n many (omega arith) ∙ ap (λ t. t ++ (48 + n % 10) ∷ []) (decimal_digit (n / 10) (omega arith)));
      }
    ]

pub digits_few : (n : ℕ) → n < 16 → (1 ≤ length (decimal n)) × (length (decimal n) ≤ 2)
digits_few n small =
    let s = short n small in
    elim s.is [
      | inl is ↦ (omega (arith, ap length is), omega (arith, ap length is))
      | inr is ↦ (omega (arith, ap length is), omega (arith, ap length is))
    ]

-- ---- a number and its end

same_end : (a b ta tb : ℕ) (da db rest : List ℕ) → (da ≡ (48 + a) ∷ []) ⊎ (da ≡ (48 + ta) ∷ (48 + a) ∷ []) → (db ≡ (48 + b) ∷ []) ⊎ (db ≡ (48 + tb) ∷ (48 + b) ∷ [])
    → da ++ 10 ∷ rest ≡ db ++ 10 ∷ [] → length rest ≡ 0
same_end a b ta tb da db rest (inl x) (inl y) same =
    let whole : (48 + a) ∷ 10 ∷ rest ≡ (48 + b) ∷ 10 ∷ [] = ap (λ t. t ++ 10 ∷ rest) (sym x) ∙ same ∙ ap (λ t. t ++ 10 ∷ []) y in
    omega (arith, ap length whole)
same_end a b ta tb da db rest (inl x) (inr y) same =
    let whole : (48 + a) ∷ 10 ∷ rest ≡ (48 + tb) ∷ (48 + b) ∷ 10 ∷ [] = ap (λ t. t ++ 10 ∷ rest) (sym x) ∙ same ∙ ap (λ t. t ++ 10 ∷ []) y in
    let second : 10 ≡ 48 + b = cc in
    absurd (omega (arith, second))
same_end a b ta tb da db rest (inr x) (inl y) same =
    let whole : (48 + ta) ∷ (48 + a) ∷ 10 ∷ rest ≡ (48 + b) ∷ 10 ∷ [] = ap (λ t. t ++ 10 ∷ rest) (sym x) ∙ same ∙ ap (λ t. t ++ 10 ∷ []) y in
    let second : 48 + a ≡ 10 = cc in
    absurd (omega (arith, second))
same_end a b ta tb da db rest (inr x) (inr y) same =
    let whole : (48 + ta) ∷ (48 + a) ∷ 10 ∷ rest ≡ (48 + tb) ∷ (48 + b) ∷ 10 ∷ [] = ap (λ t. t ++ 10 ∷ rest) (sym x) ∙ same ∙ ap (λ t. t ++ 10 ∷ []) y in
    omega (arith, ap length whole)

-- where a line has a number at its front and another one alone, nothing is behind the first
pub nothing_behind : (n f : ℕ) (rest : List ℕ) → n < 16 → f < 16 → decimal n ++ 10 ∷ rest ≡ decimal f ++ 10 ∷ [] → length rest ≡ 0
nothing_behind n f rest small_n small_f same =
    let a = short n small_n in
    let b = short f small_f in
    same_end a.one b.one a.ten b.ten (decimal n) (decimal f) rest a.is b.is same

pub few_fragments : (code : Code) → fragment_count code ≤ 16
few_fragments Wide = omega arith
few_fragments Narrow = omega arith
