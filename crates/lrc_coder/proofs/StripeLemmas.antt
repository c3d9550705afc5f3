-- Buffers whose bytes are a stripe's at each position.
use Rattle.std.proofs.Common.{◌≡◌, ◌≢◌, ℕ, zero, suc, ◌+◌, ◌-◌, ◌<◌, true, false, inl, inr, not, eqb, ltb, List, [], ◌∷◌, ◌++◌, length, get_or, set, map, refl, sym, ap, ◌∙◌, arith, subst, Option, Some, None}
use Rattle.std.specs.Prelude.{IsSome, IfSome, unwrap_or, IsTrue}
use Rattle.std.specs.List.{list_all, range_with_len}
use Rattle.std.specs.Borrow.{MutBor}
use Rattle.std.proofs.lemmas.Bool.{ltb-true, eqb-true, and_parts, cases_eq, cases_Bool, ltb-false}
use Rattle.std.proofs.Math.ListN.{length-append}
use Rattle.std.proofs.lemmas.List.{get_or-map, get_or-set_same, get_or-set_other, get_or_append_left, get_or-append_right, get_or_past, length-map, get_or-append-add}
use Rattle.lrc_code.specs.declared.codes.Code.{Code}
use Rattle.lrc_code.specs.declared.codes.Code.TheVariants.{Wide, Narrow}
use Rattle.lrc_code.specs.Codes.{fragment_count, data_count}
use Rattle.lrc_field.specs.Field.{times}
use Rattle.lrc_field.specs.Stripes.{Bytes, IsRow, IsStripe, data_of, numbers_of, in_parity, generator, sum_of}
use Rattle.lrc_field.specs.Recipes.{read_by}
use Rattle.lrc_field.proofs.SumLemmas.{sum_of-agree}
use Rattle.lrc_coder.specs.Buffers.{written_buffers, buffer_at, bytes_at, each_of}
use Rattle.lrc_coder.specs.Coding.{AreEven}
use Rattle.lrc_coder.proofs.SumLemmas.{times_none}

-- what an option holds, where it holds something
pub from_some : {X : Type 0} (o : Option X) (P : X → Type 0) (d : X) → IsSome o → IfSome o P → P (unwrap_or o d)
from_some (Some x) P d some holds = holds
from_some None P d some holds = absurd (let e : true ≡ false = sym some in cc)

-- the row of a parity has its coefficients
parity_row : (code : Code) (j d : ℕ) → j < 4 → generator code (data_count code + j) d ≡ in_parity code j d
parity_row Wide zero d low = refl
parity_row Wide (suc zero) d low = refl
parity_row Wide (suc (suc zero)) d low = refl
parity_row Wide (suc (suc (suc zero))) d low = refl
parity_row Wide (suc (suc (suc (suc j)))) d low = absurd (omega (arith, low))
parity_row Narrow zero d low = refl
parity_row Narrow (suc zero) d low = refl
parity_row Narrow (suc (suc zero)) d low = refl
parity_row Narrow (suc (suc (suc zero))) d low = refl
parity_row Narrow (suc (suc (suc (suc j)))) d low = absurd (omega (arith, low))

pub parities_inside : (code : Code) (n j : ℕ) → n ≡ data_count code → j < 4 → n + j < fragment_count code
parities_inside Wide n j is low = omega (arith, is, low)
parities_inside Narrow n j is low = omega (arith, is, low)

-- four fewer than all are the data
pub counted_data : (code : Code) (n : ℕ) → n + 4 ≡ fragment_count code → n ≡ data_count code
counted_data Wide n is = omega (arith, is)
counted_data Narrow n is = omega (arith, is)

data_range : (code : Code) → data_of code ≡ range_with_len 0 (data_count code)
data_range Wide = refl
data_range Narrow = refl

data_below : (code : Code) → list_all (λ d. ltb d (data_count code)) (data_of code) ≡ true
data_below Wide = refl
data_below Narrow = refl

pub numbers_range : (code : Code) → numbers_of code ≡ range_with_len 0 (fragment_count code)
numbers_range Wide = refl
numbers_range Narrow = refl

-- the sum by the row of a parity is the parity
pub parity_sum : (code : Code) (j n : ℕ) (row : List ℕ) (v : Bytes) → j < 4 → n ≡ data_count code → IsRow code (n + j) row →
    sum_of (each_of row) v (range_with_len 0 n) ≡ sum_of (in_parity code j) v (data_of code)
parity_sum code j n row v low is row_is =
    let known : IsRow code (data_count code + j) row = subst (λ k. IsRow code (k + j) row) is row_is in
    ap (λ k. sum_of (each_of row) v (range_with_len 0 k)) is
    ∙ ap (sum_of (each_of row) v) (sym (data_range code))
    ∙ sum_of-agree (each_of row) (in_parity code j) v (data_count code) (λ d below. known.entries d below ∙ parity_row code j d low) (data_of code) (data_below code)

-- bytes that agree give equal sums
sum_of-bytes : (w : ℕ → ℕ) (v u : Bytes) (n : ℕ) → ((g : ℕ) → g < n → v g ≡ u g) → (fs : List ℕ) → list_all (λ g. ltb g n) fs ≡ true → sum_of w v fs ≡ sum_of w u fs
sum_of-bytes w v u n same [] h = refl
sum_of-bytes w v u n same (f ∷ fs) h =
    let parts = and_parts (ltb f n) (list_all (λ g. ltb g n) fs) h in
    rw (same f (ltb-true f n parts.0), sum_of-bytes w v u n same fs parts.1) refl

-- a product whose byte matters only if the coefficient is not 0
product_read : (w : ℕ → ℕ) (a b g : ℕ) → (IsTrue (read_by w g) → a ≡ b) → times (w g) a ≡ times (w g) b
product_read w a b g same = elim (cases_eq (w g) 0) [
  | inl none ↦ rw none (times_none a ∙ sym (times_none b))
  | inr some ↦ ap (times (w g)) (same (is_read w g some))
]
  where
    is_read : (w : ℕ → ℕ) (g : ℕ) → w g ≢ 0 → IsTrue (read_by w g)
    is_read w g some = elim (cases_Bool (eqb (w g) 0)) [
      | inl yes_zero ↦ absurd (some (eqb-true _ _ yes_zero))
      | inr not_zero ↦ ap not not_zero
    ]

-- bytes that agree where they are read give equal sums
pub sum_of-read : (w : ℕ → ℕ) (v u : Bytes) → ((g : ℕ) → IsTrue (read_by w g) → v g ≡ u g) → (fs : List ℕ) → sum_of w v fs ≡ sum_of w u fs
sum_of-read w v u same [] = refl
sum_of-read w v u same (f ∷ fs) = rw (product_read w (v f) (u f) f (same f), sum_of-read w v u same fs) refl

-- lists of buffers whose lengths are the same
pub same_lengths : (xs ys : List (List ℕ)) → map length xs ≡ map length ys → (n : ℕ) → n < length xs → n < length ys → length (buffer_at xs n) ≡ length (buffer_at ys n)
same_lengths xs ys same n low below =
    sym (get_or-map length xs n [] 0 low) ∙ ap (λ ls. get_or ls n 0) same ∙ get_or-map length ys n [] 0 below

-- the buffer of a number among those that are written
pub written_at : (buffers : List (MutBor (List ℕ))) (n : ℕ) (d : MutBor (List ℕ)) → n < length buffers → buffer_at (written_buffers buffers) n ≡ (get_or buffers n d).now
written_at buffers n d inside = get_or-map (λ b. b.now) buffers n d [] inside

-- one more buffer of a list that is filled from the front
pub filled_more : (ws : List (List ℕ)) (n i : ℕ) (b : List ℕ) (P : ℕ → ℕ → Type 0) → n < length ws → P n (get_or b i 0) → ((j : ℕ) → j < n → P j (bytes_at ws i j)) → (j : ℕ) → j < n + 1 → P j (bytes_at (set ws n b) i j)
filled_more ws n i b P inside is so_far j below = elim (cases_eq j n) [
  | inl same ↦ rw same (subst (λ x. P n (get_or x i 0)) (sym (get_or-set_same ws n b [] inside)) is)
  | inr other ↦ subst (λ x. P j (get_or x i 0)) (sym (get_or-set_other ws n j b [] other)) (so_far j (omega (arith, below, other)))
]

-- a data fragment among all buffers
pub data_at : (ds ws : List (List ℕ)) (f : ℕ) → f < length ds → buffer_at (ds ++ ws) f ≡ buffer_at ds f
data_at ds ws f low = get_or_append_left ds ws [] f low

-- a parity among all buffers
pub parity_at : (code : Code) (ds ws : List (List ℕ)) (j : ℕ) → length ds ≡ data_count code → buffer_at (ds ++ ws) (data_count code + j) ≡ buffer_at ws j
parity_at code ds ws j is = ap (λ n. buffer_at (ds ++ ws) (n + j)) (sym is) ∙ get_or-append-add ds ws j []

data_count_some : (code : Code) → 0 < data_count code
data_count_some Wide = omega arith
data_count_some Narrow = omega arith

data_within : (code : Code) (f : ℕ) → f < data_count code → f < fragment_count code
data_within Wide f low = omega (arith, low)
data_within Narrow f low = omega (arith, low)

-- all data fragments are as long as the first
pub data_long : (code : Code) (ds ws : List (List ℕ)) → length ds ≡ data_count code → AreEven (ds ++ ws) (fragment_count code) → (f : ℕ) → f < data_count code → length (buffer_at ds f) ≡ length (buffer_at ds 0)
data_long code ds ws is even f low =
    let some = data_count_some code in
    ap length (sym (data_at ds ws f (omega (arith, is, low)))) ∙ even f (data_within code f low) ∙ ap length (data_at ds ws 0 (omega (arith, is, some)))

-- and so are the parities
pub parity_long : (code : Code) (ds ws : List (List ℕ)) → length ds ≡ data_count code → AreEven (ds ++ ws) (fragment_count code) → (j : ℕ) → j < 4 → length (buffer_at ws j) ≡ length (buffer_at ds 0)
parity_long code ds ws is even j low =
    let some = data_count_some code in
    ap length (sym (parity_at code ds ws j is)) ∙ even (data_count code + j) (parities_inside code (data_count code) j refl low) ∙ ap length (data_at ds ws 0 (omega (arith, is, some)))

-- a parity that is to be written is as long as the data
pub target_long : (code : Code) (ds : List (List ℕ)) (old ps : List (MutBor (List ℕ))) → length ds ≡ data_count code → AreEven (ds ++ written_buffers old) (fragment_count code)
    → map length (written_buffers ps) ≡ map length (written_buffers old) → length ps ≡ length old → (n : ℕ) (d : MutBor (List ℕ)) → n < 4 → n < length ps → length (get_or ps n d).now ≡ length (buffer_at ds 0)
target_long code ds old ps is even same count n d low inside =
    let p = length-map ps (λ b. b.now) in
    let q = length-map old (λ b. b.now) in
    ap length (sym (written_at ps n d inside))
    ∙ same_lengths (written_buffers ps) (written_buffers old) same n (omega (arith, p, inside)) (omega (arith, q, count, inside))
    ∙ parity_long code ds (written_buffers old) is even n low

-- data and the sums that are its parities are a stripe
pub stripe_of : (code : Code) (ds ws : List (List ℕ)) (i : ℕ) → length ds ≡ data_count code → length ws ≡ 4 → ((f : ℕ) → f < length ds → bytes_at ds i f < 256)
    → ((j : ℕ) → j < 4 → bytes_at ws i j < 256) → ((j : ℕ) → j < 4 → bytes_at ws i j ≡ sum_of (in_parity code j) (bytes_at ds i) (data_of code)) → IsStripe code (bytes_at (ds ++ ws) i)
stripe_of code ds ws i is four data_bytes parity_bytes sums = record {
  bytes = λ f. elim (cases_Bool (ltb f (length ds))) [
    | inl low ↦ rw (data_at ds ws f (ltb-true f (length ds) low)) (data_bytes f (ltb-true f (length ds) low))
    | inr high ↦ elim (cases_Bool (ltb f (length ds + 4))) [
      | inl low ↦
          let past = ltb-false f (length ds) high in
          let below = ltb-true f (length ds + 4) low in
          rw (get_or-append_right ds ws (length ds) f [] refl past) (parity_bytes (f - length ds) (omega (arith, past, below)))
      | inr past ↦
          let above = ltb-false f (length ds + 4) past in
          let long = length-append ds ws in
          rw (get_or_past (ds ++ ws) f [] (omega (arith, above, long, four))) (omega arith)
    ]
  ];
  encoded = λ j low.
      ap (λ b. get_or b i 0) (parity_at code ds ws j is)
      ∙ sums j low
      ∙ sum_of-bytes (in_parity code j) (bytes_at ds i) (bytes_at (ds ++ ws) i) (data_count code)
      (λ g below. ap (λ b. get_or b i 0) (sym (data_at ds ws g (omega (arith, is, below))))) (data_of code) (data_below code);
}
