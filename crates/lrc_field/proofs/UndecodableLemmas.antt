-- A set that is not recoverable is not decodable.
use Rattle.std.proofs.Common.{◌≡◌, ℕ, zero, suc, ◌+◌, ◌-◌, ◌<◌, ◌≤◌, ◌⊎◌, ◌≢◌, min, Bool, true, false, not, eqb, ltb, List, [], ◌∷◌, ◌++◌, take, refl, sym, ◌∙◌, inl, inr, arith, lit<, ◌&&◌, ◌||◌, ◌↔◌}
use Rattle.std.specs.List.{list_all, list_any}
use Rattle.std.proofs.lemmas.List.Sums.{length-filter}
use Rattle.std.proofs.Math.ListN.{length-take}
use Rattle.std.proofs.lemmas.Bool.{cases_lt, eqb-true, eqb-false, eq-eqb, ltb-true, and_parts, or_cases, not-true}
use Rattle.lrc_code.specs.declared.codes.Code.{Code}
use Rattle.lrc_code.specs.declared.codes.Class.TheVariants.{A, B, G}
use Rattle.lrc_code.specs.Codes.{fragment_count, members, data_count}
use Rattle.lrc_code.specs.Losses.{FragmentSet, IsRecoverable, excess, losses_in}
use Rattle.lrc_code.proofs.LossesLemmas.{by_counts}
use Rattle.lrc_code.proofs.MarginLemmas.{losses-most}
use Rattle.lrc_field.specs.Stripes.{Bytes, data_of, numbers_of, in_parity, sum_of, IsStripe, IsDecodable, AreAlikeOutside}
use Rattle.lrc_field.specs.Weights.{lost_in}
use Rattle.lrc_field.proofs.FieldLemmas.{times_zero}
use Rattle.lrc_field.proofs.DecodableLemmas.{decodable}
use Rattle.lrc_field.proofs.SublistLemmas.{each, each_take, any_take, at_listed, excess_by}
use Rattle.lrc_field.proofs.MemberLemmas.{fragments_below, fragments_listed}
use Rattle.lrc_field.proofs.KernelLemmas.{Kernel, kernel_of, tests, is_within, encodes, sparse, sparse-sum_of, has_kernel, three_over, over_a, every_over, group_parts, global_parts}

-- how many of the losses of each class suffice for an excess of three
record Cut (a b c : ℕ) : Type 0 where
  pub x : ℕ
  pub y : ℕ
  pub z : ℕ
  pub few_x : x ≤ 4
  pub few_y : y ≤ 4
  pub few_z : z ≤ 2
  pub three : (min x a - 1) + (min y b - 1) + min z c ≡ 3

cut : (a b c : ℕ) → c ≤ 2 → 2 < (a - 1) + (b - 1) + c → Cut a b c
cut a b c two many = elim (cases_lt 3 a) [
  | inl four ↦ record { x = 4; y = 0; z = 0; few_x = omega arith; few_y = omega arith; few_z = omega arith; three = omega (arith, four) }
  | inr few ↦ elim (cases_lt (3 - (a - 1)) b) [
    | inl enough ↦ record { x = a; y = (3 - (a - 1)) + 1; z = 0; few_x = omega (arith, few); few_y = omega arith; few_z = omega arith; three = omega (arith, few, enough) }
    | inr short ↦ record { x = a; y = b; z = 3 - (a - 1) - (b - 1); few_x = omega (arith, few); few_y = omega (arith, short); few_z = omega (arith, many, short, few, two); three = omega (arith, few, short, many) }
  ]
]

over_at_b : (code : Code) (m : FragmentSet) (la : List ℕ) (y z : ℕ) → over_a code la ≡ true → y ≤ 4 → z ≤ 2 → three_over code la (take y (lost_in code B m)) (take z (lost_in code G m)) ≡ true
unfolding over_a
over_at_b code m la y z h few_y few_z =
    each_take (three_over code la (take y (lost_in code B m))) 2 (members code G) (each_take (λ lb. each (three_over code la lb) 2 (members code G)) 4 (members code B) h m y few_y) m z few_z

kernel_at : (code : Code) (la lb lg : List ℕ) → three_over code la lb lg ≡ true → excess_by la lb lg ≡ 3 → Kernel code la lb lg
unfolding three_over has_kernel
kernel_at code la lb lg h three =
    kernel_of code la lb lg (group_parts code la ++ (group_parts code lb ++ global_parts code lg)) (rw (eq-eqb (excess_by la lb lg) 3 three, three_over) at h)

-- a stripe that is zero outside of the set, and not zero at a fragment
pub record Hidden (code : Code) (m : FragmentSet) : Type 0 where
  pub v : Bytes
  pub stripe : IsStripe code v
  pub outside : (g : ℕ) → g < fragment_count code → m g ≡ false → v g ≡ 0
  pub f : ℕ
  pub within : f < fragment_count code
  pub hit : m f ≡ true
  pub some : v f ≢ 0

-- a member of the list that passes the test
record Found (t : ℕ → Bool) (n : ℕ) : Type 0 where
  pub f : ℕ
  pub within : f < n
  pub passes : t f ≡ true

found : (t : ℕ → Bool) (n : ℕ) (fs : List ℕ) → list_any t fs ≡ true → list_all (λ g. ltb g n) fs ≡ true → Found t n
found t n [] h low = absurd (let e : false ≡ true = h in cc)
found t n (x ∷ xs) h low =
    let l = and_parts (ltb x n) (list_all (λ g. ltb g n) xs) low in
    elim (or_cases (t x) (list_any t xs) h) [
      | inl here ↦ record { f = x; within = ltb-true x n l.0; passes = here }
      | inr later ↦ found t n xs later l.1
    ]

stripe_from : (code : Code) (v : Bytes) → ((g : ℕ) → v g < 256) → (encodes code v 0 && (encodes code v 1 && (encodes code v 2 && encodes code v 3))) ≡ true → IsStripe code v
stripe_from code v bytes h =
    let p = and_parts (encodes code v 0) (encodes code v 1 && (encodes code v 2 && encodes code v 3)) h in
    let q = and_parts (encodes code v 1) (encodes code v 2 && encodes code v 3) p.1 in
    let r = and_parts (encodes code v 2) (encodes code v 3) q.1 in
    record { bytes = bytes; encoded = rows p.0 q.0 r.0 r.1 } where
      one_row : (j : ℕ) → encodes code v j ≡ true → v (data_count code + j) ≡ sum_of (in_parity code j) v (data_of code)
      one_row j e = eqb-true (v (data_count code + j)) (sparse (in_parity code j) v (data_of code)) e ∙ sparse-sum_of (in_parity code j) v (data_of code)

      rows : encodes code v 0 ≡ true → encodes code v 1 ≡ true → encodes code v 2 ≡ true → encodes code v 3 ≡ true → (j : ℕ) → j < 4 → v (data_count code + j) ≡ sum_of (in_parity code j) v (data_of code)
      rows a b c d zero l = one_row 0 a
      rows a b c d (suc zero) l = one_row 1 b
      rows a b c d (suc (suc zero)) l = one_row 2 c
      rows a b c d (suc (suc (suc zero))) l = one_row 3 d
      rows a b c d (suc (suc (suc (suc j)))) l = absurd (omega (arith, l))

hidden_from : (code : Code) (m : FragmentSet) (x y z : ℕ) → Kernel code (take x (lost_in code A m)) (take y (lost_in code B m)) (take z (lost_in code G m)) → Hidden code m
unfolding tests
hidden_from code m x y z k =
    let la = take x (lost_in code A m) in
    let lb = take y (lost_in code B m) in
    let lg = take z (lost_in code G m) in
    let p = and_parts (encodes code k.v 0 && (encodes code k.v 1 && (encodes code k.v 2 && encodes code k.v 3))) (list_all (λ g. eqb (k.v g) 0 || is_within la lb lg g) (numbers_of code) && list_any (λ g. not (eqb (k.v g) 0)) (numbers_of code)) k.tested in
    let q = and_parts (list_all (λ g. eqb (k.v g) 0 || is_within la lb lg g) (numbers_of code)) (list_any (λ g. not (eqb (k.v g) 0)) (numbers_of code)) p.1 in
    let w = found (λ g. not (eqb (k.v g) 0)) (fragment_count code) (numbers_of code) q.1 (fragments_below code) in
    let not_zero : eqb (k.v w.f) 0 ≡ false = not-true (eqb (k.v w.f) 0) w.passes in
    record {
      v = k.v;
      stripe = stripe_from code k.v k.bytes p.0;
      outside = λ g few stands. elim (zero_or_hit q.0 g few) [ inl none ↦ none | inr hit ↦ absurd (let e : true ≡ false = sym hit ∙ stands in cc) ];
      f = w.f;
      within = w.within;
      hit = elim (zero_or_hit q.0 w.f w.within) [ inl none ↦ absurd (eqb-false (k.v w.f) 0 not_zero none) | inr hit ↦ hit ];
      some = eqb-false (k.v w.f) 0 not_zero;
    } where
      zero_or_hit : list_all (λ g. eqb (k.v g) 0 || is_within (take x (lost_in code A m)) (take y (lost_in code B m)) (take z (lost_in code G m)) g) (numbers_of code) ≡ true → (g : ℕ) → g < fragment_count code → (k.v g ≡ 0) ⊎ (m g ≡ true)
      zero_or_hit all g few =
          let la = take x (lost_in code A m) in
          let lb = take y (lost_in code B m) in
          let lg = take z (lost_in code G m) in
          let t = λ (g : ℕ). eqb (k.v g) 0 || is_within la lb lg g in
          elim (or_cases (eqb (k.v g) 0) (is_within la lb lg g) (at_listed t g (numbers_of code) all (fragments_listed code g few))) [
            | inl none ↦ inl (eqb-true (k.v g) 0 none)
            | inr some ↦ inr (elim (or_cases (list_any (eqb g) la) (list_any (eqb g) lb || list_any (eqb g) lg) some) [
              | inl a ↦ any_take m g (members code A) x a
              | inr rest ↦ elim (or_cases (list_any (eqb g) lb) (list_any (eqb g) lg) rest) [ inl b ↦ any_take m g (members code B) y b | inr c ↦ any_take m g (members code G) z c ]
            ])
          ]

pub hidden : (code : Code) (m : FragmentSet) → 2 < excess code m → Hidden code m
hidden code m many =
    let a = length-filter m (members code A) in
    let b = length-filter m (members code B) in
    let g = length-filter m (members code G) in
    let c = cut (losses_in code A m) (losses_in code B m) (losses_in code G m) (losses-most code m).2 many in
    hidden_from code m c.x c.y c.z
    (kernel_at code (take c.x (lost_in code A m)) (take c.y (lost_in code B m)) (take c.z (lost_in code G m))
    (over_at_b code m (take c.x (lost_in code A m)) c.y c.z (each_take (over_a code) 4 (members code A) (every_over code) m c.x c.few_x) c.few_y c.few_z)
    (rw (length-take c.x (lost_in code A m), length-take c.y (lost_in code B m), length-take c.z (lost_in code G m), a, b, g) c.three))

-- the stripe of zeros
zero_sum : (w : ℕ → ℕ) (fs : List ℕ) → sum_of w (λ _. 0) fs ≡ 0
zero_sum w [] = refl
zero_sum w (f ∷ fs) = rw (times_zero (w f), zero_sum w fs) refl

pub zeros : (code : Code) → IsStripe code (λ _. 0)
zeros code = record { bytes = λ f. lit< tt; encoded = λ j l. sym (zero_sum (in_parity code j) (data_of code)) }

left : (b : Bool) → not b ≡ true → b ≡ false
left true e = absurd (let k : false ≡ true = e in cc)
left false e = refl

abbrev pub HasTwoStripes : Code → FragmentSet → Type 0
HasTwoStripes code m = (v : Bytes) × (w : Bytes) × AreAlikeOutside code m v w

-- the hidden stripe and that of zeros
two_of : (code : Code) (m : FragmentSet) → Hidden code m → HasTwoStripes code m
two_of code m h = (
  h.v,
  λ _. 0,
  record { first = h.stripe; second = zeros code; common = λ g few stands. h.outside g few (left (m g) stands); fragment = h.f; within = h.within; differ = h.some },
)

one_of : (code : Code) (m : FragmentSet) → HasTwoStripes code m → ¬ IsDecodable code m
one_of code m (v, w, two) good = two.differ (good two.fragment two.within v w two.first two.second two.common)

-- A decodable set is recoverable.
pub recoverable : (code : Code) (m : FragmentSet) → IsDecodable code m → IsRecoverable code m
recoverable code m good = elim (cases_lt 2 (excess code m)) [
  | inr few ↦ (by_counts code m).1 few
  | inl many ↦ absurd (one_of code m (two_of code m (hidden code m many)) good)
]

-- A set is not decodable exactly if two stripes have what is left in common, and differ.
pub two_stripes : (code : Code) (m : FragmentSet) → (¬ IsDecodable code m) ↔ HasTwoStripes code m
two_stripes code m = (to, one_of code m) where
  to : ¬ IsDecodable code m → HasTwoStripes code m
  to bad = elim (cases_lt 2 (excess code m)) [
    | inl many ↦ two_of code m (hidden code m many)
    | inr few ↦ absurd (bad (decodable code m ((by_counts code m).1 few)))
  ]
