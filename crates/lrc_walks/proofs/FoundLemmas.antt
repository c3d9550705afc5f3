-- What is found at positions one after the other, and the rows that it fills.
use Rattle.std.proofs.Common.{◌≡◌, ℕ, ◌+◌, ◌-◌, ◌<◌, ◌≤◌, zero, suc, Bool, true, false, if◌then◌else◌, List, [], ◌∷◌, ◌++◌, length, take, drop, map, set, Option, Some, None, inl, inr, refl, sym, ap, ap₂, ◌∙◌, append-nil, zero-add, arith}
use Rattle.std.specs.Prelude.{filter, slice_get}
use Rattle.std.specs.List.{filter_map, range_with_len, cons_option}
use Rattle.std.proofs.lemmas.Bool.{cases_lt, cases_Bool}
use Rattle.std.proofs.lemmas.List.{map-id, take_all, drop_all, drop_more, take-append-drop, take_more_set, length-take-le}
use Rattle.std.proofs.lemmas.List.Elements.{filter_map-append}
use Rattle.std.proofs.lemmas.List.FromFn.{map-range_with_len_more}
use Rattle.std.proofs.lemmas.Option.{slice_get_cases}
use Rattle.std.proofs.Math.Seq.{take-append_seam}
use Rattle.lrc_walks.specs.WalkRows.{AreFirstRows}

-- ---- ranges

range-more : (a n : ℕ) → range_with_len a (n + 1) ≡ range_with_len a n ++ (a + n) ∷ []
range-more a n =
    sym (map-id (range_with_len a (n + 1))) ∙ map-range_with_len_more (λ (k : ℕ). k) a n (a + n) refl
    ∙ ap (λ (l : List ℕ). l ++ (a + n) ∷ []) (map-id (range_with_len a n))

pub range-split : (a p q : ℕ) → range_with_len a (p + q) ≡ range_with_len a p ++ range_with_len (a + p) q
range-split a zero q =
    let here : a ≡ a + 0 = omega arith in
    ap (range_with_len a) (zero-add q) ∙ ap (λ k. range_with_len k q) here
range-split a (suc p) q =
    let next : suc p + q ≡ suc (p + q) = omega arith in
    let past : (a + 1) + p ≡ a + suc p = omega arith in
    ap (range_with_len a) next ∙ ap (λ (l : List ℕ). a ∷ l) (range-split (a + 1) p q ∙ ap (λ k. range_with_len (a + 1) p ++ range_with_len k q) past)

-- ---- what is found in a range

module _ {T : Type 0} (f : ℕ → Option T) where
  found-none : (a n : ℕ) → ((i : ℕ) → a ≤ i → i < a + n → f i ≡ None) → filter_map f (range_with_len a n) ≡ []
  found-none a zero none = refl
  found-none a (suc n) none =
      ap (λ (o : Option T). cons_option o (filter_map f (range_with_len (a + 1) n))) (none a (omega arith) (omega arith))
      ∙ found-none (a + 1) n (λ i low high. none i (omega (arith, low)) (omega (arith, high)))

  -- nothing is lost where nothing is found before the start
  pub found-part : (start n : ℕ) → ((i : ℕ) → i < start → i < n → f i ≡ None)
      → filter_map f (range_with_len start (n - start)) ≡ filter_map f (range_with_len 0 n)
  found-part start n none = elim (cases_lt n start) [
    | inl short ↦
        let past : n - start ≡ 0 = omega (arith, short) in
        ap (λ k. filter_map f (range_with_len start k)) past
        ∙ sym (found-none 0 n (λ i low high. none i (omega (arith, high, short)) (omega (arith, high))))
    | inr long ↦
        let all : n ≡ start + (n - start) = omega (arith, long) in
        sym (ap (λ k. filter_map f (range_with_len 0 k)) all ∙ ap (filter_map f) (range-split 0 start (n - start))
        ∙ filter_map-append f (range_with_len 0 start) (range_with_len (0 + start) (n - start))
        ∙ ap₂ (λ (l : List T) k. l ++ filter_map f (range_with_len k (n - start))) (found-none 0 start (λ i low high. none i (omega (arith, high)) (omega (arith, high, long)))) (omega arith))
  ]

  -- ---- one position more

  found-more : (start i : ℕ) → start ≤ i
      → filter_map f (range_with_len start (i + 1 - start)) ≡ filter_map f (range_with_len start (i - start)) ++ cons_option (f i) []
  found-more start i from =
      let next : i + 1 - start ≡ i - start + 1 = omega (arith, from) in
      let at : start + (i - start) ≡ i = omega (arith, from) in
      ap (λ k. filter_map f (range_with_len start k)) next ∙ ap (filter_map f) (range-more start (i - start))
      ∙ filter_map-append f (range_with_len start (i - start)) ((start + (i - start)) ∷ [])
      ∙ ap (λ k. filter_map f (range_with_len start (i - start)) ++ cons_option (f k) []) at

  module _ (start i count : ℕ) (rows : List T) (from : start ≤ i) (written : take count rows ≡ filter_map f (range_with_len start (i - start))) where
    pub found-miss : f i ≡ None → take count rows ≡ filter_map f (range_with_len start (i + 1 - start))
    found-miss none =
        written ∙ sym (found-more start i from ∙ ap (λ (o : Option T). filter_map f (range_with_len start (i - start)) ++ cons_option o []) none
        ∙ append-nil (filter_map f (range_with_len start (i - start))))

    pub found-hit : (row : T) → count < length rows → f i ≡ Some row → take (count + 1) (set rows count row) ≡ filter_map f (range_with_len start (i + 1 - start))
    found-hit row room some =
        take_more_set rows count row room ∙ ap (λ (l : List T). l ++ row ∷ []) written
        ∙ sym (found-more start i from ∙ ap (λ (o : Option T). filter_map f (range_with_len start (i - start)) ++ cons_option o []) some)

  module _ (start end i count : ℕ) (rows before : List T) (from : start ≤ i) (as_long : length rows ≡ length before) (room : count ≤ length rows)
      (rest : drop count rows ≡ drop count before) (written : take count rows ≡ filter_map f (range_with_len start (i - start))) where
    joined : (all : List T) → all ≡ take count rows → AreFirstRows all count before rows
    joined all is =
        (sym (length-take-le count rows room) ∙ ap length (sym is), sym (take-append-drop count rows) ∙ ap₂ (λ (l r : List T). l ++ r) (sym is) rest)

    -- there is no room for another row
    pub found-full : i - start ≤ end - start → count ≡ length rows → AreFirstRows (take (length before) (filter_map f (range_with_len start (end - start)))) count before rows
    found-full within full =
        let more = filter_map f (range_with_len (start + (i - start)) (end - start - (i - start))) in
        let parts : end - start ≡ (i - start) + (end - start - (i - start)) = omega (arith, within) in
        let all : filter_map f (range_with_len start (end - start)) ≡ take count rows ++ more =
        ap (λ k. filter_map f (range_with_len start k)) parts ∙ ap (filter_map f) (range-split start (i - start) (end - start - (i - start)))
        ∙ filter_map-append f (range_with_len start (i - start)) (range_with_len (start + (i - start)) (end - start - (i - start)))
        ∙ ap (λ (l : List T). l ++ more) (sym written) in
        let long : length before ≡ length (take count rows) = omega (arith, as_long, full, length-take-le count rows room) in
        joined (take (length before) (filter_map f (range_with_len start (end - start))))
        (ap (take (length before)) all ∙ ap (λ k. take k (take count rows ++ more)) long ∙ take-append_seam (take count rows) more)

    -- there is no other position
    pub found-all : end - start ≤ i - start → i - start ≤ end - start → AreFirstRows (take (length before) (filter_map f (range_with_len start (end - start)))) count before rows
    found-all over within =
        let same : end - start ≡ i - start = omega (arith, over, within) in
        let all : filter_map f (range_with_len start (end - start)) ≡ take count rows = ap (λ k. filter_map f (range_with_len start k)) same ∙ sym written in
        let few : length (filter_map f (range_with_len start (end - start))) ≤ length before =
        omega (arith, ap length all, length-take-le count rows room, as_long, room) in
        joined (take (length before) (filter_map f (range_with_len start (end - start))))
        (take_all (length before) (filter_map f (range_with_len start (end - start))) few ∙ all)

-- ---- what is found in a list

module _ {C T : Type 0} (h : C → Option T) where
  -- by position
  found-list : (f : ℕ → Option T) (xs : List C) → ((i : ℕ) (x : C) → slice_get xs i ≡ Some x → f i ≡ h x) → (n from : ℕ) → n ≡ length xs - from
      → filter_map f (range_with_len from n) ≡ filter_map h (drop from xs)
  found-list f xs is zero from all = sym (ap (filter_map h) (drop_all from xs (omega (arith, all))))
  found-list f xs is (suc n) from all = elim ((slice_get_cases xs from).1) [
    | inl here ↦
        let (x, within, got, read) = here in
        ap₂ (λ (o : Option T) (l : List T). cons_option o l) (is from x got) (found-list f xs is n (from + 1) (omega (arith, all)))
        ∙ sym (ap (filter_map h) (drop_more xs from x within ∙ ap (λ (y : C). y ∷ drop (from + 1) xs) read))
    | inr past ↦ absurd (omega (arith, all, past.0))
  ]

  pub found-from : (f : ℕ → Option T) (xs : List C) → ((i : ℕ) (x : C) → slice_get xs i ≡ Some x → f i ≡ h x) → (from : ℕ)
      → filter_map f (range_with_len from (length xs - from)) ≡ filter_map h (drop from xs)
  found-from f xs is from = found-list f xs is (length xs - from) from refl

  pub found-map : {B : Type 0} (at : B → C) (xs : List B) → filter_map h (map at xs) ≡ filter_map (λ x. h (at x)) xs
  found-map at [] = refl
  found-map at (x ∷ xs) = ap (cons_option (h (at x))) (found-map at xs)

-- each gives a row
pub found-each : {C T : Type 0} (g : C → T) (xs : List C) → filter_map (λ x. Some (g x)) xs ≡ map g xs
found-each g [] = refl
found-each g (x ∷ xs) = ap (λ l. g x ∷ l) (found-each g xs)

-- those that pass a test give a row
pub found-passing : {C T : Type 0} (p : C → Bool) (g : C → T) (xs : List C) → filter_map (λ x. if p x then Some (g x) else None) xs ≡ map g (filter p xs)
found-passing p g [] = refl
found-passing p g (x ∷ xs) = elim (cases_Bool (p x)) [
  | inl hit ↦ rw hit (ap (λ l. g x ∷ l) (found-passing p g xs))
  | inr miss ↦ rw miss (found-passing p g xs)
]

-- those that pass a test may give a row
pub found-tested : {C T : Type 0} (p : C → Bool) (g : C → Option T) (xs : List C) → filter_map (λ x. if p x then g x else None) xs ≡ filter_map g (filter p xs)
found-tested p g [] = refl
found-tested p g (x ∷ xs) = elim (cases_Bool (p x)) [
  | inl hit ↦ rw hit (ap (cons_option (g x)) (found-tested p g xs))
  | inr miss ↦ rw miss (found-tested p g xs)
]

module _ {C : Type 0} (p : C → Bool) (x : C) (xs : List C) where
  filter-hit : p x ≡ true → filter p (x ∷ xs) ≡ x ∷ filter p xs
  filter-hit hit = ap (λ (b : Bool). if b then x ∷ filter p xs else filter p xs) hit

  filter-miss : p x ≡ false → filter p (x ∷ xs) ≡ filter p xs
  filter-miss miss = ap (λ (b : Bool). if b then x ∷ filter p xs else filter p xs) miss

-- two tests, one after the other
pub passing-both : {C : Type 0} (p q : C → Bool) (xs : List C) → filter p (filter q xs) ≡ filter q (filter p xs)
passing-both p q [] = refl
passing-both p q (x ∷ xs) = elim (cases_Bool (p x)) [
  | inl hit ↦ elim (cases_Bool (q x)) [
    | inl also ↦
        ap (filter p) (filter-hit q x xs also) ∙ filter-hit p x (filter q xs) hit ∙ ap (λ l. x ∷ l) (passing-both p q xs)
        ∙ sym (ap (filter q) (filter-hit p x xs hit) ∙ filter-hit q x (filter p xs) also)
    | inr alone ↦ ap (filter p) (filter-miss q x xs alone) ∙ passing-both p q xs ∙ sym (ap (filter q) (filter-hit p x xs hit) ∙ filter-miss q x (filter p xs) alone)
  ]
  | inr miss ↦ elim (cases_Bool (q x)) [
    | inl alone ↦ ap (filter p) (filter-hit q x xs alone) ∙ filter-miss p x (filter q xs) miss ∙ passing-both p q xs ∙ sym (ap (filter q) (filter-miss p x xs miss))
    | inr neither ↦ ap (filter p) (filter-miss q x xs neither) ∙ passing-both p q xs ∙ sym (ap (filter q) (filter-miss p x xs miss))
  ]
]
