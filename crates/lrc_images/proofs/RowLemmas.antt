-- Rows of numbers in ascending order.
use Rattle.std.proofs.Common.{[], ◌≡◌, ℕ, ◌+◌, ◌<◌, ◌≤◌, inl, inr, Bool, true, false, if◌then◌else◌, List, ◌∷◌, ◌++◌, get_or, map, flat_map, Option, Some, None, refl, sym, ap, subst, ◌∙◌, append-nil, zero-add, arith}
use Rattle.std.specs.Prelude.{option_to_list}
use Rattle.std.specs.List.{All, AllPairs, Contains, range_with_len}
use Rattle.std.proofs.lemmas.List.Elements.{All-contains}
use Rattle.std.proofs.lemmas.List.Concat.{flat_map-append}
use Rattle.std.proofs.lemmas.List.FromFn.{length-map-range_with_len, get_or-map-range_with_len, map-range_with_len_more}
use Rattle.std.proofs.Math.Nat.{mod-eq_of_lt}
use Rattle.lrc_code.specs.declared.numbers.StripeNo.{StripeNo}
use Rattle.lrc_code.proofs.NumbersLemmas.{equal_stripes}
use Rattle.lrc_terms.specs.Stripes.{stripe_at}
use Rattle.lrc_rules.proofs.MemberLemmas.{Contains-here, not-Contains-nil, Contains-cases, All-members, AllPairs-head, AllPairs-tail}
use Rattle.lrc_rules.proofs.PairLemmas.{pairs-join}
use Rattle.lrc_rules.proofs.AlikeListLemmas.{flat-member, member-flat}
use Rattle.lrc_images.specs.Rows.{rows_below}

-- ---- members

some-listed : {X : Type 0} (o : Option X) (x : X) → Contains (option_to_list o) x → o ≡ Some x
some-listed None x here = absurd (not-Contains-nil x here)
some-listed (Some y) x here = elim (Contains-cases y x [] here) [
  | inl same ↦ ap (λ z. Some z) same
  | inr later ↦ absurd (not-Contains-nil x later)
]

pub listed-some : {X : Type 0} (o : Option X) (x : X) → o ≡ Some x → Contains (option_to_list o) x
listed-some o x is = subst (λ p. Contains (option_to_list p) x) (sym is) (Contains-here x [])

-- what is chosen by a test is there only if the test holds
some-if : {X : Type 0} (b : Bool) (row x : X) → (if b then Some row else None) ≡ Some x → (b ≡ true) × (row ≡ x)
some-if true row x is = (refl, (let same : Some row ≡ Some x = is in cc))
some-if false row x is = absurd (let never : ◌≡◌ {A = Option _} None (Some x) = is in cc)

-- ---- pairs

pub pairs-none : {X : Type 0} (R : X → X → Type 0) → AllPairs R []
pairs-none R = λ i j d below within. absurd (omega arith)

-- pairs of lists that are appended
pub pairs-flat : {X Y : Type 0} (R : Y → Y → Type 0) (S : X → X → Type 0) (f : X → List Y) → ((x : X) → AllPairs R (f x))
    → ((x z : X) (y u : Y) → S x z → Contains (f x) y → Contains (f z) u → R y u) → (xs : List X) → AllPairs S xs → AllPairs R (flat_map f xs)
pairs-flat R S f own across [] pairs = pairs-none R
pairs-flat R S f own across (x ∷ xs) pairs =
    pairs-join R (f x) (flat_map f xs) (own x) (pairs-flat R S f own across xs (AllPairs-tail S x xs pairs))
    (All-members (λ y. All (R y) (flat_map f xs)) (f x) (λ y here. All-members (R y) (flat_map f xs) (λ u there.
    let m = flat-member f xs u there in across x m.0 y u (All-contains (S x) xs m.0 (AllPairs-head S x xs pairs) m.1) here m.2)))

pub pairs-option : {X : Type 0} (R : X → X → Type 0) (o : Option X) → AllPairs R (option_to_list o)
pairs-option R None = pairs-none R
pairs-option R (Some x) = λ i j d below within. absurd (omega (arith, below, within))

-- ---- rows of numbers

module _ {X Y : Type 0} (at : ℕ → Y) (rows : Y → List X) where
  pub rows-none : rows_below at rows 0 ≡ []
  unfolding rows_below
  rows-none = refl

  pub rows-more : (n : ℕ) (y : Y) → at n ≡ y → rows_below at rows (n + 1) ≡ rows_below at rows n ++ rows y
  unfolding rows_below
  rows-more n y is =
      ap (flat_map rows) (map-range_with_len_more at 0 n n (zero-add n))
      ∙ flat_map-append rows (map at (range_with_len 0 n)) (at n ∷ [])
      ∙ ap (λ l. flat_map rows (map at (range_with_len 0 n)) ++ l) (append-nil (rows (at n)) ∙ ap rows is)

  pub member-rows : (count k : ℕ) (y : Y) (x : X) → k < count → at k ≡ y → Contains (rows y) x → Contains (rows_below at rows count) x
  unfolding rows_below
  member-rows count k y x below is here =
      member-flat rows (map at (range_with_len 0 count)) (at k) x
      (k, omega (arith, below, length-map-range_with_len at 0 count), get_or-map-range_with_len at 0 count k k (at k) below (zero-add k))
      (subst (λ z. Contains (rows z) x) (sym is) here)

  pub rows-member : (count : ℕ) (x : X) → Contains (rows_below at rows count) x → (y : Y) × Contains (rows y) x
  unfolding rows_below
  rows-member count x here = let m = flat-member rows (map at (range_with_len 0 count)) x here in (m.0, m.2)

  pub pairs-rows : (R : X → X → Type 0) (S : Y → Y → Type 0) (count : ℕ) → ((i j : ℕ) → i < j → j < count → S (at i) (at j)) → ((y : Y) → AllPairs R (rows y))
      → ((y z : Y) (x w : X) → S y z → Contains (rows y) x → Contains (rows z) w → R x w) → AllPairs R (rows_below at rows count)
  unfolding rows_below
  pairs-rows R S count rising own across =
      pairs-flat R S rows own across (map at (range_with_len 0 count)) (λ i j d below within.
      let long = length-map-range_with_len at 0 count in
      let last : j < count = omega (arith, within, long) in
      subst (λ y. S y (get_or (map at (range_with_len 0 count)) j d)) (sym (get_or-map-range_with_len at 0 count i i d (omega (arith, below, last)) (zero-add i)))
      (subst (S (at i)) (sym (get_or-map-range_with_len at 0 count j j d last (zero-add j))) (rising i j below last)))

-- rows of which each is that of one number, if this number passes a test
module _ {X Y : Type 0} (at : ℕ → Y) (of : Y → X) (test : Y → Bool) (count : ℕ) where
  abbrev own_row : Y → Option X
  own_row y = if test y then Some (of y) else None

  pub row-there : (k : ℕ) (y : Y) → k < count → at k ≡ y → test y ≡ true → Contains (rows_below at (λ y. option_to_list (own_row y)) count) (of y)
  row-there k y below is hit =
      member-rows at (λ y. option_to_list (own_row y)) count k y (of y) below is
      (listed-some (own_row y) (of y) (ap (λ b. if b then Some (of y) else None) hit))

  pub there-row : (x : X) → Contains (rows_below at (λ y. option_to_list (own_row y)) count) x → (y : Y) × (test y ≡ true) × (of y ≡ x)
  there-row x here =
      let m = rows-member at (λ y. option_to_list (own_row y)) count x here in
      let own = some-if (test m.0) (of m.0) x (some-listed (own_row m.0) x m.1) in (m.0, own.0, own.1)

  pub pairs-single : (R : X → X → Type 0) (S : Y → Y → Type 0) → ((i j : ℕ) → i < j → j < count → S (at i) (at j)) → ((y z : Y) → S y z → R (of y) (of z))
      → AllPairs R (rows_below at (λ y. option_to_list (own_row y)) count)
  pairs-single R S rising related =
      pairs-rows at (λ y. option_to_list (own_row y)) R S count rising (λ y. pairs-option R (own_row y)) (λ y z x w apart here there.
      let first = some-if (test y) (of y) x (some-listed (own_row y) x here) in
      let second = some-if (test z) (of z) w (some-listed (own_row z) w there) in
      subst (R x) second.1 (subst (λ v. R v (of z)) first.1 (related y z apart)))

-- one more row, if there is one
module _ {X Y : Type 0} (at : ℕ → Y) (row : Y → Option X) (n : ℕ) (y : Y) (items : List X) (is : at n ≡ y)
    (so_far : items ≡ rows_below at (λ z. option_to_list (row z)) n) where
  pub row-push : (x : X) → row y ≡ Some x → items ++ x ∷ [] ≡ rows_below at (λ z. option_to_list (row z)) (n + 1)
  row-push x some =
      ap (λ l. l ++ x ∷ []) so_far
      ∙ sym (rows-more at (λ z. option_to_list (row z)) n y is ∙ ap (λ o. rows_below at (λ z. option_to_list (row z)) n ++ option_to_list o) some)

  pub row-pass : row y ≡ None → items ≡ rows_below at (λ z. option_to_list (row z)) (n + 1)
  row-pass none =
      so_far
      ∙ sym (rows-more at (λ z. option_to_list (row z)) n y is ∙ ap (λ o. rows_below at (λ z. option_to_list (row z)) n ++ option_to_list o) none
      ∙ append-nil (rows_below at (λ z. option_to_list (row z)) n))

-- ---- stripe numbers

at-number : (k : ℕ) → k < 4096 → (stripe_at k).value ≡ k
at-number k below = mod-eq_of_lt below

pub own-number : (s : StripeNo) → stripe_at s.value ≡ s
own-number s = equal_stripes (stripe_at s.value) s (mod-eq_of_lt s.in_range)

pub stripes-rise : (count : ℕ) → count ≤ 4096 → (i j : ℕ) → i < j → j < count → (stripe_at i).value < (stripe_at j).value
stripes-rise count few i j below within =
    let first = at-number i (omega (arith, below, within, few)) in
    let second = at-number j (omega (arith, within, few)) in omega (arith, first, second, below)
