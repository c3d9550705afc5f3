-- Masks of fragments.
use Rattle.std.proofs.Common.{◌≡◌, ℕ, ◌+◌, ◌^◌, ◌<◌, ◌≤◌, Bool, true, false, ◌&&◌, ◌||◌, eqb, ltb, List, get_or, map, Option, None, refl, sym, ap, ◌∙◌, inl, inr, arith, lit<}
use Rattle.std.specs.Prelude.{is_none}
use Rattle.std.proofs.lemmas.Bool.{cases_eq, cases_lt, eq-eqb, ne_eqb, lt-ltb, le-ltb, ltb-true}
use Rattle.std.proofs.lemmas.List.{get_or-map}
use Rattle.std.proofs.lemmas.Nat.Bits.{bit_at_above}
use Rattle.lrc_code.specs.declared.codes.Code.{Code}
use Rattle.lrc_code.specs.declared.numbers.Fragment.{Fragment}
use Rattle.lrc_code.specs.Codes.{fragments, fragment_count, has_fragment, all_fragments}
use Rattle.lrc_code.specs.Losses.{FragmentSet, bits_set, bits_of, size_of}
use Rattle.lrc_code.proofs.BitsLemmas.{bits_set-bits_of, bits_of-below, bits_of-bits_set, fits-within}
use Rattle.lrc_topology.specs.declared.seat.Seat.{Seat}
use Rattle.lrc_terms.specs.Levels.{Homes, homeless_in}
use Rattle.lrc_terms.proofs.CodeListLemmas.{fragment-number, few-fragments}

-- ---- the mask of a set that has only fragments of the code

module _ (code : Code) (m : FragmentSet) (alone : (f : ℕ) → fragment_count code ≤ f → m f ≡ false) where
  pub mask-set : (f : ℕ) → bits_set (bits_of code m) f ≡ m f
  mask-set f = elim (cases_lt f (fragment_count code)) [
    | inl within ↦ bits_set-bits_of code m f within
    | inr past ↦ ap (λ (b : ℕ). eqb b 1) (bit_at_above (bits_of code m) (fragment_count code) f (bits_of-below code m) past) ∙ sym (alone f past)
  ]

  pub size-mask : size_of code (bits_set (bits_of code m)) ≡ size_of code m
  size-mask = λ i. size_of code (λ f. mask-set f i)

  -- a mask with the members of the set is the mask of the set
  pub mask-is : (bits : ℕ) → ((f : ℕ) → bits_set bits f ≡ m f) → bits ≡ bits_of code m
  mask-is bits each =
      let small : bits < 2 ^ fragment_count code = ltb-true bits (2 ^ fragment_count code) ((fits-within code bits).1 (λ f past. each f ∙ alone f past)) in
      sym (bits_of-bits_set code bits small) ∙ (λ i. bits_of code (λ f. each f i))

-- ---- a walk that marks the members of a set

ltb-more : (f i : ℕ) → (f ≡ i → ⊥) → ltb f (i + 1) ≡ ltb f i
ltb-more f i other = elim (cases_lt f i) [
  | inl below ↦ lt-ltb f (i + 1) (omega (arith, below)) ∙ sym (lt-ltb f i below)
  | inr past ↦ le-ltb f (i + 1) (omega (arith, past, other)) ∙ sym (le-ltb f i past)
]

pub and-false : (b : Bool) → (b && false) ≡ false
and-false true = refl
and-false false = refl

module _ (m : FragmentSet) (i bits : ℕ) (so_far : (f : ℕ) → bits_set bits f ≡ (ltb f i && m f)) where
  -- a member is marked
  pub set-hit : m i ≡ true → (next : ℕ) → ((f : ℕ) → bits_set next f ≡ (eqb f i || bits_set bits f)) → (f : ℕ) → bits_set next f ≡ (ltb f (i + 1) && m f)
  set-hit hit next more f = elim (cases_eq f i) [
    | inl same ↦
        more f ∙ ap (λ (b : Bool). b || bits_set bits f) (eq-eqb f i same)
        ∙ sym (ap (λ (b : Bool). b && m f) (lt-ltb f (i + 1) (omega (arith, same))) ∙ ap m same ∙ hit)
    | inr other ↦ more f ∙ ap (λ (b : Bool). b || bits_set bits f) (ne_eqb f i other) ∙ so_far f ∙ ap (λ (b : Bool). b && m f) (sym (ltb-more f i other))
  ]

  -- no member is passed over
  pub set-miss : m i ≡ false → (f : ℕ) → bits_set bits f ≡ (ltb f (i + 1) && m f)
  set-miss miss f = elim (cases_eq f i) [
    | inl same ↦
        let none : m f ≡ false = ap m same ∙ miss in
        so_far f ∙ ap (λ (b : Bool). ltb f i && b) none ∙ and-false (ltb f i) ∙ sym (ap (λ (b : Bool). ltb f (i + 1) && b) none ∙ and-false (ltb f (i + 1)))
    | inr other ↦ so_far f ∙ ap (λ (b : Bool). b && m f) (sym (ltb-more f i other))
  ]

-- ---- sets by the home of each fragment

-- the fragments of the code whose home in the list passes the test
abbrev pub tested : Code → (Option Seat → Bool) → List (Option Seat) → FragmentSet
tested code test homes f = has_fragment code f && test (get_or homes f None)

-- the fragments of the code without a home in the list
abbrev pub unhomed : Code → List (Option Seat) → FragmentSet
unhomed code homes f = tested code is_none homes f

module _ (code : Code) (test : Option Seat → Bool) (homes : List (Option Seat)) (of : Homes) (are : homes ≡ map (λ f. of f.value) all_fragments) (bits : ℕ)
    (all : (f : ℕ) → bits_set bits f ≡ (ltb f 16 && tested code test homes f)) where
  home-at : (f : ℕ) → f < 16 → get_or homes f None ≡ of f
  home-at f within =
      let first : Fragment = record { value = 0; in_range = lit< tt } in
      ap (λ (l : List (Option Seat)). get_or l f None) are ∙ get_or-map (λ (g : Fragment). of g.value) all_fragments f first None within
      ∙ ap of (fragment-number f first within)

  -- the marked fragments are those whose home passes
  pub tested-set : (f : ℕ) → bits_set bits f ≡ (has_fragment code f && test (of f))
  tested-set f = elim (cases_lt f 16) [
    | inl within ↦ all f ∙ ap (λ (b : Bool). b && tested code test homes f) (lt-ltb f 16 within) ∙ ap (λ (o : Option Seat). has_fragment code f && test o) (home-at f within)
    | inr past ↦
        let few = few-fragments code in
        all f ∙ ap (λ (b : Bool). b && tested code test homes f) (le-ltb f 16 past)
        ∙ sym (ap (λ (b : Bool). b && test (of f)) (le-ltb f (fragment_count code) (omega (arith, few, past))))
  ]

pub homeless-mask : (code : Code) (homes : List (Option Seat)) (of : Homes) → homes ≡ map (λ f. of f.value) all_fragments → (bits : ℕ)
    → ((f : ℕ) → bits_set bits f ≡ (ltb f 16 && unhomed code homes f)) → bits ≡ bits_of code (homeless_in code of)
homeless-mask code homes of are bits all =
    mask-is code (homeless_in code of) (λ f past. ap (λ (b : Bool). b && is_none (of f)) (le-ltb f (fragment_count code) past)) bits
    (tested-set code is_none homes of are bits all)
