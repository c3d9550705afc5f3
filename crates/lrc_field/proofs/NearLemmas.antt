-- A fragment that its local group rebuilds, and one in whose group another fragment is lost.
use Rattle.std.proofs.Common.{◌≡◌, ℕ, ◌<◌, Bool, true, false, not, ◌&&◌, ◌||◌, eqb, ltb, nat_eq, List, [], ◌∷◌, filter, refl, sym, ap, ◌∙◌, inl, inr, arith}
use Rattle.std.specs.List.{list_all, list_any}
use Rattle.std.proofs.lemmas.Bool.{cases_Bool, and_parts, and_from, or_cases, or_parts, eqb-true, eq-eqb, ltb-true, not-true, not-false, agree_below, agree_below_at}
use Rattle.lrc_code.specs.declared.codes.Code.{Code}
use Rattle.lrc_code.specs.declared.codes.Code.TheVariants.{Wide, Narrow}
use Rattle.lrc_code.specs.declared.codes.Class.TheVariants.{A, B}
use Rattle.lrc_code.specs.declared.numbers.Fragment.{Fragment}
use Rattle.lrc_code.specs.Codes.{fragments, fragment_count, members, class_of, are_one_class, is_local_class, is_in_group, others}
use Rattle.std.specs.Option.{option_map_or}
use Rattle.lrc_code.specs.Losses.{FragmentSet, losses_in, is_local}
use Rattle.lrc_code.proofs.LossesLemmas.{members-below}
use Rattle.lrc_code.proofs.SubsetsLemmas.{count_by-within}
use Rattle.lrc_field.proofs.MemberLemmas.{only}
use Rattle.lrc_field.proofs.LeftOutLemmas.{IsNear}

-- the second is another member of the first one's class
abbrev pub is_beside : Code → ℕ → ℕ → Bool
is_beside code f g = are_one_class (class_of code f) (class_of code g) && not (nat_eq f g)

-- the fragment is in a local group, and no other member is in the set
pub record IsAlone (code : Code) (m : FragmentSet) (f : ℕ) : Type 0 where
  pub grouped : option_map_or is_local_class (class_of code f) false ≡ true
  pub none : (g : ℕ) → g < fragment_count code → is_beside code f g ≡ true → m g ≡ false

none_kept : (t m : ℕ → Bool) (fs : List Fragment) → list_any (λ g. m g.value) (filter (λ g. t g.value) fs) ≡ false → (g : ℕ) → list_any (λ h. eqb g h.value) fs ≡ true → t g ≡ true → m g ≡ false
none_kept t m [] none g has hit = absurd (let e : false ≡ true = has in cc)
none_kept t m (x ∷ xs) none g has hit = elim (or_cases (eqb g x.value) (list_any (λ h. eqb g h.value) xs) has) [
  | inl here ↦
      let is = eqb-true g x.value here in
      let kept : t x.value ≡ true = ap t (sym is) ∙ hit in
      let e : (m x.value || list_any (λ g. m g.value) (filter (λ g. t g.value) xs)) ≡ false = rw kept at none in
      ap m is ∙ (or_parts (m x.value) (list_any (λ g. m g.value) (filter (λ g. t g.value) xs)) e).0
  | inr later ↦ elim (cases_Bool (t x.value)) [
    | inl kept ↦
        let e : (m x.value || list_any (λ g. m g.value) (filter (λ g. t g.value) xs)) ≡ false = rw kept at none in
        none_kept t m xs (or_parts (m x.value) (list_any (λ g. m g.value) (filter (λ g. t g.value) xs)) e).1 g later hit
    | inr dropped ↦
        let e : list_any (λ g. m g.value) (filter (λ g. t g.value) xs) ≡ false = rw dropped at none in
        none_kept t m xs e g later hit
  ]
]

all_listed : (code : Code) → agree_below (λ g. list_any (λ (h : Fragment). eqb g h.value) (fragments code)) (λ _. true) (fragment_count code) ≡ true
all_listed Wide = refl
all_listed Narrow = refl

-- a fragment of the list that passes both tests
record Kept (t m : ℕ → Bool) (n : ℕ) : Type 0 where
  pub p : ℕ
  pub within : p < n
  pub kept : t p ≡ true
  pub hit : m p ≡ true

some_kept : (t m : ℕ → Bool) (n : ℕ) (fs : List Fragment) → list_any (λ g. m g.value) (filter (λ g. t g.value) fs) ≡ true → list_all (λ h. ltb h.value n) fs ≡ true → Kept t m n
some_kept t m n [] some low = absurd (let e : false ≡ true = some in cc)
some_kept t m n (x ∷ xs) some low =
    let l = and_parts (ltb x.value n) (list_all (λ h. ltb h.value n) xs) low in
    elim (cases_Bool (t x.value)) [
      | inl kept ↦
          let e : (m x.value || list_any (λ g. m g.value) (filter (λ g. t g.value) xs)) ≡ true = rw kept at some in
          elim (or_cases (m x.value) (list_any (λ g. m g.value) (filter (λ g. t g.value) xs)) e) [
            | inl hit ↦ record { p = x.value; within = ltb-true x.value n l.0; kept = kept; hit = hit }
            | inr later ↦ some_kept t m n xs later l.1
          ]
      | inr dropped ↦
          let e : list_any (λ g. m g.value) (filter (λ g. t g.value) xs) ≡ true = rw dropped at some in
          some_kept t m n xs e l.1
    ]

fragments_low : (code : Code) → list_all (λ (h : Fragment). ltb h.value (fragment_count code)) (fragments code) ≡ true
fragments_low Wide = refl
fragments_low Narrow = refl

-- fragments of one class count alike, and those of no local group don't count
alike : Code → ℕ → ℕ → Bool
alike code f p = not (are_one_class (class_of code f) (class_of code p)) || (eqb (losses_in code A (only f)) (losses_in code A (only p)) && eqb (losses_in code B (only f)) (losses_in code B (only p)))

all_alike : (code : Code) → agree_below (λ f. agree_below (alike code f) (λ _. true) (fragment_count code)) (λ _. true) (fragment_count code) ≡ true
unfolding alike
all_alike Wide = refl
all_alike Narrow = refl

same_counts : (code : Code) (f p : ℕ) → f < fragment_count code → p < fragment_count code → are_one_class (class_of code f) (class_of code p) ≡ true → (losses_in code A (only f) ≡ losses_in code A (only p)) × (losses_in code B (only f) ≡ losses_in code B (only p))
unfolding alike
same_counts code f p low_f low_p one =
    let all = agree_below_at (alike code f) (λ _. true) (fragment_count code) p (agree_below_at (λ f. agree_below (alike code f) (λ _. true) (fragment_count code)) (λ _. true) (fragment_count code) f (all_alike code) low_f) low_p in
    elim (or_cases (not (are_one_class (class_of code f) (class_of code p))) (eqb (losses_in code A (only f)) (losses_in code A (only p)) && eqb (losses_in code B (only f)) (losses_in code B (only p))) all) [
      | inl differ ↦ absurd (let e : not true ≡ true = rw one at differ in cc)
      | inr both ↦
          let parts = and_parts (eqb (losses_in code A (only f)) (losses_in code A (only p))) (eqb (losses_in code B (only f)) (losses_in code B (only p))) both in
          (eqb-true _ _ parts.0, eqb-true _ _ parts.1)
    ]

ungrouped : Code → ℕ → Bool
ungrouped code f = option_map_or is_local_class (class_of code f) false || (eqb (losses_in code A (only f)) 0 && eqb (losses_in code B (only f)) 0)

all_ungrouped : (code : Code) → agree_below (ungrouped code) (λ _. true) (fragment_count code) ≡ true
unfolding ungrouped
all_ungrouped Wide = refl
all_ungrouped Narrow = refl

no_counts : (code : Code) (f : ℕ) → f < fragment_count code → option_map_or is_local_class (class_of code f) false ≡ false → (losses_in code A (only f) ≡ 0) × (losses_in code B (only f) ≡ 0)
unfolding ungrouped
no_counts code f low none =
    let all = agree_below_at (ungrouped code) (λ _. true) (fragment_count code) f (all_ungrouped code) low in
    elim (or_cases (option_map_or is_local_class (class_of code f) false) (eqb (losses_in code A (only f)) 0 && eqb (losses_in code B (only f)) 0) all) [
      | inl grouped ↦ absurd (let e : true ≡ false = sym grouped ∙ none in cc)
      | inr both ↦ let parts = and_parts (eqb (losses_in code A (only f)) 0) (eqb (losses_in code B (only f)) 0) both in (eqb-true _ _ parts.0, eqb-true _ _ parts.1)
    ]

-- another lost member of the class is near
near_beside : (code : Code) (o : FragmentSet) (f p : ℕ) → f < fragment_count code → p < fragment_count code → are_one_class (class_of code f) (class_of code p) ≡ true → o p ≡ true → IsNear code o f p
near_beside code o f p low_f low_p one hit =
    let n = fragment_count code in
    let same = same_counts code f p low_f low_p one in
    let inside : (g : ℕ) → eqb g p ≡ true → (o g && eqb g p) ≡ true = λ g here. and_from (o g) (eqb g p) (ap o (eqb-true g p here) ∙ hit) here in
    let a = count_by-within (λ g. o g && eqb g p) (only p) n (λ g few here. inside g here) (members code A) (members-below code A) in
    let b = count_by-within (λ g. o g && eqb g p) (only p) n (λ g few here. inside g here) (members code B) (members-below code B) in
    record { within = low_p; near_a = omega (arith, same.0, a); near_b = omega (arith, same.1, b) }

-- a fragment of no local group needs none
near_none : (code : Code) (o : FragmentSet) (f : ℕ) → f < fragment_count code → option_map_or is_local_class (class_of code f) false ≡ false → IsNear code o f f
near_none code o f low none =
    let zero_each = no_counts code f low none in
    record { within = low; near_a = omega (arith, zero_each.0); near_b = omega (arith, zero_each.1) }

pub alone_from : (code : Code) (m : FragmentSet) (f : Fragment) → is_local code m f ≡ true → IsAlone code m f.value
alone_from code m f local =
    let parts = and_parts (is_in_group code f) (not (list_any (λ g. m g.value) (others code f))) local in
    record {
      grouped = parts.0;
      none = λ g low beside. none_kept (is_beside code f.value) m (fragments code) (not-true (list_any (λ g. m g.value) (others code f)) parts.1) g
          (agree_below_at (λ g. list_any (λ (h : Fragment). eqb g h.value) (fragments code)) (λ _. true) (fragment_count code) g (all_listed code) low) beside;
    }

second : (a b : Bool) → a ≡ true → (a && b) ≡ false → b ≡ false
second true b is none = none
second false b is none = absurd (let e : false ≡ true = is in cc)

pub apart_turned : (f g : ℕ) → eqb f g ≡ false → eqb g f ≡ false
apart_turned f g apart = elim (cases_Bool (eqb g f)) [
  | inr other ↦ other
  | inl here ↦ absurd (let e : true ≡ false = sym (eq-eqb f g (sym (eqb-true g f here))) ∙ apart in cc)
]

-- some fragment that is near
pub record SomeNear (code : Code) (o : FragmentSet) (f : ℕ) : Type 0 where
  pub p : ℕ
  pub near : IsNear code o f p

pub near_from : (code : Code) (m o : FragmentSet) (f : Fragment) → f.value < fragment_count code → ((g : ℕ) → g < fragment_count code → m g ≡ true → eqb g f.value ≡ false → o g ≡ true) → is_local code m f ≡ false → SomeNear code o f.value
near_from code m o f low within absent = elim (cases_Bool (is_in_group code f)) [
  | inr none ↦ record { p = f.value; near = near_none code o f.value low none }
  | inl grouped ↦
      let e = second (is_in_group code f) (not (list_any (λ g. m g.value) (others code f))) grouped absent in
      let k = some_kept (is_beside code f.value) m (fragment_count code) (fragments code) (not-false (list_any (λ g. m g.value) (others code f)) e) (fragments_low code) in
      let beside = and_parts (are_one_class (class_of code f.value) (class_of code k.p)) (not (nat_eq f.value k.p)) k.kept in
      record { p = k.p; near = near_beside code o f.value k.p low k.within beside.0 (within k.p k.within k.hit (apart_turned f.value k.p (not-true (nat_eq f.value k.p) beside.1))) }
]
