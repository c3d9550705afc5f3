-- Which further losses are too many for a margin, and that no fewer are.
use Rattle.std.proofs.Common.{◌≡◌, ℕ, ◌+◌, ◌-◌, ◌<◌, ◌≤◌, ◌↔◌, true, not, eqb, IsTrue, List, length, count_by, lit≤, refl, sym, ◌∙◌, subst, inl, inr, arith}
use Rattle.std.specs.Bool.{IsFalse}
use Rattle.std.specs.List.{list_all, list_any}
use Rattle.std.proofs.lemmas.Bool.{cases_lt, or_left, not-false}
use Rattle.lrc_code.specs.declared.codes.Code.{Code}
use Rattle.lrc_code.specs.declared.codes.Code.TheVariants.{Wide, Narrow}
use Rattle.lrc_code.specs.declared.codes.Class.{Class}
use Rattle.lrc_code.specs.declared.codes.Class.TheVariants.{A, B, G}
use Rattle.lrc_code.specs.Codes.{fragment_count, members}
use Rattle.lrc_code.specs.Losses.{FragmentSet, IsMargin, losses_in, size_of, joined, excess}
use Rattle.lrc_code.proofs.LossesLemmas.{size_of-classes, members-below, by_counts}
use Rattle.lrc_code.proofs.SubsetsLemmas.{some_outside, are_distinct, count_by-joined, count_by-not, count_by-elsewhere}
use Rattle.lrc_code.proofs.MarginLemmas.{excess_of, margin_at, margin_some, margin_whole, losses-most, IsMargin-at, IsMargin-unique}
use Rattle.lrc_code.proofs.SizeLemmas.{recoverable_part}
use Rattle.lrc_field.specs.Stripes.{StaysDecodable, AreTooMany, outside, numbers_of}
use Rattle.lrc_field.proofs.DecodableLemmas.{decodable}
use Rattle.lrc_field.proofs.UndecodableLemmas.{recoverable}

-- ---- the classes

large : (code : Code) → (4 ≤ length (members code A)) × (4 ≤ length (members code B))
large Wide = (lit≤ tt, lit≤ tt)
large Narrow = (lit≤ tt, lit≤ tt)

distinct : (code : Code) → (are_distinct (members code A) ≡ true) × (are_distinct (members code B) ≡ true) × (are_distinct (numbers_of code) ≡ true)
distinct Wide = (refl, refl, refl)
distinct Narrow = (refl, refl, refl)

abbrev IsElsewhere : List ℕ → List ℕ → Type 0
IsElsewhere ys xs = list_all (λ f. not (list_any (eqb f) ys)) xs ≡ true

not_of_a : (code : Code) → IsElsewhere (members code A) (members code B) × IsElsewhere (members code A) (members code G)
not_of_a Wide = (refl, refl)
not_of_a Narrow = (refl, refl)

not_of_b : (code : Code) → IsElsewhere (members code B) (members code A) × IsElsewhere (members code B) (members code G)
not_of_b Wide = (refl, refl)
not_of_b Narrow = (refl, refl)

size_of-numbers : (code : Code) (m : FragmentSet) → count_by m (numbers_of code) ≡ size_of code m
size_of-numbers Wide m = refl
size_of-numbers Narrow m = refl

size_of-most : (code : Code) (m : FragmentSet) → size_of code m ≤ fragment_count code
size_of-most Wide m = let most = losses-most Wide m in omega (arith, size_of-classes Wide m, most.0, most.1, most.2)
size_of-most Narrow m = let most = losses-most Narrow m in omega (arith, size_of-classes Narrow m, most.0, most.1, most.2)

-- ---- further losses

-- further losses of this number, that are too many
abbrev pub SomeTooMany : Code → FragmentSet → ℕ → Type 0
SomeTooMany code m n = (more : FragmentSet) × (size_of code more ≡ n) × AreTooMany code m more

module _ (code : Code) (m more : FragmentSet) (apart : (f : ℕ) → f < fragment_count code → IsTrue (more f) → IsFalse (m f)) where
  together : (c : Class) → losses_in code c (joined m more) ≡ losses_in code c m + losses_in code c more
  together c = count_by-joined m more (fragment_count code) apart (members code c) (members-below code c)

  size_of-together : size_of code (joined m more) ≡ size_of code m + size_of code more
  size_of-together = omega (arith, size_of-classes code (joined m more), size_of-classes code m, size_of-classes code more, together A, together B, together G)

  -- no more than the margin are never too many
  few_stay : excess code m ≤ 2 → size_of code more ≤ margin_at code m → excess code (joined m more) ≤ 2
  unfolding excess_of
  few_stay few within =
      let size = size_of-classes code more in
      let most = (losses-most code (joined m more)).2 in
      elim (cases_lt 0 (losses_in code A m + losses_in code B m)) [
        | inl some ↦ let e = margin_some (losses_in code A m) (losses_in code B m) (losses_in code G m) some in omega (arith, few, within, size, most, e, together A, together B, together G)
        | inr none ↦ let e = margin_whole (losses_in code A m) (losses_in code B m) (losses_in code G m) none in omega (arith, few, within, size, most, e, none, together A, together B, together G)
      ]

  too_many : 2 < excess code (joined m more) → AreTooMany code m more
  too_many many = record {
    further = apart;
    undecodable = λ good. let few = (by_counts code (joined m more)).0 (recoverable code (joined m more) good) in omega (arith, few, many);
  }

module _ (code : Code) (m : FragmentSet) (n : ℕ) where
  some_of_a : losses_in code A m + n ≤ 4 → 2 < ((losses_in code A m + n) - 1) + (losses_in code B m - 1) + losses_in code G m → SomeTooMany code m n
  some_of_a room many =
      let s = some_outside m (members code A) n (distinct code).0 (omega (arith, room, count_by-not m (members code A), (large code).0)) in
      let b : losses_in code B s.some ≡ 0 = count_by-elsewhere s.some (members code A) (members code B) s.inside (not_of_a code).0 in
      let g : losses_in code G s.some ≡ 0 = count_by-elsewhere s.some (members code A) (members code G) s.inside (not_of_a code).1 in
      let a : losses_in code A s.some ≡ n = s.counted in
      let apart : (f : ℕ) → f < fragment_count code → IsTrue (s.some f) → IsFalse (m f) = λ f _ hit. s.apart f hit in (
        s.some,
        omega (arith, size_of-classes code s.some, a, b, g),
        too_many code m s.some apart (omega (arith, many, a, b, g, together code m s.some apart A, together code m s.some apart B, together code m s.some apart G)),
      )

  some_of_b : losses_in code B m + n ≤ 4 → 2 < (losses_in code A m - 1) + ((losses_in code B m + n) - 1) + losses_in code G m → SomeTooMany code m n
  some_of_b room many =
      let s = some_outside m (members code B) n (distinct code).1 (omega (arith, room, count_by-not m (members code B), (large code).1)) in
      let a : losses_in code A s.some ≡ 0 = count_by-elsewhere s.some (members code B) (members code A) s.inside (not_of_b code).0 in
      let g : losses_in code G s.some ≡ 0 = count_by-elsewhere s.some (members code B) (members code G) s.inside (not_of_b code).1 in
      let b : losses_in code B s.some ≡ n = s.counted in
      let apart : (f : ℕ) → f < fragment_count code → IsTrue (s.some f) → IsFalse (m f) = λ f _ hit. s.apart f hit in (
        s.some,
        omega (arith, size_of-classes code s.some, a, b, g),
        too_many code m s.some apart (omega (arith, many, a, b, g, together code m s.some apart A, together code m s.some apart B, together code m s.some apart G)),
      )

-- one more than the margin: in group A, or in group B if it alone has losses
one_more_at : (code : Code) (m : FragmentSet) → excess code m ≤ 2 → SomeTooMany code m (margin_at code m + 1)
unfolding excess_of
one_more_at code m few =
    let a = losses_in code A m in
    let b = losses_in code B m in
    let c = losses_in code G m in
    let most = (losses-most code m).2 in
    elim (cases_lt 0 a) [
      | inl some ↦ let e = margin_some a b c (omega (arith, some)) in some_of_a code m (margin_at code m + 1) (omega (arith, few, e, some, most)) (omega (arith, few, e, some, most))
      | inr none ↦ elim (cases_lt 0 b) [
        | inl some ↦ let e = margin_some a b c (omega (arith, some)) in some_of_b code m (margin_at code m + 1) (omega (arith, few, e, none, some, most)) (omega (arith, few, e, none, some, most))
        | inr whole ↦ let e = margin_whole a b c (omega (arith, none, whole)) in some_of_a code m (margin_at code m + 1) (omega (arith, few, e, none, whole, most)) (omega (arith, few, e, none, whole, most))
      ]
    ]

-- ---- a part of further losses

record Part (code : Code) (more : FragmentSet) (n : ℕ) : Type 0 where
  pub part : FragmentSet
  pub within : (f : ℕ) → IsTrue (part f) → IsTrue (more f)
  pub size : size_of code part ≡ n

part_of : (code : Code) (more : FragmentSet) (n : ℕ) → n ≤ size_of code more → Part code more n
part_of code more n few =
    let xs = numbers_of code in
    let in_all = count_by-not more xs in
    let not_in = count_by-not (outside more) xs in
    let size = size_of-numbers code more in
    let s = some_outside (outside more) xs n (distinct code).2 (omega (arith, few, in_all, not_in, size)) in
    record { part = s.some; within = λ f hit. not-false (more f) (s.apart f hit); size = sym (size_of-numbers code s.some) ∙ s.counted }

module _ (code : Code) (m more : FragmentSet) (t : ℕ) (stays : StaysDecodable code m t) (size : size_of code more ≡ t + 1) (many : AreTooMany code m more) where
  few_now : excess code m ≤ 2
  few_now =
      let p = part_of code more t (omega (arith, size)) in
      let good = recoverable code (joined m p.part) (stays p.part (λ f low hit. many.further f low (p.within f hit)) p.size) in
      (by_counts code m).0 (recoverable_part code (joined m p.part) m (λ f _ hit. or_left (m f) (p.part f) hit) good)

  no_less : t ≤ margin_at code m
  no_less = (IsMargin-at code m few_now).greatest t (let all = size_of-most code (joined m more) in let sum = size_of-together code m more many.further in omega (arith, all, sum, size))
      (λ further apart is. recoverable code (joined m further) (stays further apart is))

  no_more : margin_at code m ≤ t
  no_more = elim (cases_lt (margin_at code m) (t + 1)) [
    | inl less ↦ omega (arith, less)
    | inr enough ↦ absurd (many.undecodable (decodable code (joined m more) ((by_counts code (joined m more)).1 (few_stay code m more many.further few_now (omega (arith, size, enough))))))
  ]

  margin_is : IsMargin code m t
  margin_is = let up = no_less in let down = no_more in subst (λ n. IsMargin code m n) (omega (arith, up, down)) (IsMargin-at code m few_now)

-- The margin is the number that is withstood, of which one more can be too many.
pub margin_one_more : (code : Code) (m : FragmentSet) (t : ℕ) → IsMargin code m t ↔ (StaysDecodable code m t × SomeTooMany code m (t + 1))
margin_one_more code m t = (to, from) where
  to : IsMargin code m t → StaysDecodable code m t × SomeTooMany code m (t + 1)
  to margin =
      let few = (by_counts code m).0 margin.recoverable in (
        λ more apart size. decodable code (joined m more) (margin.withstood more apart size),
        subst (λ n. SomeTooMany code m (n + 1)) (IsMargin-unique code m (margin_at code m) t (IsMargin-at code m few) margin) (one_more_at code m few),
      )

  from : StaysDecodable code m t × SomeTooMany code m (t + 1) → IsMargin code m t
  from (stays, some) = margin_is code m some.0 t stays some.1 some.2
