-- The order of repair is a strict order; and the list of all fragments.
use Rattle.std.proofs.Common.{[], ◌≡◌, ℕ, inl, inr, Bool, true, false, ◌&&◌, ◌||◌, nat_lt, nat_eq, List, ◌∷◌, map, flat_map, IsTrue, sym, ap, ap₂, subst, arith}
use Rattle.std.proofs.lemmas.Bool.Decides.{nat_tests}
use Rattle.std.specs.Cmp.{IsStrictWeakOrder}
use Rattle.std.specs.List.{Contains}
use Rattle.std.proofs.lemmas.Bool.{cases_eq, and_parts}
use Rattle.std.proofs.lemmas.List.Elements.{Contains-append_left, Contains-append_right, Contains-append_cases}
use Rattle.lrc_code.specs.declared.numbers.StripeNo.{StripeNo}
use Rattle.lrc_code.specs.declared.numbers.Fragment.{Fragment}
use Rattle.lrc_code.specs.Codes.{fragments, has_fragment}
use Rattle.lrc_code.proofs.NumbersLemmas.{equal_stripes, equal_fragments}
use Rattle.lrc_code.proofs.OrderLemmas.{not_before-itself}
use Rattle.lrc_topology.specs.declared.NodeInfo.{NodeInfo}
use Rattle.lrc_terms.specs.Levels.{comes_first}
use Rattle.lrc_terms.specs.Stripes.{StripeFragment}
use Rattle.lrc_terms.proofs.ListLemmas.{Contains-unmap}
use Rattle.lrc_rules.specs.States.{State, code_of}
use Rattle.lrc_rules.specs.Repairs.{needs}
use Rattle.lrc_rules.specs.Urgency.{is_repaired_before}
use Rattle.lrc_rules.proofs.MemberLemmas.{Contains-here, Contains-later, Contains-cases, not-Contains-nil, map-member}
use Rattle.lrc_terms.proofs.CodeListLemmas.{code-fragments}

-- ---- stripes by rank and number

module _ (a n b m : ℕ) where
  stripe-once : (nat_lt a b || (nat_eq a b && nat_lt n m)) ≡ true → (nat_lt b a || (nat_eq b a && nat_lt m n)) ≡ false
  stripe-once h = grind (arith, nat_tests)

  stripe-tie : (nat_lt a b || (nat_eq a b && nat_lt n m)) ≡ false → (nat_lt b a || (nat_eq b a && nat_lt m n)) ≡ false → n ≡ m
  stripe-tie h k = grind (arith, nat_tests)

  stripe-chain : (c o : ℕ) → (nat_lt a b || (nat_eq a b && nat_lt n m)) ≡ false
      → (nat_lt b c || (nat_eq b c && nat_lt m o)) ≡ false → (nat_lt a c || (nat_eq a c && nat_lt n o)) ≡ false
  stripe-chain c o h k = grind (arith, nat_tests)

module _ (ranks : StripeNo → ℕ) where
  pub stripe-order : IsStrictWeakOrder (comes_first ranks)
  stripe-order = record {
    one_way = λ s t. stripe-once (ranks s) s.value (ranks t) t.value;
    chain = λ s t u. stripe-chain (ranks s) s.value (ranks t) t.value (ranks u) u.value;
  }

  pub stripe-ties : (s t : StripeNo) → comes_first ranks s t ≡ false → comes_first ranks t s ≡ false → s ≡ t
  stripe-ties s t h k = equal_stripes s t (stripe-tie (ranks s) s.value (ranks t) t.value h k)

  pub stripe-self : (s : StripeNo) → comes_first ranks s s ≡ false
  stripe-self s = not_before-itself (comes_first ranks) stripe-order s

-- ---- fragments by rank, stripe and fragment

module _ (a n f b m g : ℕ) (linked : n ≡ m → a ≡ b) where
  abbrev goes : ℕ → ℕ → ℕ → ℕ → ℕ → ℕ → Bool
  goes a n f b m g = (nat_lt a b || (nat_eq a b && nat_lt n m)) || (nat_eq n m && nat_lt f g)

  fragment-once : goes a n f b m g ≡ true → goes b m g a n f ≡ false
  fragment-once h = elim (cases_eq n m) [
    | inl same ↦ let e = linked same in grind (arith, nat_tests)
    | inr other ↦ grind (arith, nat_tests)
  ]

  fragment-tie : goes a n f b m g ≡ false → goes b m g a n f ≡ false → (n ≡ m) × (f ≡ g)
  fragment-tie h k = elim (cases_eq n m) [
    | inl same ↦ let e = linked same in (same, grind (arith, nat_tests))
    | inr other ↦ absurd (grind (arith, nat_tests))
  ]

  fragment-chain : (c o k : ℕ) → (m ≡ o → b ≡ c) → (n ≡ o → a ≡ c)
      → goes a n f b m g ≡ false → goes b m g c o k ≡ false → goes a n f c o k ≡ false
  fragment-chain c o k next both h i = elim (cases_eq n m) [
    | inl same ↦ let e = linked same in elim (cases_eq m o) [
      | inl also ↦ let d = next also in grind (arith, nat_tests)
      | inr other ↦ grind (arith, nat_tests)
    ]
    | inr other ↦ elim (cases_eq m o) [
      | inl also ↦ let d = next also in grind (arith, nat_tests)
      | inr more ↦ elim (cases_eq n o) [
        | inl same ↦ let e = both same in grind (arith, nat_tests)
        | inr last ↦ grind (arith, nat_tests)
      ]
    ]
  ]

module _ (ranks : StripeNo → ℕ) where
  linked : (s t : StripeNo) → s.value ≡ t.value → ranks s ≡ ranks t
  linked s t same = ap ranks (equal_stripes s t same)

  pub fragment-order : IsStrictWeakOrder (is_repaired_before ranks)
  fragment-order = record {
    one_way = λ p q. fragment-once (ranks p.0) p.0.value p.1.value (ranks q.0) q.0.value q.1.value (linked p.0 q.0);
    chain = λ p q r.
        fragment-chain (ranks p.0) p.0.value p.1.value (ranks q.0) q.0.value q.1.value (linked p.0 q.0)
        (ranks r.0) r.0.value r.1.value (linked q.0 r.0) (linked p.0 r.0);
  }

  pub fragment-ties : (p q : StripeFragment) → is_repaired_before ranks p q ≡ false → is_repaired_before ranks q p ≡ false → p ≡ q
  fragment-ties p q h k =
      let same = fragment-tie (ranks p.0) p.0.value p.1.value (ranks q.0) q.0.value q.1.value (linked p.0 q.0) h k in
      ap₂ (λ (s : StripeNo) (f : Fragment). (s, f)) (equal_stripes p.0 q.0 same.0) (equal_fragments p.1 q.1 same.1)

-- ---- the list of all fragments

-- the fragments of one stripe
abbrev pub fragments_at : State → StripeNo → List StripeFragment
fragments_at st s = map (λ f. (s, f)) (fragments (code_of st s))

abbrev pub fragments_in : State → List StripeNo → List StripeFragment
fragments_in st stripes = flat_map (fragments_at st) stripes

pub at-stripe : (st : State) (s : StripeNo) (p : StripeFragment) → Contains (fragments_at st s) p → p.0 ≡ s
at-stripe st s p here = let at = Contains-unmap (λ f. (s, f)) (fragments (code_of st s)) p here in ap (λ (q : StripeFragment). q.0) (sym at.2)

pub fragments-into : (st : State) (stripes : List StripeNo) (p : StripeFragment) → Contains (fragments_in st stripes) p → Contains stripes p.0
fragments-into st [] p here = absurd (not-Contains-nil p here)
fragments-into st (s ∷ stripes) p here = elim (Contains-append_cases (fragments_at st s) (fragments_in st stripes) p here) [
  | inl now ↦ subst (Contains (s ∷ stripes)) (sym (at-stripe st s p now)) (Contains-here s stripes)
  | inr later ↦ Contains-later s p.0 stripes (fragments-into st stripes p later)
]

-- the fragment is one of its stripe's code
abbrev pub IsOwn : State → StripeFragment → Type 0
IsOwn st p = IsTrue (has_fragment (code_of st p.0) p.1.value)

pub fragments-from : (st : State) (stripes : List StripeNo) (p : StripeFragment) → IsOwn st p → Contains stripes p.0 → Contains (fragments_in st stripes) p
fragments-from st [] p own here = absurd (not-Contains-nil p.0 here)
fragments-from st (s ∷ stripes) p own here = elim (Contains-cases s p.0 stripes here) [
  | inl same ↦
      Contains-append_left (fragments_at st s) (fragments_in st stripes) p
      (subst (λ t. Contains (fragments_at st t) p) (sym same)
      (map-member (λ f. (p.0, f)) (fragments (code_of st p.0)) p.1 (code-fragments (code_of st p.0) p.1 own)))
  | inr later ↦ Contains-append_right (fragments_at st s) (fragments_in st stripes) p (fragments-from st stripes p own later)
]

-- a fragment that needs a lease is one of the code
pub needs-own : (nodes : List NodeInfo) (st : State) (s : StripeNo) (f : Fragment) → needs nodes st s f ≡ true → IsOwn st (s, f)
needs-own nodes st s f needed = (and_parts (has_fragment (code_of st s) f.value) _ needed).0
