-- The chains of a table after a number is added or removed.
use Rattle.std.proofs.Common.{◌≡◌, ◌≢◌, ◌⊎◌, ◌<◌, ◌≤◌, ℕ, zero, suc, inl, inr, not, if◌then◌else◌, nat_eq, List, ◌∷◌, length, arith, sym, ◌∙◌, subst}
use Rattle.std.specs.List.{Contains}
use Rattle.std.proofs.lemmas.Bool.{cases_eq, eq-eqb, ne_eqb}
use Rattle.slab.proofs.SlabLemmas.{Contains-cons_cases}
use Rattle.lrc_leases.specs.Chains.{ChainTable, at, after_at, before_at, chain_in, without, AreOnce, AreLinked, AreChained}
use Rattle.lrc_terms.proofs.LeaseLemmas.{Contains-filter}
use Rattle.lrc_leases.proofs.ChainLemmas.{without-once, once-few, walk-linked, positive, first-in, after-in, before-first, before-in, linked-more, others-more, linked-less, others-less}

-- ---- the chains of a table

-- where these are the linked numbers of each chain, they are its walk
module _ (t : ChainTable) (f : ℕ → List ℕ) (linked : (d : ℕ) → AreLinked (after_at t.links) (before_at t.links) 0 (at t.firsts d) (f d))
    (once : (d : ℕ) → AreOnce (f d)) (low : (d k : ℕ) → Contains (f d) k → k < length t.links) where
  pub walked : (d : ℕ) → chain_in t d ≡ f d
  walked d =
      walk-linked (after_at t.links) (before_at t.links) (length t.links) 0 (at t.firsts d) (f d) (linked d)
      (once-few (length t.links) (f d) (once d) (λ k there.
      (positive (after_at t.links) (before_at t.links) 0 (at t.firsts d) (f d) (linked d) k there, omega (arith, low d k there))))

  pub chained : ((c d k : ℕ) → Contains (f c) k → Contains (f d) k → c ≡ d) → AreChained t
  chained apart = record {
    linked = λ d. subst (AreLinked (after_at t.links) (before_at t.links) 0 (at t.firsts d)) (sym (walked d)) (linked d);
    once = λ d. subst AreOnce (sym (walked d)) (once d);
    low = λ d k there. low d k (subst (λ ks. Contains ks k) (walked d) there);
    apart = λ c d k here there. apart c d k (subst (λ ks. Contains ks k) (walked c) here) (subst (λ ks. Contains ks k) (walked d) there);
  }

-- one more number at the front of a chain
module _ (t next : ChainTable) (c m : ℕ) (kept : AreChained t) (some : 0 < m) (fresh : (d k : ℕ) → Contains (chain_in t d) k → k ≢ m)
    (small : m < length next.links) (longer : length t.links ≤ length next.links)
    (firsts : (i : ℕ) → at next.firsts i ≡ (if nat_eq i c then m else at t.firsts i))
    (afters : (i : ℕ) → after_at next.links i ≡ (if nat_eq i m then at t.firsts c else after_at t.links i))
    (befores : (i : ℕ) → before_at next.links i ≡ (if nat_eq i (at t.firsts c) then m else (if nat_eq i m then 0 else before_at t.links i))) where
  abbrev more : ℕ → List ℕ
  more d = if nat_eq d c then m ∷ chain_in t d else chain_in t d

  first-away : (d k : ℕ) → d ≢ c → Contains (chain_in t d) k → k ≢ at t.firsts c
  first-away d k other there same =
      other (kept.apart d c k there (subst (λ i. Contains (chain_in t c) i) (sym same)
      (first-in (after_at t.links) (before_at t.links) 0 (at t.firsts c) (chain_in t c) (kept.linked c)
      (subst (λ i. 0 < i) same (positive (after_at t.links) (before_at t.links) 0 (at t.firsts d) (chain_in t d) (kept.linked d) k there)))))

  more-linked : (d : ℕ) → AreLinked (after_at next.links) (before_at next.links) 0 (at next.firsts d) (more d)
  more-linked d = elim (cases_eq d c) [
    | inl same ↦ rw (firsts d, eq-eqb d c same)
        (subst (λ i. AreLinked (after_at next.links) (before_at next.links) 0 m (m ∷ chain_in t i)) (sym same)
        (linked-more (after_at t.links) (before_at t.links) (after_at next.links) (before_at next.links) m (at t.firsts c) some afters befores (chain_in t c)
        (kept.linked c) (kept.once c) (fresh c)))
    | inr other ↦ rw (firsts d, ne_eqb d c other)
        (others-more (after_at t.links) (before_at t.links) (after_at next.links) (before_at next.links) m (at t.firsts c) some afters befores
        (at t.firsts d) (chain_in t d) (kept.linked d)
        (λ k there. (fresh d k there, first-away d k other there)))
  ]

  more-once : (d : ℕ) → AreOnce (more d)
  more-once d = elim (cases_eq d c) [
    | inl same ↦ rw (eq-eqb d c same) ((λ k there e. fresh d k there (sym e)), kept.once d)
    | inr other ↦ rw (ne_eqb d c other) (kept.once d)
  ]

  -- what is in a chain now is the new number or was there
  more-there : (d k : ℕ) → Contains (more d) k → ((d ≡ c) × (k ≡ m)) ⊎ Contains (chain_in t d) k
  more-there d k there = elim (cases_eq d c) [
    | inl same ↦ elim (Contains-cons_cases m k (chain_in t d) (rw (eq-eqb d c same) at there)) [
      | inl new ↦ inl (same, sym new)
      | inr old ↦ inr old
    ]
    | inr other ↦ inr (rw (ne_eqb d c other) at there)
  ]

  more-low : (d k : ℕ) → Contains (more d) k → k < length next.links
  more-low d k there = elim (more-there d k there) [
    | inl new ↦ omega (arith, new.1, small)
    | inr old ↦ omega (arith, kept.low d k old, longer)
  ]

  more-apart : (d e k : ℕ) → Contains (more d) k → Contains (more e) k → d ≡ e
  more-apart d e k here there = elim (more-there d k here) [
    | inl new ↦ elim (more-there e k there) [
      | inl both ↦ new.0 ∙ sym both.0
      | inr old ↦ absurd (fresh e k old new.1)
    ]
    | inr old ↦ elim (more-there e k there) [
      | inl new ↦ absurd (fresh d k old new.1)
      | inr both ↦ kept.apart d e k old both
    ]
  ]

  pub chained-more : AreChained next
  chained-more = chained next more more-linked more-once more-low more-apart

  pub walked-more : (d : ℕ) → chain_in next d ≡ (if nat_eq d c then m ∷ chain_in t d else chain_in t d)
  walked-more d = walked next more more-linked more-once more-low d

-- a number taken out of its chain
module _ (t next : ChainTable) (c m : ℕ) (kept : AreChained t) (there : Contains (chain_in t c) m) (longer : length t.links ≤ length next.links)
    (firsts : (i : ℕ) → at next.firsts i ≡ (if nat_eq i c then (if nat_eq (at t.firsts c) m then after_at t.links m else at t.firsts c) else at t.firsts i))
    (afters : (i : ℕ) → after_at next.links i ≡ (if nat_eq i (before_at t.links m) then after_at t.links m else after_at t.links i))
    (befores : (i : ℕ) → before_at next.links i ≡ (if nat_eq i (after_at t.links m) then before_at t.links m else before_at t.links i)) where
  abbrev less : ℕ → List ℕ
  less d = if nat_eq d c then without m (chain_in t d) else chain_in t d

  -- the neighbours of the number are in no other chain
  away : (d k i : ℕ) → d ≢ c → Contains (chain_in t d) k → (0 < i → Contains (chain_in t c) i) → k ≢ i
  away d k i other among own same =
      other (kept.apart d c k among (subst (λ j. Contains (chain_in t c) j) (sym same)
      (own (subst (λ j. 0 < j) same (positive (after_at t.links) (before_at t.links) 0 (at t.firsts d) (chain_in t d) (kept.linked d) k among)))))

  before-own : 0 < before_at t.links m → Contains (chain_in t c) (before_at t.links m)
  before-own some = elim (cases_eq (at t.firsts c) m) [
    | inl same ↦
        let none = before-first (after_at t.links) (before_at t.links) 0 (at t.firsts c) (chain_in t c) (kept.linked c) m there same in
        absurd (omega (arith, none, some))
    | inr other ↦ before-in (after_at t.links) (before_at t.links) 0 (at t.firsts c) (chain_in t c) (kept.linked c) m there other
  ]

  less-linked : (d : ℕ) → AreLinked (after_at next.links) (before_at next.links) 0 (at next.firsts d) (less d)
  less-linked d = elim (cases_eq d c) [
    | inl same ↦ rw (firsts d, eq-eqb d c same)
        (subst
        (λ i. AreLinked (after_at next.links) (before_at next.links) 0 (if nat_eq (at t.firsts c) m then after_at t.links m else at t.firsts c) (without m (chain_in t i)))
        (sym same)
        (linked-less (after_at t.links) (before_at t.links) (after_at next.links) (before_at next.links) m afters befores 0 (at t.firsts c) (chain_in t c)
        (kept.linked c) (kept.once c)
        (λ k among e.
        let some = positive (after_at t.links) (before_at t.links) 0 (at t.firsts c) (chain_in t c) (kept.linked c) k among in
        omega (arith, some, e)) there))
    | inr other ↦ rw (firsts d, ne_eqb d c other)
        (others-less (after_at t.links) (before_at t.links) (after_at next.links) (before_at next.links) m afters befores (at t.firsts d) (chain_in t d) (kept.linked d)
        (λ k among. (
          away d k (after_at t.links m) other among (after-in (after_at t.links) (before_at t.links) 0 (at t.firsts c) (chain_in t c) (kept.linked c) m there),
          away d k (before_at t.links m) other among before-own,
        )))
  ]

  less-once : (d : ℕ) → AreOnce (less d)
  less-once d = elim (cases_eq d c) [
    | inl same ↦ rw (eq-eqb d c same) (without-once m (chain_in t d) (kept.once d))
    | inr other ↦ rw (ne_eqb d c other) (kept.once d)
  ]

  less-there : (d k : ℕ) → Contains (less d) k → Contains (chain_in t d) k
  less-there d k among = elim (cases_eq d c) [
    | inl same ↦ (Contains-filter (λ i. not (nat_eq i m)) (chain_in t d) k (rw (eq-eqb d c same) at among)).0
    | inr other ↦ rw (ne_eqb d c other) at among
  ]

  less-low : (d k : ℕ) → Contains (less d) k → k < length next.links
  less-low d k among = omega (arith, kept.low d k (less-there d k among), longer)

  pub chained-less : AreChained next
  chained-less = chained next less less-linked less-once less-low (λ d e k here among. kept.apart d e k (less-there d k here) (less-there e k among))

  pub walked-less : (d : ℕ) → chain_in next d ≡ (if nat_eq d c then without m (chain_in t d) else chain_in t d)
  walked-less d = walked next less less-linked less-once less-low d

-- ---- each number has a link

module _ (t : ChainTable) (kept : AreChained t) where
  some-low : (c n i : ℕ) → 0 < n → length t.links ≤ n → (0 < i → Contains (chain_in t c) i) → i < n
  some-low c n zero some long own = some
  some-low c n (suc i) some long own = omega (arith, kept.low c (suc i) (own (omega arith)), long)

  pub first-low : (c n : ℕ) → 0 < n → length t.links ≤ n → at t.firsts c < n
  first-low c n some long =
      some-low c n (at t.firsts c) some long (first-in (after_at t.links) (before_at t.links) 0 (at t.firsts c) (chain_in t c) (kept.linked c))

  pub after-low : (c m : ℕ) → Contains (chain_in t c) m → after_at t.links m < length t.links
  after-low c m there =
      some-low c (length t.links) (after_at t.links m) (omega (arith, kept.low c m there)) (omega arith)
      (after-in (after_at t.links) (before_at t.links) 0 (at t.firsts c) (chain_in t c) (kept.linked c) m there)

  pub before-low : (c m : ℕ) → Contains (chain_in t c) m → before_at t.links m < length t.links
  before-low c m there = some-low c (length t.links) (before_at t.links m) (omega (arith, kept.low c m there)) (omega arith) (λ some. elim (cases_eq (at t.firsts c) m) [
    | inl same ↦
        let none = before-first (after_at t.links) (before_at t.links) 0 (at t.firsts c) (chain_in t c) (kept.linked c) m there same in
        absurd (omega (arith, none, some))
    | inr other ↦ before-in (after_at t.links) (before_at t.links) 0 (at t.firsts c) (chain_in t c) (kept.linked c) m there other
  ])
