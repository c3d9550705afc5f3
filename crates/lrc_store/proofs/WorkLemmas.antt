-- The order of repair: what the stripes that are kept list by rank is what the state says.
use Rattle.std.proofs.Common.{[], ◌≡◌, ◌≢◌, ℕ, ◌<◌, inl, inr, Bool, true, false, not, if◌then◌else◌, List, ◌∷◌, map, filter, find, get_or, Option, Some, None, is_none, option_map, refl, sym, ap, ap₂, ◌∙◌, subst, arith, lit<}
use Rattle.std.specs.Option.{option_or}
use Rattle.std.specs.List.{AllPairs, AllByRecursion, Contains}
use Rattle.std.proofs.lemmas.Bool.{cases_Bool, and_parts, and_from, or_left, not-true, lt-ltb, ltb-true, eq-eqb, false_from_ne_true}
use Rattle.std.proofs.lemmas.List.Elements.{All-contains, recursion_from_All}
use Rattle.std.proofs.lemmas.List.Kept.{AllPairs-filter}
use Rattle.std.proofs.lemmas.List.Folds.{find-append}
use Rattle.std.proofs.lemmas.Option.{same_Some}
use Rattle.lrc_code.specs.declared.codes.Code.{Code}
use Rattle.lrc_code.specs.declared.codes.Code.TheVariants.{Wide, Narrow}
use Rattle.lrc_code.specs.declared.numbers.StripeNo.{StripeNo}
use Rattle.lrc_code.specs.declared.numbers.Fragment.{Fragment}
use Rattle.lrc_code.specs.Numbers.{same_stripe}
use Rattle.lrc_code.specs.Codes.{fragment, fragments, fragment_count, has_fragment, all_fragments}
use Rattle.lrc_code.proofs.OrderLemmas.{find-first}
use Rattle.lrc_topology.specs.declared.NodeInfo.{NodeInfo}
use Rattle.lrc_terms.specs.declared.level.Level.{Level}
use Rattle.lrc_terms.specs.Levels.{homes_of, needs_in, has_some, comes_first, is_whole, level_if}
use Rattle.lrc_stripes.specs.Stored.{Stored, has_work as stripe_has_work, level_shown, AreAtRisk}
use Rattle.lrc_terms.specs.Stripes.{StripeFragment, StripeLevel}
use Rattle.lrc_terms.proofs.LevelLemmas.{has_some-from}
use Rattle.lrc_terms.proofs.ListLemmas.{AllPairs-map, AllPairs-append, Contains-unmap}
use Rattle.lrc_rules.specs.States.{State, has_stripe, code_of, lease_of, drains_at, rank, level}
use Rattle.lrc_rules.specs.Repairs.{needs}
use Rattle.lrc_rules.specs.Urgency.{by_rank, has_work, risk, is_grantable, stripe_fragments, is_repaired_before, next_of}
use Rattle.lrc_store.specs.Stores.{stored_of}
use Rattle.lrc_store.specs.Repairing.{HaveGrantable}
use Rattle.lrc_rules.proofs.MemberLemmas.{All-members, not-Contains-nil, AllPairs-head, AllPairs-tail, filter-member, member-filter, list_any-member, member-list_any, map-member}
use Rattle.lrc_rules.proofs.RisingLemmas.{IsStrict, strict-nil, first-least, strict-in_order}
use Rattle.lrc_rules.proofs.UrgencyLemmas.{stripe-order, stripe-ties, stripe-self, fragment-order, fragment-ties, fragments_at, fragments_in, at-stripe, fragments-into, IsOwn, fragments-from, needs-own}
use Rattle.lrc_terms.proofs.CodeListLemmas.{code-fragments, code-rising}
use Rattle.lrc_store.proofs.NodeStateLemmas.{rank-kept, level-kept, work-kept}
use Rattle.lrc_rules.proofs.LookUpLemmas.{stripe-there}

module _ (st : State) (ranks : StripeNo → ℕ) where
  at-lower : (s : StripeNo) (f g : Fragment) → f.value < g.value → is_repaired_before ranks (s, f) (s, g) ≡ true
  at-lower s f g below = rw (stripe-self ranks s, eq-eqb s.value s.value refl) (lt-ltb f.value g.value below)

  at-strict : (s : StripeNo) → IsStrict (is_repaired_before ranks) (fragments_at st s)
  at-strict s =
      let fs = fragments (code_of st s) in
      AllPairs-map (λ p q. is_repaired_before ranks p q ≡ true) (λ f. (s, f)) fs
      (λ i j d below within. at-lower s (get_or fs i d) (get_or fs j d) (code-rising (code_of st s) i j d below within))

  pub fragments-strict : (stripes : List StripeNo) → IsStrict (comes_first ranks) stripes
      → IsStrict (is_repaired_before ranks) (fragments_in st stripes)
  fragments-strict [] strict = strict-nil (is_repaired_before ranks)
  fragments-strict (s ∷ stripes) strict =
      let ahead = AllPairs-head (λ s t. comes_first ranks s t ≡ true) s stripes strict in
      AllPairs-append (λ p q. is_repaired_before ranks p q ≡ true) (fragments_at st s) (fragments_in st stripes) (at-strict s)
      (fragments-strict stripes (AllPairs-tail (λ s t. comes_first ranks s t ≡ true) s stripes strict))
      (All-members _ (fragments_at st s) (λ p here. All-members (λ q. is_repaired_before ranks p q ≡ true) (fragments_in st stripes) (λ q there.
      let later = All-contains (λ t. comes_first ranks s t ≡ true) stripes q.0 ahead (fragments-into st stripes q there) in
      or_left (comes_first ranks p.0 q.0) _ (subst (λ t. comes_first ranks t q.0 ≡ true) (sym (at-stripe st s p here)) later))))

-- ---- the first that passes a test, stripe by stripe

module _ (test : StripeFragment → Bool) where
  find-map : (s : StripeNo) (fs : List Fragment) → find test (map (λ f. (s, f)) fs) ≡ option_map (λ f. (s, f)) (find (λ f. test (s, f)) fs)
  find-map s [] = refl
  find-map s (f ∷ fs) = elim (cases_Bool (test (s, f))) [
    | inl hit ↦ rw hit refl
    | inr miss ↦ rw miss (find-map s fs)
  ]

  pub find-turn : (st : State) (s : StripeNo) (stripes : List StripeNo)
      → find test (fragments_in st (s ∷ stripes))
      ≡ option_or (option_map (λ f. (s, f)) (find (λ f. test (s, f)) (fragments (code_of st s)))) (find test (fragments_in st stripes))
  find-turn st s stripes =
      find-append test (map (λ f. (s, f)) (fragments (code_of st s))) (fragments_in st stripes)
      ∙ ap (λ o. option_or o (find test (fragments_in st stripes))) (find-map s (fragments (code_of st s)))

-- the fragments of the one code that the other lacks
abbrev beyond_narrow : List Fragment
beyond_narrow = fragment 10 (lit< tt) ∷ fragment 11 (lit< tt) ∷ fragment 12 (lit< tt) ∷ fragment 13 (lit< tt) ∷ fragment 14 (lit< tt) ∷ fragment 15 (lit< tt) ∷ []

-- the first of a code is the first of all, where none passes that the code lacks
pub find-code : (code : Code) (test : Fragment → Bool) → ((f : Fragment) → has_fragment code f.value ≡ false → test f ≡ false)
    → find test (fragments code) ≡ find test all_fragments
find-code Wide test fails = refl
find-code Narrow test fails =
    sym (find-append test (fragments Narrow) beyond_narrow ∙ ap (option_or (find test (fragments Narrow))) none ∙ or_none (find test (fragments Narrow)))
  where
    none : find test beyond_narrow ≡ None
    none = rw (
      fails (fragment 10 (lit< tt)) refl,
      fails (fragment 11 (lit< tt)) refl,
      fails (fragment 12 (lit< tt)) refl,
      fails (fragment 13 (lit< tt)) refl,
      fails (fragment 14 (lit< tt)) refl,
      fails (fragment 15 (lit< tt)) refl,
    ) refl

    or_none : (o : Option Fragment) → option_or o None ≡ o
    or_none None = refl
    or_none (Some f) = refl

module _ (nodes : List NodeInfo) (st : State) where
  pub grantable-own : (p : StripeFragment) → is_grantable nodes st p ≡ true → IsOwn st p
  grantable-own p granted = needs-own nodes st p.0 p.1 (and_parts _ _ (and_parts (is_none (lease_of st p.0 p.1)) _ granted).1).0

  -- so the first grantable fragment of a stripe is found among the sixteen numbers
  pub find-grantable : (s : StripeNo)
      → find (λ f. is_grantable nodes st (s, f)) (fragments (code_of st s)) ≡ find (λ f. is_grantable nodes st (s, f)) all_fragments
  find-grantable s =
      find-code (code_of st s) (λ f. is_grantable nodes st (s, f)) (λ f lacks. false_from_ne_true (is_grantable nodes st (s, f)) (λ granted.
      (let both : true ≡ false = sym (grantable-own (s, f) granted) ∙ lacks in cc)))

  pub grantable-turn : (s : StripeNo) (stripes : List StripeNo)
      → find (is_grantable nodes st) (fragments_in st (s ∷ stripes))
      ≡ option_or (option_map (λ f. (s, f)) (find (λ f. is_grantable nodes st (s, f)) all_fragments)) (find (is_grantable nodes st) (fragments_in st stripes))
  grantable-turn s stripes =
      find-turn (is_grantable nodes st) st s stripes
      ∙ ap (λ o. option_or (option_map (λ f. (s, f)) o) (find (is_grantable nodes st) (fragments_in st stripes))) (find-grantable s)

paired : (levels : StripeNo → Level) (rows : List StripeLevel) → AllByRecursion (λ r. levels r.0 ≡ r.1) rows
    → map (λ s. (s, levels s)) (map (λ r. r.0) rows) ≡ rows
paired levels [] all = refl
paired levels (r ∷ rows) all = ap₂ (λ (l : Level) (rest : List StripeLevel). (r.0, l) ∷ rest) all.0 (paired levels rows all.1)

-- ---- what is kept

module _ (nodes : List NodeInfo) (st : State) where
  abbrev kept : Stored
  kept = stored_of nodes st

  abbrev needed : StripeNo → ℕ → Bool
  needed s = needs_in (code_of st s) (drains_at nodes st) (homes_of st.homes s)

  -- ---- stripes with work

  needed-some : (s : StripeNo) → has_work nodes st s ≡ true → has_some (code_of st s) (needed s) ≡ true
  needed-some s e =
      let (f, there, hit) = member-list_any (needs nodes st s) (fragments (code_of st s)) e in
      has_some-from (code_of st s) (needed s) (f.value, ltb-true f.value (fragment_count (code_of st s)) (needs-own nodes st s f hit), hit)

  -- what is kept has work where the state has
  pub has-work : (s : StripeNo) → Contains st.stripes s → has_work nodes st s ≡ true → stripe_has_work kept s ≡ true
  has-work s there has =
      let listed = list_any-member (same_stripe s) st.stripes s there (eq-eqb s.value s.value refl) in
      work-kept nodes st s ∙ and_from (has_stripe st s) (has_some (code_of st s) (needed s)) listed (needed-some s has)

  pub granted-works : (p : StripeFragment) → is_grantable nodes st p ≡ true → has_work nodes st p.0 ≡ true
  granted-works p e =
      let parts = and_parts _ _ (and_parts (is_none (lease_of st p.0 p.1)) _ e).1 in
      list_any-member (needs nodes st p.0) (fragments (code_of st p.0)) p.1 (code-fragments (code_of st p.0) p.1 (grantable-own nodes st p e)) parts.0

  -- where these are all stripes that have a grantable fragment, the next repair is the first in turn whose lease would be granted
  pub next-first : (stripes : List StripeNo) → HaveGrantable nodes st stripes → next_of nodes st ≡ find (is_grantable nodes st) (fragments_in st stripes)
  unfolding next_of
  next-first stripes have =
      let test = is_grantable nodes st in
      let ranks = rank nodes st in
      first-least (is_repaired_before ranks) (fragment-order ranks) (fragment-ties ranks)
      (filter test (stripe_fragments st)) (filter test (fragments_in st stripes))
      (AllPairs-filter (λ p q. is_repaired_before ranks p q ≡ true) test (fragments_in st stripes) (fragments-strict st ranks stripes have.rising))
      (λ p here.
      let at = filter-member test (fragments_in st st.stripes) p here in
      let listed = have.each p (fragments-into st st.stripes p at.0) at.1 in
      member-filter test (fragments_in st stripes) p (fragments-from st stripes p (grantable-own nodes st p at.1) listed) at.1)
      (λ p here.
      let at = filter-member test (fragments_in st stripes) p here in
      member-filter test (fragments_in st st.stripes) p
      (fragments-from st st.stripes p (grantable-own nodes st p at.1) (have.there p.0 (fragments-into st stripes p at.0))) at.1)
      ∙ sym (find-first test (fragments_in st stripes))

  -- where no stripe has work, no lease would be granted
  pub idle-next : ((s : StripeNo) → stripe_has_work kept s ≡ true → ⊥) → None ≡ next_of nodes st
  idle-next idle =
      sym (next-first [] (record {
        there = λ s here. absurd (not-Contains-nil s here);
        rising = λ i j d below within. absurd (omega (arith, below, within));
        each = λ p there granted. absurd (idle p.0 (has-work p.0 there (granted-works p granted)));
      }))

  -- ---- stripes at risk

  module _ (rows : List StripeLevel) (are : AreAtRisk kept rows) where
    abbrev is_risky : StripeNo → Bool
    is_risky s = not (is_whole (level nodes st s))

    shown-by : Bool → StripeNo → Option Level
    shown-by there s = if there then Some (level nodes st s) else None

    shown-is : (s : StripeNo) (there : Bool) → has_stripe st s ≡ there → level_shown kept s ≡ (if there then Some (level nodes st s) else None)
    unfolding level_if shown-by
    shown-is s there e = level-kept nodes st s ∙ ap (λ b. shown-by b s) e

    shown-some : (s : StripeNo) (l : Level) (there : Bool) → has_stripe st s ≡ there → level_shown kept s ≡ Some l
        → Contains st.stripes s × (level nodes st s ≡ l)
    shown-some s l true e told = (stripe-there st s e, same_Some (level nodes st s) l (sym (shown-is s true e) ∙ told))
    shown-some s l false e told = absurd (let never : None ≡ Some l = sym (shown-is s false e) ∙ told in cc)

    risk-into : (r : StripeLevel) → Contains rows r → Contains st.stripes r.0 × (is_risky r.0 ≡ true) × (level nodes st r.0 ≡ r.1)
    risk-into r here =
        let parts = (are.each r.0 r.1).0 here in
        let at = shown-some r.0 r.1 (has_stripe st r.0) refl parts.0 in
        (at.0, ap (λ (l : Level). not (is_whole l)) at.1 ∙ ap not parts.1, at.1)

    risk-from : (s : StripeNo) → Contains st.stripes s → is_risky s ≡ true → Contains rows (s, level nodes st s)
    risk-from s there risky =
        let listed = list_any-member (same_stripe s) st.stripes s there (eq-eqb s.value s.value refl) in
        (are.each s (level nodes st s)).1 (shown-is s true listed, not-true (is_whole (level nodes st s)) risky)

    firsts-are : AllPairs (λ s t. s ≢ t) st.stripes → map (λ r. r.0) rows ≡ by_rank nodes st (filter is_risky st.stripes)
    firsts-are distinct =
        let ranks = rank nodes st in
        strict-in_order (comes_first ranks) (stripe-order ranks) (stripe-ties ranks) (filter is_risky st.stripes) (map (λ r. r.0) rows)
        (AllPairs-filter (λ s t. s ≢ t) is_risky st.stripes distinct)
        (AllPairs-map (λ s t. comes_first ranks s t ≡ true) (λ (r : StripeLevel). r.0) rows
        (subst (λ (by : StripeNo → ℕ). AllPairs (λ r t. comes_first by r.0 t.0 ≡ true) rows) (rank-kept nodes st) are.rising))
        (λ s here.
        let at = filter-member is_risky st.stripes s here in
        map-member (λ (r : StripeLevel). r.0) rows (s, level nodes st s) (risk-from s at.0 at.1))
        (λ s here. let (r, at, same) = Contains-unmap (λ (r : StripeLevel). r.0) rows s here in
        let parts = risk-into r at in
        subst (Contains (filter is_risky st.stripes)) same (member-filter is_risky st.stripes r.0 parts.0 parts.1))

    -- what is kept lists the stripes at risk as the state does
    pub risk-is : AllPairs (λ s t. s ≢ t) st.stripes → rows ≡ risk nodes st
    unfolding risk
    risk-is distinct =
        let shows = All-members (λ r. level nodes st r.0 ≡ r.1) rows (λ r here. (risk-into r here).2) in
        sym (paired (level nodes st) rows (recursion_from_All (λ r. level nodes st r.0 ≡ r.1) rows shows))
        ∙ ap (map (λ s. (s, level nodes st s))) (firsts-are distinct)
