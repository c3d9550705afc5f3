-- Which stripes the work list and the risk list have, and in which order.
use Rattle.std.proofs.Common.{◌≡◌, ◌≢◌, Bool, true, not, List, map, filter, get_or, refl, sym, ap, ◌∙◌, subst}
use Rattle.std.specs.List.{AllPairs, Contains}
use Rattle.std.proofs.lemmas.Bool.{eq-eqb}
use Rattle.std.proofs.lemmas.List.Kept.{AllPairs-filter}
use Rattle.std.proofs.lemmas.List.Sorted.{IsPermutation-sym, Contains-permutation}
use Rattle.lrc_code.specs.declared.numbers.StripeNo.{StripeNo}
use Rattle.lrc_code.specs.declared.numbers.Fragment.{Fragment}
use Rattle.lrc_code.specs.Numbers.{same_stripe}
use Rattle.lrc_code.specs.Codes.{fragments}
use Rattle.lrc_code.proofs.OrderLemmas.{in_order-permutation}
use Rattle.lrc_topology.specs.declared.NodeInfo.{NodeInfo}
use Rattle.lrc_terms.specs.declared.level.Level.{Level}
use Rattle.lrc_terms.specs.declared.level.Level.TheVariants.{Whole, AtRisk, Unavailable, Lost}
use Rattle.lrc_terms.specs.Levels.{comes_first, is_whole}
use Rattle.lrc_terms.specs.Stripes.{StripeLevel}
use Rattle.lrc_terms.proofs.ListLemmas.{AllPairs-map, Contains-unmap}
use Rattle.lrc_rules.specs.States.{State, has_stripe, code_of, rank, level}
use Rattle.lrc_rules.specs.Repairs.{needs}
use Rattle.lrc_rules.specs.Urgency.{by_rank, has_work, work, risk}
use Rattle.lrc_rules.specs.Granting.{ComesFirst}
use Rattle.lrc_rules.proofs.MemberLemmas.{filter-member, member-filter, list_any-member, member-list_any, map-member}
use Rattle.lrc_rules.proofs.RisingLemmas.{in_order-strict}
use Rattle.lrc_rules.proofs.UrgencyLemmas.{stripe-order, stripe-ties, needs-own}
use Rattle.lrc_rules.proofs.MostUrgentLemmas.{stripe-words}
use Rattle.lrc_terms.proofs.CodeListLemmas.{code-fragments}
use Rattle.lrc_rules.proofs.LookUpLemmas.{stripe-there}

not-whole : (l : Level) → not (is_whole l) ≡ true → l ≢ Whole
not-whole Whole e is = absurd (cc)
not-whole (AtRisk margin) e is = absurd (let never : AtRisk margin ≡ Whole = is in cc)
not-whole Unavailable e is = absurd (let never : Unavailable ≡ Whole = is in cc)
not-whole Lost e is = absurd (let never : Lost ≡ Whole = is in cc)

whole-not : (l : Level) → l ≢ Whole → not (is_whole l) ≡ true
whole-not Whole other = absurd (other refl)
whole-not (AtRisk margin) other = refl
whole-not Unavailable other = refl
whole-not Lost other = refl

module _ (nodes : List NodeInfo) (st : State) where
  -- ---- the stripes that pass a test, by rank and number

  listed : (test : StripeNo → Bool) (s : StripeNo) → Contains (by_rank nodes st (filter test st.stripes)) s
      → (has_stripe st s ≡ true) × (test s ≡ true)
  listed test s here =
      let xs = filter test st.stripes in
      let m = filter-member test st.stripes s
      (Contains-permutation (by_rank nodes st xs) xs s
      (IsPermutation-sym xs (by_rank nodes st xs) (in_order-permutation (comes_first (rank nodes st)) xs)) here) in
      (list_any-member (same_stripe s) st.stripes s m.0 (eq-eqb s.value s.value refl), m.1)

  listed-from : (test : StripeNo → Bool) (s : StripeNo) → has_stripe st s ≡ true → test s ≡ true
      → Contains (by_rank nodes st (filter test st.stripes)) s
  listed-from test s there pass =
      let xs = filter test st.stripes in
      Contains-permutation xs (by_rank nodes st xs) s (in_order-permutation (comes_first (rank nodes st)) xs)
      (member-filter test st.stripes s (stripe-there st s there) pass)

  rising : (test : StripeNo → Bool) → AllPairs (λ s t. s ≢ t) st.stripes
      → AllPairs (ComesFirst nodes st) (by_rank nodes st (filter test st.stripes))
  rising test distinct =
      let xs = filter test st.stripes in
      let strict = in_order-strict (comes_first (rank nodes st)) (stripe-order (rank nodes st)) (stripe-ties (rank nodes st)) xs
      (AllPairs-filter (λ s t. s ≢ t) test st.stripes distinct) in
      λ i j d below within. (stripe-words nodes st (get_or (by_rank nodes st xs) i d) (get_or (by_rank nodes st xs) j d)).0
      (strict i j d below within)

  -- ---- the two lists

  pub work-listed : (s : StripeNo) → Contains (work nodes st) s → (has_stripe st s ≡ true) × ((f : Fragment) × (needs nodes st s f ≡ true))
  unfolding work
  work-listed s here =
      let m = listed (has_work nodes st) s here in
      let f = member-list_any (needs nodes st s) (fragments (code_of st s)) m.1 in (m.0, (f.0, f.2))

  pub listed-work : (s : StripeNo) → has_stripe st s ≡ true → (f : Fragment) → needs nodes st s f ≡ true → Contains (work nodes st) s
  unfolding work
  listed-work s there f need =
      listed-from (has_work nodes st) s there
      (list_any-member (needs nodes st s) (fragments (code_of st s)) f (code-fragments (code_of st s) f (needs-own nodes st s f need)) need)

  pub work-rising : AllPairs (λ s t. s ≢ t) st.stripes → AllPairs (ComesFirst nodes st) (work nodes st)
  unfolding work
  work-rising distinct = rising (has_work nodes st) distinct

  abbrev risky : StripeNo → Bool
  risky s = not (is_whole (level nodes st s))

  abbrev row : StripeNo → StripeLevel
  row s = (s, level nodes st s)

  pub risk-listed : (s : StripeNo) (l : Level) → Contains (risk nodes st) (s, l) → (has_stripe st s ≡ true) × (level nodes st s ≡ l) × (l ≢ Whole)
  unfolding risk
  risk-listed s l here =
      let at = Contains-unmap row (by_rank nodes st (filter risky st.stripes)) (s, l) here in
      let same : at.0 ≡ s = ap (λ (r : StripeLevel). r.0) at.2 in
      let is : level nodes st s ≡ l = ap (level nodes st) (sym same) ∙ ap (λ (r : StripeLevel). r.1) at.2 in
      let m = listed risky s (subst (Contains (by_rank nodes st (filter risky st.stripes))) same at.1) in
      (m.0, is, subst (λ (k : Level). k ≢ Whole) is (not-whole (level nodes st s) m.1))

  pub listed-risk : (s : StripeNo) (l : Level) → has_stripe st s ≡ true → level nodes st s ≡ l → l ≢ Whole → Contains (risk nodes st) (s, l)
  unfolding risk
  listed-risk s l there is other =
      let stripes = by_rank nodes st (filter risky st.stripes) in
      subst (λ (k : Level). Contains (map row stripes) (s, k)) is
      (map-member row stripes s (listed-from risky s there (whole-not (level nodes st s) (subst (λ (k : Level). k ≢ Whole) (sym is) other))))

  pub risk-rising : AllPairs (λ s t. s ≢ t) st.stripes → AllPairs (λ (a b : StripeLevel). ComesFirst nodes st a.0 b.0) (risk nodes st)
  unfolding risk
  risk-rising distinct =
      AllPairs-map (λ (a b : StripeLevel). ComesFirst nodes st a.0 b.0) row (by_rank nodes st (filter risky st.stripes)) (rising risky distinct)
