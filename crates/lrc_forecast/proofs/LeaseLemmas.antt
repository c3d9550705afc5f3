-- The leases that end when nodes are stopped or lost.
use Rattle.std.proofs.Common.{arith, ◌≡◌, ◌↔◌, ◌+◌, ◌++◌, nat_eq, ◌&&◌, ◌||◌, Bool, true, false, not, cond, List, [], ◌∷◌, length, filter, flat_map, find, Option, Some, None, is_none, is_some, IsTrue, refl, sym, ap, ◌∙◌, subst, inl, inr}
use Rattle.std.specs.Prelude.{count_by, option_to_list}
use Rattle.std.specs.List.{All, AllPairs, Contains, list_any}
use Rattle.std.specs.Option.{option_map_or}
use Rattle.std.proofs.lemmas.Bool.{cases_Bool, eqb-true, lt-ltb}
use Rattle.std.proofs.lemmas.List.Elements.{All-weaker}
use Rattle.std.proofs.lemmas.List.Recursion.{is_count_by}
use Rattle.std.proofs.lemmas.Map.Entries.{option_filter}
use Rattle.lrc_code.specs.declared.codes.Code.TheVariants.{Wide}
use Rattle.lrc_code.specs.declared.numbers.StripeNo.{StripeNo}
use Rattle.lrc_code.specs.declared.numbers.NodeNo.{NodeNo}
use Rattle.lrc_code.specs.declared.numbers.Fragment.{Fragment}
use Rattle.lrc_code.specs.Numbers.{same_node}
use Rattle.lrc_code.specs.Codes.{fragments, all_fragments}
use Rattle.lrc_code.proofs.NumbersLemmas.{equal_fragments}
use Rattle.lrc_topology.specs.declared.NodeInfo.{NodeInfo}
use Rattle.lrc_topology.specs.declared.seat.Seat.{Seat}
use Rattle.lrc_topology.specs.declared.seat.Held.{Held}
use Rattle.lrc_terms.specs.declared.lease.Lease.{Lease}
use Rattle.lrc_terms.specs.Levels.{homes_of, home_of}
use Rattle.lrc_terms.specs.Leased.{AreOneEach, is_target_on}
use Rattle.lrc_terms.proofs.CodeListLemmas.{code-fragments}
use Rattle.lrc_terms.proofs.LeaseLemmas.{leases_in-own, leases_in-contains, contains-leases_in, one_each-filter, leases_in-filter}
use Rattle.lrc_rules.specs.States.{State, has_number, lease_of}
use Rattle.lrc_rules.specs.Steps.{stands_on, hangs_on, changed_on}
use Rattle.lrc_rules.specs.Goodness.{AreSeated}
use Rattle.lrc_rules.proofs.AlikeListLemmas.{flat-member, member-flat}
use Rattle.lrc_rules.proofs.LookUpLemmas.{is_of, seat_in, test-sym}
use Rattle.lrc_rules.proofs.MemberLemmas.{AllPairs-head, AllPairs-tail, list_any-All, no-member, filter-member, member-filter, Contains-here, not-Contains-nil, Contains-cases}
use Rattle.lrc_forecast.specs.Forecasts.{report_of, state_with, is_on_any, live_leases, ended_leases}
use Rattle.lrc_forecast.specs.Hits.{IsSetOf, HaveOneHome, is_on_set, has_lease_on_set}
use Rattle.lrc_forecast.specs.declared.outlook.Outage.{Outage}
use Rattle.lrc_forecast.specs.declared.outlook.Outage.TheVariants.{Stop, Lose}
use Rattle.lrc_forecast.proofs.OutageLemmas.{or_false, homes-one, if_spared, single-of, homes-kept}

-- ---- which leases a node that is lost takes along

-- whether an element of a list passes two tests, where it has one element at most that passes the first
module _ {X : Type 0} (test also : X → Bool) where
  none-any : (xs : List X) → All (λ x. test x ≡ false) xs → list_any (λ x. test x && also x) xs ≡ false
  none-any xs none =
      list_any-All (λ x. test x && also x) xs
      (All-weaker (λ x. test x ≡ false) (λ x. (test x && also x) ≡ false) (λ x off. ap (λ (b : Bool). b && also x) off) xs none)

  any-found : (xs : List X) → AllPairs (λ x y. test x ≡ true → test y ≡ false) xs → list_any (λ x. test x && also x) xs ≡ option_map_or also (find test xs) false
  any-found [] single = refl
  any-found (x ∷ xs) single = elim (cases_Bool (test x)) [
    | inl hit ↦
        let later = AllPairs-head (λ x y. test x ≡ true → test y ≡ false) x xs single in
        rw hit (ap (λ (b : Bool). also x || b) (none-any xs (All-weaker (λ y. test x ≡ true → test y ≡ false) (λ y. test y ≡ false) (λ y off. off hit) xs later)) ∙ or_false (also x))
    | inr miss ↦ rw miss (any-found xs (AllPairs-tail (λ x y. test x ≡ true → test y ≡ false) x xs single))
  ]

-- the target is on one of the nodes, or the home is
abbrev pub is_hit : List NodeNo → Seat → Option Seat → Bool
is_hit ns target home = has_number ns target.node || is_on_any ns home

-- the lease has its target or its fragment's home on one of the nodes
abbrev pub is_lease_hit : List NodeNo → State → Lease → Bool
is_lease_hit ns st l = is_hit ns l.target (homes_of st.homes l.stripe l.fragment.value)

none-hit : (home : Option Seat) → is_on_any [] home ≡ false
none-hit None = refl
none-hit (Some seat) = refl

hangs-is : (st : State) (n : NodeNo) (l : Lease) → HaveOneHome st → hangs_on st n l ≡ is_lease_hit (n ∷ []) st l
hangs-is st n l single =
    ap (λ (b : Bool). is_target_on n l || b)
    (any-found (is_of l.stripe l.fragment.value) (stands_on n) st.homes (single-of l.stripe l.fragment.value st.homes single) ∙ by (home_of st.homes l.stripe l.fragment.value))
    ∙ ap (λ (b : Bool). b || is_on_any (n ∷ []) (homes_of st.homes l.stripe l.fragment.value)) (sym (or_false (is_target_on n l)))
  where
    by : (o : Option Held) → option_map_or (stands_on n) o false ≡ is_on_any (n ∷ []) (seat_in o)
    by None = refl
    by (Some h) = test-sym n.value h.seat.node.value ∙ sym (or_false (same_node h.seat.node n))

hit-none : (a b : Bool) → (((a || false) || false) || (b || false)) ≡ ((a || b) || false)
hit-none true b = refl
hit-none false true = refl
hit-none false false = refl

hit-on : (a b c : Bool) → (((a || false) || true) || (b || false)) ≡ ((a || b) || true)
hit-on true b c = refl
hit-on false true c = refl
hit-on false false c = refl

hit-off : (a b c : Bool) → (((a || false) || false) || (b || c)) ≡ ((a || b) || c)
hit-off true b c = refl
hit-off false true c = refl
hit-off false false c = refl

hit-more : (n : NodeNo) (ns : List NodeNo) (target : Seat) (home : Option Seat) → (is_hit (n ∷ []) target home || is_hit ns target (if_spared n home)) ≡ is_hit (n ∷ ns) target home
hit-more n ns target None = hit-none (same_node target.node n) (has_number ns target.node)
hit-more n ns target (Some seat) = elim (cases_Bool (same_node n seat.node)) [
  | inl on ↦ rw (on, sym (test-sym n.value seat.node.value) ∙ on) (hit-on (same_node target.node n) (has_number ns target.node) true)
  | inr off ↦ rw (off, sym (test-sym n.value seat.node.value) ∙ off) (hit-off (same_node target.node n) (has_number ns target.node) (has_number ns seat.node))
]

-- what two filters leave
twice : {X : Type 0} (first second both : X → Bool) (o : Option X) → ((x : X) → (first x || second x) ≡ both x)
    → option_filter (λ x. not (second x)) (option_filter (λ x. not (first x)) o) ≡ option_filter (λ x. not (both x)) o
twice first second both None is = refl
twice first second both (Some x) is = elim (cases_Bool (first x)) [
  | inl on ↦ let all : both x ≡ true = sym (is x) ∙ ap (λ (b : Bool). b || second x) on in rw (on, all) refl
  | inr off ↦ let all : both x ≡ second x = sym (is x) ∙ ap (λ (b : Bool). b || second x) off in rw (off, all) refl
]

all-kept : {X : Type 0} (test : X → Bool) (o : Option X) → ((x : X) → test x ≡ false) → option_filter (λ x. not (test x)) o ≡ o
all-kept test None none = refl
all-kept test (Some x) none = rw (none x) refl

-- the leases that are left are of the first state, one for each fragment
pub one-after : (outage : Outage) (st : State) (ns : List NodeNo) → AreOneEach st.leases → AreOneEach (state_with outage st ns).leases
one-after outage st [] one = one
one-after Stop st (n ∷ ns) one = one-after Stop (changed_on (report_of Stop) st n) ns one
one-after Lose st (n ∷ ns) one = one-after Lose (changed_on (report_of Lose) st n) ns (one_each-filter (λ l. not (hangs_on st n l)) st.leases one)

-- a node that stops keeps its leases
pub leases-stopped : (st : State) (ns : List NodeNo) → (state_with Stop st ns).leases ≡ st.leases
leases-stopped st [] = refl
leases-stopped st (n ∷ ns) = leases-stopped (changed_on (report_of Stop) st n) ns

pub lease-stopped : (st : State) (ns : List NodeNo) (s : StripeNo) (f : Fragment) → lease_of (state_with Stop st ns) s f ≡ lease_of st s f
lease-stopped st ns s f = ap (λ (leases : List Lease). lease_of (record st { leases = leases }) s f) (leases-stopped st ns)

-- a node that is lost takes those along that hang on it
pub lease-lost : (st : State) (ns : List NodeNo) (s : StripeNo) (f : Fragment) → HaveOneHome st → AreOneEach st.leases
    → lease_of (state_with Lose st ns) s f ≡ option_filter (λ l. not (is_lease_hit ns st l)) (lease_of st s f)
lease-lost st [] s f single one = sym (all-kept (is_lease_hit [] st) (lease_of st s f) (λ l. none-hit (homes_of st.homes l.stripe l.fragment.value)))
lease-lost st (n ∷ ns) s f single one =
    let next = changed_on (report_of Lose) st n in
    lease-lost next ns s f (homes-kept st n single) (one_each-filter (λ l. not (hangs_on st n l)) st.leases one)
    ∙ ap (option_filter (λ l. not (is_lease_hit ns next l))) (leases_in-filter (λ l. not (hangs_on st n l)) st.leases s f.value one)
    ∙ twice (hangs_on st n) (is_lease_hit ns next) (is_lease_hit (n ∷ ns) st) (lease_of st s f)
    (λ l.
    let home = homes_of st.homes l.stripe l.fragment.value in
    ap (λ (b : Bool). b || is_lease_hit ns next l) (hangs-is st n l single)
    ∙ ap (λ (o : Option Seat). is_lease_hit (n ∷ []) st l || is_hit ns l.target o) (homes-one st n l.stripe l.fragment.value single)
    ∙ hit-more n ns l.target home)

-- ---- the leases of a stripe that end

pub own-lease : (st : State) (s : StripeNo) (f : Fragment) (l : Lease) → lease_of st s f ≡ Some l → (l.stripe ≡ s) × (l.fragment ≡ f)
own-lease st s f l is = let own = leases_in-own st.leases s f.value l is in (own.0, equal_fragments l.fragment f own.1)

filtered : {X : Type 0} (keep : X → Bool) (o : Option X) (x : X) (hit : Bool) → o ≡ Some x → keep x ≡ not hit → is_none (option_filter keep o) ≡ hit
filtered keep o x true is out = rw (is, out) refl
filtered keep o x false is out = rw (is, out) refl

-- the lease of a fragment ends if it is hit
lost-lease : (st : State) (ns : List NodeNo) (l : Lease) → HaveOneHome st → AreOneEach st.leases → lease_of st l.stripe l.fragment ≡ Some l
    → is_none (lease_of (state_with Lose st ns) l.stripe l.fragment) ≡ is_lease_hit ns st l
lost-lease st ns l single one is =
    ap is_none (lease-lost st ns l.stripe l.fragment single one)
    ∙ filtered (λ k. not (is_lease_hit ns st k)) (lease_of st l.stripe l.fragment) l (is_lease_hit ns st l) is refl

filter-some : {X : Type 0} (keep : X → Bool) (o : Option X) (x : X) → option_filter keep o ≡ Some x → o ≡ Some x
filter-some keep None x is = absurd (cc)
filter-some keep (Some y) x is = by (keep y) is where
  by : (b : Bool) → cond b (Some y) None ≡ Some x → Some y ≡ Some x
  by true is = is
  by false is = absurd (cc)

pub kept-one : {X : Type 0} (keep : X → Bool) (x : X) → keep x ≡ true → option_filter keep (Some x) ≡ Some x
kept-one keep x kept = rw kept refl

count-flat : {X Y : Type 0} (at : X → Option Y) (test : Y → Bool) (xs : List X)
    → length (filter test (flat_map (λ x. option_to_list (at x)) xs)) ≡ count_by (λ x. option_map_or test (at x) false) xs
count-flat {X} {Y} at test xs =
    is_count_by (λ ys. length (filter test (flat_map (λ x. option_to_list (at x)) ys))) (λ x. option_map_or test (at x) false) refl
    (λ x ys. by (at x) (flat_map (λ z. option_to_list (at z)) ys)) xs
  where
    by : (o : Option Y) (ys : List Y) → length (filter test (option_to_list o ++ ys)) ≡ cond (option_map_or test o false) (1 + length (filter test ys)) (length (filter test ys))
    by None ys = refl
    by (Some y) ys = elim (cases_Bool (test y)) [ inl hit ↦ rw hit (omega arith) | inr miss ↦ rw miss refl ]

module _ (st : State) (ns : List NodeNo) (single : HaveOneHome st) (one : AreOneEach st.leases) where
  on-set : (set : List Bool) → IsSetOf ns set → (o : Option Seat) → is_on_set set o ≡ is_on_any ns o
  on-set set are None = refl
  on-set set are (Some seat) = are seat.node

  -- as a walk over the fragments counts them
  pub ended-count : (s : StripeNo) (set : List Bool) → IsSetOf ns set
      → count_by (has_lease_on_set set st s (homes_of st.homes s)) all_fragments ≡ length (ended_leases st (state_with Lose st ns) s)
  unfolding live_leases
  ended-count s set are =
      (λ i. count_by (λ f. same f i) all_fragments) ∙ sym (count-flat (lease_of st s) (λ l. is_none (lease_of (state_with Lose st ns) l.stripe l.fragment)) all_fragments)
    where
      same : (f : Fragment) → has_lease_on_set set st s (homes_of st.homes s) f ≡ option_map_or (λ l. is_none (lease_of (state_with Lose st ns) l.stripe l.fragment)) (lease_of st s f) false
      same f = by (lease_of st s f) refl where
        by : (o : Option Lease) → lease_of st s f ≡ o
            → option_map_or (λ l. is_on_set set (Some l.target) || is_on_set set (homes_of st.homes s f.value)) o false
            ≡ option_map_or (λ l. is_none (lease_of (state_with Lose st ns) l.stripe l.fragment)) o false
        by None is = refl
        by (Some l) is =
            let own = own-lease st s f l is in
            let found : lease_of st l.stripe l.fragment ≡ Some l =
            subst (λ (r : StripeNo). lease_of st r l.fragment ≡ Some l) (sym own.0) (subst (λ (g : Fragment). lease_of st s g ≡ Some l) (sym own.1) is) in
            ap (λ (b : Bool). b || is_on_set set (homes_of st.homes s f.value)) (are l.target.node)
            ∙ ap (λ (b : Bool). has_number ns l.target.node || b) (on-set set are (homes_of st.homes s f.value))
            ∙ ap (λ (r : StripeNo). is_hit ns l.target (homes_of st.homes r f.value)) (sym own.0)
            ∙ ap (λ (g : Fragment). is_hit ns l.target (homes_of st.homes l.stripe g.value)) (sym own.1)
            ∙ sym (lost-lease st ns l single one found)

-- ---- which leases a stripe has, and which of them end

listed : {X : Type 0} (o : Option X) (x : X) → Contains (option_to_list o) x → o ≡ Some x
listed None x here = absurd (not-Contains-nil x here)
listed (Some y) x here = elim (Contains-cases y x [] here) [ inl same ↦ ap (λ (z : _). Some z) same | inr none ↦ absurd (not-Contains-nil x none) ]

module _ (st : State) (s : StripeNo) (l : Lease) where
  stripe-lease : Contains (live_leases st s) l → (lease_of st l.stripe l.fragment ≡ Some l) × (l.stripe ≡ s)
  unfolding live_leases
  stripe-lease here =
      let m = flat-member (λ (f : Fragment). option_to_list (lease_of st s f)) all_fragments l here in
      let is : lease_of st s m.0 ≡ Some l = listed (lease_of st s m.0) l m.2 in
      let own = own-lease st s m.0 l is in
      (subst (λ (r : StripeNo). lease_of st r l.fragment ≡ Some l) (sym own.0) (subst (λ (g : Fragment). lease_of st s g ≡ Some l) (sym own.1) is), own.0)

  lease-stripe : lease_of st s l.fragment ≡ Some l → Contains (live_leases st s) l
  unfolding live_leases
  lease-stripe is =
      member-flat (λ (f : Fragment). option_to_list (lease_of st s f)) all_fragments l.fragment l (code-fragments Wide l.fragment (lt-ltb l.fragment.value 16 l.fragment.in_range))
      (subst (λ (o : Option Lease). Contains (option_to_list o) l) (sym is) (Contains-here l []))

none-of : {X : Type 0} (o : Option X) (x : X) → o ≡ Some x → is_none o ≡ true → ⊥
none-of o x is none = let both : false ≡ true = ap is_none (sym is) ∙ none in absurd (cc)

pub ended-stopped : (st : State) (ns : List NodeNo) (s : StripeNo) → ended_leases st (state_with Stop st ns) s ≡ []
ended-stopped st ns s = no-member (ended_leases st (state_with Stop st ns) s) (λ l here.
    let m = filter-member (λ (k : Lease). is_none (lease_of (state_with Stop st ns) k.stripe k.fragment)) (live_leases st s) l here in
    none-of (lease_of (state_with Stop st ns) l.stripe l.fragment) l (lease-stopped st ns l.stripe l.fragment ∙ (stripe-lease st s l m.0).0) m.1)

-- none ends exactly where each fragment with a lease has one then
pub ended-none : (st after : State) (s : StripeNo)
    → (nat_eq (length (ended_leases st after s)) 0 ≡ true) ↔ ((f : Fragment) → is_some (lease_of st s f) ≡ true → is_some (lease_of after s f) ≡ true)
ended-none st after s = (stays, none) where
  stays : nat_eq (length (ended_leases st after s)) 0 ≡ true → (f : Fragment) → is_some (lease_of st s f) ≡ true → is_some (lease_of after s f) ≡ true
  stays zero f has = by (lease_of st s f) (lease_of after s f) refl refl has where
    by : (o p : Option Lease) → lease_of st s f ≡ o → lease_of after s f ≡ p → is_some o ≡ true → is_some p ≡ true
    by o (Some k) is then has = refl
    by None None is then has = absurd (cc)
    by (Some l) None is then has =
        let own = own-lease st s f l is in
        let here = lease-stripe st s l (subst (λ (g : Fragment). lease_of st s g ≡ Some l) (sym own.1) is) in
        let gone : lease_of after l.stripe l.fragment ≡ None =
        subst (λ (r : StripeNo). lease_of after r l.fragment ≡ None) (sym own.0) (subst (λ (g : Fragment). lease_of after s g ≡ None) (sym own.1) then) in
        let among : Contains (ended_leases st after s) l =
        member-filter (λ (k : Lease). is_none (lease_of after k.stripe k.fragment)) (live_leases st s) l here (ap is_none gone) in
        let count = among.1 in
        let none : length (ended_leases st after s) ≡ 0 = eqb-true (length (ended_leases st after s)) 0 zero in
        absurd (omega (arith, count, none))

  none : ((f : Fragment) → is_some (lease_of st s f) ≡ true → is_some (lease_of after s f) ≡ true) → nat_eq (length (ended_leases st after s)) 0 ≡ true
  none each = ap (λ (ls : List Lease). nat_eq (length ls) 0) (no-member (ended_leases st after s) (λ l here.
      let m = filter-member (λ (k : Lease). is_none (lease_of after k.stripe k.fragment)) (live_leases st s) l here in
      let was = stripe-lease st s l m.0 in
      let there = each l.fragment (subst (λ (r : StripeNo). is_some (lease_of st r l.fragment) ≡ true) was.1 (ap is_some was.0)) in
      let still : is_some (lease_of after l.stripe l.fragment) ≡ true = subst (λ (r : StripeNo). is_some (lease_of after r l.fragment) ≡ true) (sym was.1) there in
      both-not (lease_of after l.stripe l.fragment) still m.1))
    where
      both-not : (o : Option Lease) → is_some o ≡ true → is_none o ≡ true → ⊥
      both-not None some gone = absurd (cc)
      both-not (Some k) some gone = absurd (cc)

-- ---- in words

module _ (nodes : List NodeInfo) (st : State) (ns : List NodeNo) (l : Lease) (seated : AreSeated nodes st) where
  pub ends-told : (s : StripeNo) → Contains (ended_leases st (state_with Lose st ns) s) l
      ↔ (Contains st.leases l × (l.stripe ≡ s) × IsTrue (has_number ns l.target.node || is_on_any ns (homes_of st.homes s l.fragment.value)))
  ends-told s = (told, back) where
    told : Contains (ended_leases st (state_with Lose st ns) s) l
        → Contains st.leases l × (l.stripe ≡ s) × IsTrue (has_number ns l.target.node || is_on_any ns (homes_of st.homes s l.fragment.value))
    told here =
        let m = filter-member (λ (k : Lease). is_none (lease_of (state_with Lose st ns) k.stripe k.fragment)) (live_leases st s) l here in
        let was = stripe-lease st s l m.0 in
        let hit = sym (lost-lease st ns l seated.one_home seated.one_lease was.0) ∙ m.1 in
        (leases_in-contains st.leases l.stripe l.fragment.value l was.0, was.1, subst (λ (r : StripeNo). is_hit ns l.target (homes_of st.homes r l.fragment.value) ≡ true) was.1 hit)

    back : Contains st.leases l × (l.stripe ≡ s) × IsTrue (has_number ns l.target.node || is_on_any ns (homes_of st.homes s l.fragment.value))
        → Contains (ended_leases st (state_with Lose st ns) s) l
    back (live, own, hit) =
        let is = contains-leases_in st.leases l seated.one_lease live in
        let here = lease-stripe st s l (subst (λ (r : StripeNo). lease_of st r l.fragment ≡ Some l) own is) in
        let ends = lost-lease st ns l seated.one_home seated.one_lease is ∙ subst (λ (r : StripeNo). is_hit ns l.target (homes_of st.homes r l.fragment.value) ≡ true) (sym own) hit in
        member-filter (λ (k : Lease). is_none (lease_of (state_with Lose st ns) k.stripe k.fragment)) (live_leases st s) l here ends

  pub stays-told : (outage : Outage) → Contains (state_with outage st ns).leases l
      ↔ (Contains st.leases l × ¬ (Contains (ended_leases st (state_with outage st ns) l.stripe) l))
  stays-told Stop = (
    λ here. (subst (λ (ls : List Lease). Contains ls l) (leases-stopped st ns) here, λ ended. not-Contains-nil l (subst (λ (ls : List Lease). Contains ls l) (ended-stopped st ns l.stripe) ended)),
    λ both. subst (λ (ls : List Lease). Contains ls l) (sym (leases-stopped st ns)) both.0,
  )
  stays-told Lose = (stays, back) where
    found : Contains (state_with Lose st ns).leases l → lease_of (state_with Lose st ns) l.stripe l.fragment ≡ Some l
    found here = contains-leases_in (state_with Lose st ns).leases l (one-after Lose st ns seated.one_lease) here

    stays : Contains (state_with Lose st ns).leases l → Contains st.leases l × ¬ (Contains (ended_leases st (state_with Lose st ns) l.stripe) l)
    stays here =
        let kept = filter-some (λ k. not (is_lease_hit ns st k)) (lease_of st l.stripe l.fragment) l (sym (lease-lost st ns l.stripe l.fragment seated.one_home seated.one_lease) ∙ found here) in (
          leases_in-contains st.leases l.stripe l.fragment.value l kept,
          λ ended.
              let m = filter-member (λ (k : Lease). is_none (lease_of (state_with Lose st ns) k.stripe k.fragment)) (live_leases st l.stripe) l ended in
              none-of (lease_of (state_with Lose st ns) l.stripe l.fragment) l (found here) m.1,
        )

    back : Contains st.leases l × ¬ (Contains (ended_leases st (state_with Lose st ns) l.stripe) l) → Contains (state_with Lose st ns).leases l
    back (live, not-ended) =
        let is = contains-leases_in st.leases l seated.one_lease live in
        elim (cases_Bool (is_lease_hit ns st l)) [
          | inl hit ↦ absurd (not-ended ((ends-told l.stripe).1 (live, refl, hit)))
          | inr off ↦
              let still : lease_of (state_with Lose st ns) l.stripe l.fragment ≡ Some l =
              lease-lost st ns l.stripe l.fragment seated.one_home seated.one_lease ∙ ap (option_filter (λ k. not (is_lease_hit ns st k))) is
              ∙ kept-one (λ k. not (is_lease_hit ns st k)) l (ap not off) in
              leases_in-contains (state_with Lose st ns).leases l.stripe l.fragment.value l still
        ]
