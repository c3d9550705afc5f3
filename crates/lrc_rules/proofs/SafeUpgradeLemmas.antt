-- An upgrade takes at most one fragment of each class of a whole stripe offline, and is refused for the first stripe
-- that it would make unrecoverable.
use Rattle.std.proofs.Common.{[], ◌≡◌, ◌≢◌, ℕ, ◌+◌, ◌-◌, ◌≤◌, ◌<◌, inl, inr, Bool, true, false, not, ◌&&◌, nat_lt, cond, List, ◌∷◌, map, filter, length, get_or, Option, Some, None, option_map, IfSome, IsTrue, arith, refl, sym, ap, ap₂, ◌∙◌, subst}
use Rattle.std.specs.List.{AllPairs, Contains, count_by}
use Rattle.std.specs.Option.{option_map_or}
use Rattle.std.proofs.lemmas.Bool.{cases_Bool, eqb-true, eq-eqb, ltb-true, ltb-false, le-ltb, not-true, not-false, and_parts, and_from}
use Rattle.std.proofs.lemmas.Option.{same_Some}
use Rattle.std.proofs.lemmas.List.{get_or_default}
use Rattle.std.proofs.lemmas.List.Elements.{All-weaker, All-contains, Contains-append_left}
use Rattle.std.proofs.lemmas.List.Kept.{AllPairs-filter}
use Rattle.std.proofs.lemmas.List.MinMax.{IsStrictWeakOrder-by_number}
use Rattle.std.proofs.lemmas.List.Sums.{sum_by-cons}
use Rattle.lrc_code.specs.declared.codes.Class.{Class}
use Rattle.lrc_code.specs.declared.codes.Class.TheVariants.{A, B, G}
use Rattle.lrc_code.specs.declared.codes.Code.{Code}
use Rattle.lrc_code.specs.declared.numbers.StripeNo.{StripeNo}
use Rattle.lrc_code.specs.declared.numbers.UpgradeNo.{UpgradeNo}
use Rattle.lrc_code.specs.declared.numbers.Fragment.{Fragment}
use Rattle.lrc_code.specs.Numbers.{same_stripe, same_upgrade}
use Rattle.lrc_code.specs.Codes.{fragments, fragment_count, has_fragment, class_of, are_one_class, share_class}
use Rattle.lrc_code.specs.Losses.{FragmentSet, losses_in, excess, IsRecoverable, is_recoverable, IsMargin}
use Rattle.lrc_code.specs.Order.{HasNoTies}
use Rattle.lrc_code.proofs.CodesLemmas.{members-class, are_one_class-iff}
use Rattle.lrc_code.proofs.LossesLemmas.{by_counts, by_test}
use Rattle.lrc_code.proofs.MarginLemmas.{margin_lost, margin_all_whole}
use Rattle.lrc_code.proofs.NumbersLemmas.{equal_stripes, equal_fragments}
use Rattle.lrc_code.proofs.OrderLemmas.{least-none, least-listed, least-none_before, least-only}
use Rattle.lrc_topology.specs.declared.NodeInfo.{NodeInfo}
use Rattle.lrc_topology.specs.declared.seat.Seat.{Seat}
use Rattle.lrc_topology.specs.declared.seat.Held.{Held}
use Rattle.lrc_topology.specs.Nodes.{node_at, has_domain}
use Rattle.lrc_terms.specs.declared.level.Level.TheVariants.{Whole}
use Rattle.lrc_terms.specs.Levels.{home_of, NoneMissing}
use Rattle.lrc_terms.proofs.LevelLemmas.{law_whole}
use Rattle.lrc_rules.specs.declared.reply.Reply.{Reply}
use Rattle.lrc_rules.specs.declared.reply.Reply.TheVariants.{Changed, Refused}
use Rattle.lrc_rules.specs.Outcomes.{refuse_if}
use Rattle.lrc_terms.specs.Modes.{is_gone}
use Rattle.lrc_rules.specs.States.{State, has_stripe, code_of, held_by, seats_of, mode_of, is_down, is_upgrading, is_online, online_at, homeless, missing, level}
use Rattle.lrc_rules.specs.Repairs.{is_safe}
use Rattle.lrc_rules.specs.Choices.{AreApart}
use Rattle.lrc_rules.specs.Goodness.{KeepApart, AreSeated}
use Rattle.lrc_rules.specs.Steps.{with_upgrading, is_lost_to, would_lose, upgrade_answer, upgrade_outcome}
use Rattle.lrc_rules.specs.Upgrading.{WouldBeLost}
use Rattle.lrc_rules.proofs.MemberLemmas.{not-Contains-nil, no-member, All-members, filter-member, member-filter, list_any-member, none-count, AllPairs-head, AllPairs-tail}
use Rattle.lrc_rules.specs.Changes.{changed_by}
use Rattle.lrc_rules.specs.declared.command.Command.TheVariants.{Upgrade}
use Rattle.lrc_rules.proofs.StepLemmas.{upgrade-changed}
use Rattle.lrc_rules.proofs.PairLemmas.{pairs-members}
use Rattle.lrc_rules.proofs.SeatingLemmas.{KeepApart-turn, fragments-distinct}
use Rattle.lrc_rules.proofs.LookUpLemmas.{found-home, stripe-there}
use Rattle.lrc_rules.specs.declared.refusal.Refusal.TheVariants as refusal

-- ---- counting

-- if no two elements of a list pass a test, at most one does
pub at_most_one : {X : Type 0} (test : X → Bool) (xs : List X) → AllPairs (λ a b. test a ≡ true → test b ≡ true → ⊥) xs → count_by test xs ≤ 1
at_most_one test [] pairs = omega arith
at_most_one {X} test (x ∷ xs) pairs = elim (cases_Bool (test x)) [
  | inl hit ↦
      let others = AllPairs-head (λ (a b : X). test a ≡ true → test b ≡ true → ⊥) x xs pairs in
      let parts = sum_by-cons (λ (y : X). cond (test y) 1 0) x xs in
      let own : ◌≡◌ {A = ℕ} (cond (test x) 1 0) 1 = rw hit refl in
      let none = All-weaker (λ (b : X). test x ≡ true → test b ≡ true → ⊥) (λ y. test y ≡ false) (λ y apart. missed (test y) (apart hit)) xs others in
      let rest = none-count test xs none in omega (arith, parts, own, rest)
  | inr miss ↦
      let parts = sum_by-cons (λ (y : X). cond (test y) 1 0) x xs in
      let own : ◌≡◌ {A = ℕ} (cond (test x) 1 0) 0 = rw miss refl in
      let rest = at_most_one test xs (AllPairs-tail (λ (a b : X). test a ≡ true → test b ≡ true → ⊥) x xs pairs) in omega (arith, parts, own, rest)
]
  where
    missed : (b : Bool) → (b ≡ true → ⊥) → b ≡ false
    missed true never = absurd (never refl)
    missed false never = refl

count-numbers : (m : FragmentSet) (fs : List Fragment) → count_by m (map (λ (f : Fragment). f.value) fs) ≡ count_by (λ (f : Fragment). m f.value) fs
count-numbers m [] = refl
count-numbers m (f ∷ fs) =
    sum_by-cons (λ (n : ℕ). cond (m n) 1 0) f.value (map (λ (g : Fragment). g.value) fs)
    ∙ ap (λ (n : ℕ). cond (m f.value) 1 0 + n) (count-numbers m fs) ∙ sym (sum_by-cons (λ (g : Fragment). cond (m g.value) 1 0) f fs)

-- pairs of distinct members
pub pairs-by : {X : Type 0} (R : X → X → Type 0) (xs : List X) → AllPairs (λ a b. a ≢ b) xs → ((a b : X) → Contains xs a → Contains xs b → a ≢ b → R a b)
    → AllPairs R xs
pairs-by R xs apart each i j d below within =
    let low : i < length xs = omega (arith, below, within) in
    each (get_or xs i d) (get_or xs j d) (i, low, get_or_default xs i (get_or xs i d) d low)
    (j, within, get_or_default xs j (get_or xs j d) d within) (apart i j d below within)

-- no two fragments of one class are in the set
abbrev pub HasNoTwo : Code → FragmentSet → Type 0
HasNoTwo code m = (f g : Fragment) → f ≢ g → IsTrue (share_class code f g) → m f.value ≡ true → m g.value ≡ true → ⊥

abbrev of_class : Code → Class → Fragment → Bool
of_class code c f = are_one_class (class_of code f.value) (Some c)

both-share : (code : Code) (c : Class) (f g : Fragment) → of_class code c f ≡ true → of_class code c g ≡ true → share_class code f g ≡ true
both-share code c f g here there =
    let one = (are_one_class-iff (class_of code f.value) (Some c)).0 here in
    let two = (are_one_class-iff (class_of code g.value) (Some c)).0 there in
    (are_one_class-iff (class_of code f.value) (class_of code g.value)).1 (one.0, one.1, two.1 ∙ sym two.2 ∙ one.2)

-- so it has at most one fragment of each class
pub class-one : (code : Code) (m : FragmentSet) → HasNoTwo code m → (c : Class) → losses_in code c m ≤ 1
class-one code m none c =
    let fs = filter (of_class code c) (fragments code) in
    let few = at_most_one (λ (f : Fragment). m f.value) fs (pairs-by (λ (f g : Fragment). m f.value ≡ true → m g.value ≡ true → ⊥) fs
    (AllPairs-filter (λ (f g : Fragment). f ≢ g) (of_class code c) (fragments code) (fragments-distinct code))
    (λ f g here there other. none f g other
    (both-share code c f g (filter-member (of_class code c) (fragments code) f here).1 (filter-member (of_class code c) (fragments code) g there).1))) in
    subst (λ (ns : List ℕ). count_by m ns ≤ 1) (members-class code c) (subst (λ (n : ℕ). n ≤ 1) (sym (count-numbers m fs)) few)

few-beyond : (a b c : ℕ) → a ≤ 1 → b ≤ 1 → c ≤ 1 → (a - 1) + (b - 1) + c ≤ 1
few-beyond a b c x y z = omega (arith, x, y, z)

module _ (code : Code) (m : FragmentSet) (none : HasNoTwo code m) where
  excess-one : excess code m ≤ 1
  excess-one =
      few-beyond (losses_in code A m) (losses_in code B m) (losses_in code G m) (class-one code m none A) (class-one code m none B) (class-one code m none G)

  recoverable-still : IsRecoverable code m
  recoverable-still = (by_counts code m).1 (two (excess code m) excess-one)
    where
      two : (e : ℕ) → e ≤ 1 → e ≤ 2
      two e x = omega (arith, x)

  -- and the stripe survives one more loss
  margin-by : (some : Bool) → nat_lt 0 (losses_in code A m + losses_in code B m) ≡ some → (t : ℕ) × (1 ≤ t) × IsMargin code m t
  margin-by true is = (2 - excess code m, left (excess code m) excess-one, margin_lost code m recoverable-still (ltb-true _ _ is))
    where
      left : (e : ℕ) → e ≤ 1 → 1 ≤ 2 - e
      left e x = omega (arith, x)
  margin-by false is = (
    3 - losses_in code G m,
    left (losses_in code G m) (class-one code m none G),
    margin_all_whole code m recoverable-still
        (zero_of (losses_in code A m + losses_in code B m) (ltb-false _ _ is)),
  )
    where
      left : (c : ℕ) → c ≤ 1 → 1 ≤ 3 - c
      left c x = omega (arith, x)

      zero_of : (n : ℕ) → n ≤ 0 → n ≡ 0
      zero_of n x = omega (arith, x)

  one-left : (t : ℕ) × (1 ≤ t) × IsMargin code m t
  one-left = margin-by (nat_lt 0 (losses_in code A m + losses_in code B m)) refl

-- ---- the nodes of a stripe's fragments

module _ (nodes : List NodeInfo) (st : State) (s : StripeNo) (seated : AreSeated nodes st) where
  -- the fragment's home is on this node
  pub record IsOn (f : ℕ) : Type 0 where
    pub home : Held
    pub found : home_of st.homes s f ≡ Some home
    pub node : NodeInfo
    pub at : node_at nodes home.seat.node ≡ Some node

  own_stripe : (f : ℕ) (t : IsOn f) → t.home.stripe ≡ s
  own_stripe f t = equal_stripes t.home.stripe s (eqb-true _ _ (and_parts _ _ (found-home st s f t.home t.found).1).0)

  own_fragment : (f : Fragment) (t : IsOn f.value) → t.home.fragment ≡ f
  own_fragment f t = equal_fragments t.home.fragment f (eqb-true _ _ (and_parts _ _ (found-home st s f.value t.home t.found).1).1)

  among : (f : ℕ) (t : IsOn f) → Contains (seats_of st) t.home
  among f t = Contains-append_left st.homes (map held_by st.leases) t.home (found-home st s f t.home t.found).0

  both-known : (P : NodeInfo → NodeInfo → Type 0) (o p : Option NodeInfo) (n m : NodeInfo) → o ≡ Some n → p ≡ Some m → IfSome o (λ x. IfSome p (P x))
      → P n m
  both-known P (Some x) (Some y) n m at there both = subst (λ (z : NodeInfo). P z m) (same_Some x n at) (subst (P x) (same_Some y m there) both)
  both-known P (Some x) None n m at there both = absurd (cc)
  both-known P None p n m at there both = absurd (cc)

  -- the nodes of different fragments are apart
  pub nodes-apart : (f g : Fragment) → f ≢ g → (t : IsOn f.value) (v : IsOn g.value) → AreApart (code_of st s) f t.node g v.node
  nodes-apart f g other t v =
      let apart_homes : t.home.fragment ≢ v.home.fragment = λ same. other (sym (own_fragment f t) ∙ same ∙ own_fragment g v) in
      let keep = pairs-members (KeepApart nodes st) (KeepApart-turn nodes st) (seats_of st) t.home v.home seated.lawful (among f.value t)
      (among g.value v) (λ same. apart_homes (ap (λ (h : Held). h.fragment) same)) in
      let apart = both-known (λ n m. AreApart (code_of st t.home.stripe) t.home.fragment n v.home.fragment m) (node_at nodes t.home.seat.node)
      (node_at nodes v.home.seat.node) t.node v.node t.at v.at
      (keep (own_stripe f.value t ∙ sym (own_stripe g.value v)) apart_homes) in
      subst (λ (r : StripeNo). AreApart (code_of st r) f t.node g v.node) (own_stripe f.value t)
      (subst (λ (x : Fragment). AreApart (code_of st t.home.stripe) f t.node x v.node) (own_fragment g v)
      (subst (λ (x : Fragment). AreApart (code_of st t.home.stripe) x t.node v.home.fragment v.node) (own_fragment f t) apart))

-- ---- the fragments that an upgrade takes offline

module _ (nodes : List NodeInfo) (st : State) (u : UpgradeNo) (s : StripeNo) (seated : AreSeated nodes st) where
  abbrev then : State
  then = with_upgrading st u

  -- the fragment's home is in the domain
  record IsTaken (f : ℕ) : Type 0 where
    pub on : IsOn nodes st s seated f
    pub within : u ≡ on.node.upgrade

  domain-of : (gone down other same : Bool) → (not gone && (not down && not other)) ≡ true → (not gone && (not down && not same)) ≡ false
      → same ≡ true
  domain-of true down other same online offline = absurd (cc)
  domain-of false true other same online offline = absurd (cc)
  domain-of false false other true online offline = refl
  domain-of false false other false online offline = absurd (cc)

  by-node : (f : ℕ) (h : Held) → home_of st.homes s f ≡ Some h → (o : Option NodeInfo) → node_at nodes h.seat.node ≡ o
      → not (option_map_or (is_online st) o false) ≡ false → not (option_map_or (is_online then) o false) ≡ true → IsTaken f
  by-node f h found None at online offline = absurd (cc)
  by-node f h found (Some n) at online offline =
      let same = domain-of (is_gone (mode_of st n.number)) (is_down st n.number) (is_upgrading st n) (same_upgrade u n.upgrade) (not-false _ online)
      (not-true _ offline) in
      record {
        on = record { home = h; found = found; node = n; at = at };
        within = ap (λ (v : ℕ). record { value = v }) (eqb-true u.value n.upgrade.value same);
      }

  by-home : (f : ℕ) (o : Option Held) → home_of st.homes s f ≡ o
      → option_map_or (λ (seat : Seat). not (online_at nodes st seat.node)) (option_map (λ (h : Held). h.seat) o) true ≡ false
      → option_map_or (λ (seat : Seat). not (online_at nodes then seat.node)) (option_map (λ (h : Held). h.seat) o) true ≡ true → IsTaken f
  by-home f None found online offline = absurd (cc)
  by-home f (Some h) found online offline = by-node f h found (node_at nodes h.seat.node) refl online offline

  and_false : (a b : Bool) → a ≡ true → (a && b) ≡ false → b ≡ false
  and_false true b is e = e
  and_false false b is e = absurd (cc)

  taken : (f : ℕ) → missing nodes st s f ≡ false → missing nodes then s f ≡ true → IsTaken f
  taken f before hit =
      let parts = and_parts (has_fragment (code_of st s) f) _ hit in
      by-home f (home_of st.homes s f) refl (and_false _ _ parts.0 before) parts.1

  -- the fragments that become missing by the upgrade
  abbrev pub added : FragmentSet
  added f = not (missing nodes st s f) && missing nodes then s f

  -- the upgrade takes at most one fragment of each class
  pub no_two : HasNoTwo (code_of st s) added
  no_two f g other class here there =
      let first = and_parts (not (missing nodes st s f.value)) (missing nodes then s f.value) here in
      let second = and_parts (not (missing nodes st s g.value)) (missing nodes then s g.value) there in
      let t = taken f.value (not-true _ first.0) first.1 in
      let v = taken g.value (not-true _ second.0) second.1 in
      (nodes-apart nodes st s seated f g other t.on v.on).upgrades class (sym t.within ∙ v.within)

  -- ---- a whole stripe

  module _ (whole : level nodes st s ≡ Whole) where
    none-missing : NoneMissing (code_of st s) (missing nodes st s)
    none-missing = ((law_whole (code_of st s) (homeless st s) (missing nodes st s)).0 whole).1

    -- each fragment that is missing during the upgrade was not missing before
    none-before : (f : ℕ) → missing nodes then s f ≡ true → added f ≡ true
    none-before f hit =
        and_from _ _ (ap not (none-missing f (ltb-true f (fragment_count (code_of st s)) (and_parts (has_fragment (code_of st s) f) _ hit).0))) hit

    none_two : HasNoTwo (code_of st s) (missing nodes then s)
    none_two f g other class here there = no_two f g other class (none-before f.value here) (none-before g.value there)

    pub whole-recoverable : IsRecoverable (code_of st s) (missing nodes then s)
    whole-recoverable = recoverable-still (code_of st s) (missing nodes then s) none_two

    pub whole-margin : (t : ℕ) × (1 ≤ t) × IsMargin (code_of st s) (missing nodes then s) t
    whole-margin = one-left (code_of st s) (missing nodes then s) none_two

-- ---- which stripe would become unrecoverable

module _ (nodes : List NodeInfo) (st : State) (u : UpgradeNo) where
  lost-said : (s : StripeNo) → Contains (filter (is_lost_to nodes st u) st.stripes) s → WouldBeLost nodes st u s
  lost-said s here =
      let m = filter-member (is_lost_to nodes st u) st.stripes s here in
      let parts = and_parts (is_safe nodes st s) _ m.1 in
      let now = missing nodes (with_upgrading st u) s in
      record {
        there = list_any-member (same_stripe s) st.stripes s m.0 (eq-eqb s.value s.value refl);
        recoverable = (by_test (code_of st s) (missing nodes st s)).0 parts.0;
        lost = λ still. (let both : true ≡ false = sym ((by_test (code_of st s) now).1 still) ∙ not-true _ parts.1 in cc);
      }

  said-lost : (s : StripeNo) → WouldBeLost nodes st u s → Contains (filter (is_lost_to nodes st u) st.stripes) s
  said-lost s so =
      let now = missing nodes (with_upgrading st u) s in
      member-filter (is_lost_to nodes st u) st.stripes s (stripe-there st s so.there)
      (and_from _ _ ((by_test (code_of st s) (missing nodes st s)).1 so.recoverable)
      (ap not (missed (is_recoverable (code_of st s) now) (λ still. so.lost ((by_test (code_of st s) now).0 still)))))
    where
      missed : (b : Bool) → (b ≡ true → ⊥) → b ≡ false
      missed true never = absurd (never refl)
      missed false never = refl

  abbrev lower : StripeNo → StripeNo → Bool
  lower s t = nat_lt s.value t.value

  no_ties : (xs : List StripeNo) → HasNoTies lower xs
  no_ties xs a b here there x y =
      equal_stripes a b (let most = ltb-false a.value b.value x in let least = ltb-false b.value a.value y in omega (arith, most, least))

  -- the lowest of the stripes that would become unrecoverable
  pub lost-words : (s : StripeNo) → would_lose nodes st u ≡ Some s
      → WouldBeLost nodes st u s × ((r : StripeNo) → WouldBeLost nodes st u r → s.value ≤ r.value)
  unfolding would_lose
  lost-words s e = (
    lost-said s (least-listed lower s (filter (is_lost_to nodes st u) st.stripes) e),
    λ r so. ltb-false r.value s.value
        (All-contains (λ (r : StripeNo). lower r s ≡ false) _ r
        (least-none_before lower (IsStrictWeakOrder-by_number (λ (x : StripeNo). x.value)) s (filter (is_lost_to nodes st u) st.stripes) e)
        (said-lost r so)),
  )

  pub words-lost : (s : StripeNo) → WouldBeLost nodes st u s → ((r : StripeNo) → WouldBeLost nodes st u r → s.value ≤ r.value)
      → would_lose nodes st u ≡ Some s
  unfolding would_lose
  words-lost s so first =
      let xs = filter (is_lost_to nodes st u) st.stripes in
      least-only lower (IsStrictWeakOrder-by_number (λ (x : StripeNo). x.value)) s xs (no_ties xs) (said-lost s so)
      (All-members (λ (r : StripeNo). lower r s ≡ false) xs (λ r here. le-ltb r.value s.value (first r (lost-said r here))))

  pub none-words : would_lose nodes st u ≡ None → (s : StripeNo) → ¬ (WouldBeLost nodes st u s)
  unfolding would_lose
  none-words e s so =
      let xs = filter (is_lost_to nodes st u) st.stripes in
      not-Contains-nil s (subst (λ (ys : List StripeNo). Contains ys s) ((least-none lower xs).0 e) (said-lost s so))

  pub words-none : ((s : StripeNo) → ¬ (WouldBeLost nodes st u s)) → would_lose nodes st u ≡ None
  unfolding would_lose
  words-none none = let xs = filter (is_lost_to nodes st u) st.stripes in (least-none lower xs).1 (no-member xs (λ s here. none s (lost-said s here)))

-- ---- the replies

module _ (nodes : List NodeInfo) (st : State) (u : UpgradeNo) where
  -- what each reply means
  abbrev pub Says : Reply → Type 0
  Says Changed = (has_domain nodes u ≡ true) × (st.upgrading ≡ None) × (would_lose nodes st u ≡ None)
  Says (Refused refusal.UnknownDomain) = has_domain nodes u ≡ false
  Says (Refused (refusal.UpgradeRunning v)) = (has_domain nodes u ≡ true) × (st.upgrading ≡ Some v)
  Says (Refused (refusal.WouldLose s)) = (has_domain nodes u ≡ true) × (st.upgrading ≡ None) × (would_lose nodes st u ≡ Some s)
  Says _ = ⊥

  by-answer : has_domain nodes u ≡ true → (o : Option UpgradeNo) → st.upgrading ≡ o → (lost : Option StripeNo) → would_lose nodes st u ≡ lost
      → Says (upgrade_answer st u o lost).0
  by-answer known (Some v) runs lost is = (known, runs)
  by-answer known None runs (Some s) is = (known, runs, is)
  by-answer known None runs None is = (known, runs, is)

  by-domain : (b : Bool) → has_domain nodes u ≡ b
      → Says (refuse_if (not b) refusal.UnknownDomain st (upgrade_answer st u st.upgrading (would_lose nodes st u))).0
  by-domain false is = is
  by-domain true is = by-answer is st.upgrading refl (would_lose nodes st u) refl

  says : Says (upgrade_outcome nodes st u).0
  unfolding upgrade_outcome
  says = by-domain (has_domain nodes u) refl

  -- a reply is given only if what it means holds
  pub upgrade-told : (r : Reply) → (upgrade_outcome nodes st u).0 ≡ r → Says r
  upgrade-told r told = subst Says told says

  -- and always if it holds
  pub tell-lost : (s : StripeNo) → Says (Refused (refusal.WouldLose s)) → (upgrade_outcome nodes st u).0 ≡ Refused (refusal.WouldLose s)
  unfolding upgrade_outcome
  tell-lost s (known, runs, lost) = rw known (ap₂ (λ (o : Option UpgradeNo) (l : Option StripeNo). (upgrade_answer st u o l).0) runs lost)

  pub tell-upgrades : Says Changed → (upgrade_outcome nodes st u).0 ≡ Changed
  unfolding upgrade_outcome
  tell-upgrades (known, runs, lost) = rw known (ap₂ (λ (o : Option UpgradeNo) (l : Option StripeNo). (upgrade_answer st u o l).0) runs lost)

  -- the state after an upgrade
  pub upgrade-after : (upgrade_outcome nodes st u).0 ≡ Changed → (upgrade_outcome nodes st u).1 ≡ with_upgrading st u
  upgrade-after told = upgrade-changed nodes st u ∙ ap (changed_by st (Upgrade u)) told

  -- a stripe that was recoverable is recoverable during the upgrade
  still-by : (s : StripeNo) → ((s : StripeNo) → ¬ (WouldBeLost nodes st u s)) → has_stripe st s ≡ true
      → IsRecoverable (code_of st s) (missing nodes st s)
      → (b : Bool) → is_safe nodes (with_upgrading st u) s ≡ b → IsRecoverable (code_of st s) (missing nodes (with_upgrading st u) s)
  still-by s none there recoverable true is = (by_test (code_of st s) (missing nodes (with_upgrading st u) s)).0 is
  still-by s none there recoverable false is = absurd (none s (record {
    there = there;
    recoverable = recoverable;
    lost = λ still. (let both : true ≡ false = sym ((by_test (code_of st s) (missing nodes (with_upgrading st u) s)).1 still) ∙ is in cc);
  }))

  pub upgrade-keeps : (s : StripeNo) → (upgrade_outcome nodes st u).0 ≡ Changed → has_stripe st s ≡ true
      → IsRecoverable (code_of st s) (missing nodes st s)
      → IsRecoverable (code_of st s) (missing nodes (upgrade_outcome nodes st u).1 s)
  upgrade-keeps s told there recoverable =
      subst (λ (next : State). IsRecoverable (code_of st s) (missing nodes next s)) (sym (upgrade-after told))
      (still-by s (none-words nodes st u (upgrade-told Changed told).2) there recoverable (is_safe nodes (with_upgrading st u) s) refl)

  -- Upgrade is not refused for a whole stripe, which survives one more loss during the upgrade
  pub whole-safe : (s : StripeNo) → AreSeated nodes st → level nodes st s ≡ Whole → (upgrade_outcome nodes st u).0 ≢ Refused (refusal.WouldLose s)
  whole-safe s seated whole told =
      (lost-words nodes st u s (upgrade-told (Refused (refusal.WouldLose s)) told).2).0.lost (whole-recoverable nodes st u s seated whole)

  pub whole-left : (s : StripeNo) → AreSeated nodes st → level nodes st s ≡ Whole → (upgrade_outcome nodes st u).0 ≡ Changed
      → (t : ℕ) × (1 ≤ t) × IsMargin (code_of st s) (missing nodes (upgrade_outcome nodes st u).1 s) t
  whole-left s seated whole told =
      subst (λ (next : State). (t : ℕ) × (1 ≤ t) × IsMargin (code_of st s) (missing nodes next s) t) (sym (upgrade-after told))
      (whole-margin nodes st u s seated whole)
