-- A stripe that an upgrade would lose is short: it needs a lease, or has homes on several nodes that are not online.
use Rattle.std.proofs.Common.{[], ◌≡◌, ◌≢◌, ℕ, ◌+◌, ◌-◌, ◌≤◌, ◌<◌, inl, inr, Bool, true, false, not, ◌&&◌, ◌||◌, nat_lt, nat_le, cond, List, ◌∷◌, map, ap₂, Option, Some, None, option_map, ap₂, IsFalse, IsSomeAnd, arith, refl, sym, ap, ap₂, ◌∙◌, subst}
use Rattle.std.specs.List.{Contains, AllPairs, count_by}
use Rattle.std.specs.Option.{option_map_or}
use Rattle.std.proofs.lemmas.Bool.{cases_Bool, eqb-true, eq-eqb, ltb-false, leb-false, le-leb, ltb-true, not-true, and_parts, and_cases, and_from}
use Rattle.std.proofs.lemmas.Option.{same_Some}
use Rattle.std.proofs.lemmas.List.Elements.{All-contains, Contains-append_left}
use Rattle.std.proofs.lemmas.List.Sums.{sum_by-cons}
use Rattle.lrc_code.specs.declared.codes.Class.{Class}
use Rattle.lrc_code.specs.declared.codes.Class.TheVariants.{A, B, G}
use Rattle.lrc_code.specs.declared.codes.Code.{Code}
use Rattle.lrc_code.specs.declared.numbers.StripeNo.{StripeNo}
use Rattle.lrc_code.specs.declared.numbers.NodeNo.{NodeNo}
use Rattle.lrc_code.specs.declared.numbers.UpgradeNo.{UpgradeNo}
use Rattle.lrc_code.specs.declared.numbers.Fragment.{Fragment}
use Rattle.lrc_code.specs.Numbers.{same_node}
use Rattle.lrc_code.specs.Codes.{fragments, fragment_count, has_fragment, members, all_fragments}
use Rattle.lrc_code.specs.Losses.{FragmentSet, losses_in, size_of, excess}
use Rattle.lrc_code.proofs.LossesLemmas.{size_of-classes}
use Rattle.lrc_code.proofs.NumbersLemmas.{equal_nodes}
use Rattle.lrc_topology.specs.declared.NodeInfo.{NodeInfo}
use Rattle.lrc_topology.specs.declared.seat.Seat.{Seat}
use Rattle.lrc_topology.specs.declared.seat.Held.{Held}
use Rattle.lrc_topology.specs.Nodes.{node_at}
use Rattle.lrc_terms.specs.Levels.{home_of, homes_of, missing_in, needs_in, has_some}
use Rattle.lrc_nodes.specs.States.{online_in}
use Rattle.lrc_stripes.specs.Stored.{Stored, is_home_on, has_work}
use Rattle.lrc_stripes.specs.Upgrades.{is_stripe_on, offline_count, IsFirstLostTo, IsFirstShortLostTo, is_short_lost_to}
use Rattle.lrc_terms.proofs.LevelLemmas.{has_some-false}
use Rattle.lrc_terms.specs.declared.mode.Mode.TheVariants.{Gone}
use Rattle.lrc_rules.specs.States.{State, has_stripe, code_of, held_by, seats_of, taken_seats, mode_of, online_at, drains_at, missing}
use Rattle.lrc_rules.specs.Repairs.{is_safe}
use Rattle.lrc_rules.specs.Goodness.{AreSeated, IsStanding}
use Rattle.lrc_rules.specs.Steps.{with_upgrading, is_lost_to}
use Rattle.lrc_store.specs.Stores.{stored_of}
use Rattle.lrc_rules.proofs.MemberLemmas.{not-Contains-nil, Contains-cases, find-member, list_any-member, none-count, All-members, map-member}
use Rattle.lrc_rules.proofs.SeatingLemmas.{fragments-distinct}
use Rattle.lrc_bars.proofs.FragmentListLemmas.{all-fragments}
use Rattle.lrc_rules.proofs.SafeUpgradeLemmas.{at_most_one, pairs-by, class-one, IsOn, nodes-apart, added, no_two}
use Rattle.lrc_store.proofs.NodeStateLemmas.{infos-kept, online-kept, work-kept}
use Rattle.lrc_store.proofs.UpgradeLemmas.{lost-as}
use Rattle.lrc_store.proofs.DomainLemmas.{domain-out}
use Rattle.lrc_rules.proofs.LookUpLemmas.{found-home}
use Rattle.lrc_stripes.specs.Upgrades as upgrades

-- ---- counting

-- what is covered by two tests passes no more often than both
count-parts : {X : Type 0} (m a b : X → Bool) → ((k : X) → m k ≡ true → a k ≡ false → b k ≡ true) → (xs : List X) → count_by m xs ≤ count_by a xs + count_by b xs
count-parts m a b covered [] = omega arith
count-parts {X} m a b covered (x ∷ xs) =
    let rest = count-parts m a b covered xs in
    let whole = sum_by-cons (λ (k : X). cond (m k) 1 0) x xs in
    let one = sum_by-cons (λ (k : X). cond (a k) 1 0) x xs in
    let other = sum_by-cons (λ (k : X). cond (b k) 1 0) x xs in
    let own = here (m x) (a x) (b x) (covered x) in
    omega (arith, rest, whole, one, other, own)
  where
    here : (p q r : Bool) → (p ≡ true → q ≡ false → r ≡ true) → cond p 1 0 ≤ cond q 1 0 + cond r 1 0
    here false q r c = omega arith
    here true true r c = omega arith
    here true false true c = omega arith
    here true false false c = absurd (let clash = c refl refl in cc)

missed : (b : Bool) → (b ≡ true → ⊥) → b ≡ false
missed true never = absurd (never refl)
missed false never = refl

-- where what passes a test is on different elements of a list, each of which is counted, no more pass than are counted
count-places : {X Y : Type 0} (test : X → Bool) (on : X → Y → Bool) (counted : Y → Bool) (xs : List X) → AllPairs (λ a b. a ≢ b) xs → (ys : List Y)
    → ((x : X) → test x ≡ true → (y : Y) × Contains ys y × (on x y ≡ true)) → ((x : X) (y : Y) → test x ≡ true → on x y ≡ true → counted y ≡ true)
    → ((a b : X) (y : Y) → a ≢ b → test a ≡ true → test b ≡ true → on a y ≡ true → on b y ≡ true → ⊥) → count_by test xs ≤ count_by counted ys
count-places {X} test on counted xs distinct [] place counts apart =
    let none = none-count test xs (All-members (λ (x : X). test x ≡ false) xs (λ x inside. missed (test x) (λ hit. not-Contains-nil (place x hit).0 (place x hit).1))) in omega (arith, none)
count-places {X} {Y} test on counted xs distinct (y ∷ ys) place counts apart =
    let here : X → Bool = λ x. test x && on x y in
    let other : X → Bool = λ x. test x && not (on x y) in
    let split = count-parts test here other (λ x hit miss. not-here (test x) (on x y) hit miss) xs in
    let one = at_most_one here xs (pairs-by (λ (a b : X). here a ≡ true → here b ≡ true → ⊥) xs distinct
    (λ a b inside also differ p q. apart a b y differ (and_parts (test a) (on a y) p).0 (and_parts (test b) (on b y) q).0 (and_parts (test a) (on a y) p).1 (and_parts (test b) (on b y) q).1)) in
    let own : count_by here xs ≤ cond (counted y) 1 0 = elim (cases_Bool (counted y)) [
      | inl hit ↦ rw hit one
      | inr miss ↦
          let none = none-count here xs (All-members (λ (x : X). here x ≡ false) xs (λ x inside. missed (here x) (λ p.
          (let clash : true ≡ false = sym (counts x y (and_parts (test x) (on x y) p).0 (and_parts (test x) (on x y) p).1) ∙ miss in cc)))) in
          rw miss (omega (arith, none))
    ] in
    let later = count-places other on counted xs distinct ys (λ x p. left x p (place x (and_parts (test x) (not (on x y)) p).0))
    (λ x z p at. counts x z (and_parts (test x) (not (on x y)) p).0 at)
    (λ a b z differ p q at also. apart a b z differ (and_parts (test a) (not (on a y)) p).0 (and_parts (test b) (not (on b y)) q).0 at also) in
    let parts = sum_by-cons (λ (z : Y). cond (counted z) 1 0) y ys in
    omega (arith, split, own, later, parts)
  where
    not-here : (p q : Bool) → p ≡ true → (p && q) ≡ false → (p && not q) ≡ true
    not-here true true hit miss = absurd (cc)
    not-here true false hit miss = refl
    not-here false q hit miss = absurd (cc)

    left : (x : X) → (test x && not (on x y)) ≡ true → (z : Y) × Contains (y ∷ ys) z × (on x z ≡ true) → (z : Y) × Contains ys z × (on x z ≡ true)
    left x p (z, inside, at) = elim (Contains-cases y z ys inside) [
      | inr behind ↦ (z, behind, at)
      | inl first ↦ absurd (let clash : true ≡ false = sym at ∙ (ap (on x) (sym first) ∙ not-true _ (and_parts (test x) (not (on x y)) p).1) in cc)
    ]

few-in_all : (a b g a1 b1 g1 a0 b0 g0 : ℕ) → a ≤ a1 + a0 → b ≤ b1 + b0 → g ≤ g1 + g0 → a1 ≤ 1 → b1 ≤ 1 → g1 ≤ 1 → a0 + b0 + g0 ≤ 1 → (a - 1) + (b - 1) + g ≤ 2
few-in_all a b g a1 b1 g1 a0 b0 g0 x y z p q r few = omega (arith, x, y, z, p, q, r, few)

-- ---- a stripe without work

module _ (nodes : List NodeInfo) (st : State) (s : StripeNo) (seated : AreSeated nodes st) (there : has_stripe st s ≡ true)
    (idle : has_work (stored_of nodes st) s ≡ false) where
  -- the fragment's home is on a node that is not online
  record IsAway (f : ℕ) : Type 0 where
    pub on : IsOn nodes st s seated f
    pub off : online_at nodes st on.home.seat.node ≡ false

  abbrev code : Code
  code = code_of st s

  abbrev homes : ℕ → Option Seat
  homes f = option_map (λ (h : Held). h.seat) (home_of st.homes s f)

  none-needed : has_some code (needs_in code (drains_at nodes st) homes) ≡ false
  none-needed = sym (ap (λ b. b && has_some code (needs_in code (drains_at nodes st) homes)) there) ∙ (sym (work-kept nodes st s) ∙ idle)

  by-node : (f : ℕ) (h : Held) → home_of st.homes s f ≡ Some h → online_at nodes st h.seat.node ≡ false → (o : Option NodeInfo)
      → node_at nodes h.seat.node ≡ o → IsSomeAnd o (λ n. (h.seat.slot < n.slots) × (mode_of st h.seat.node ≢ Gone)) → IsAway f
  by-node f h found off None at stands = absurd stands
  by-node f h found off (Some n) at stands = record { on = record { home = h; found = found; node = n; at = at }; off = off }

  by-home : (f : ℕ) → (o : Option Held) → home_of st.homes s f ≡ o
      → option_map_or (λ (seat : Seat). drains_at nodes st seat.node) (option_map (λ (h : Held). h.seat) o) true ≡ false
      → option_map_or (λ (seat : Seat). not (online_at nodes st seat.node)) (option_map (λ (h : Held). h.seat) o) true ≡ true → IsAway f
  by-home f None found needed hit = absurd (cc)
  by-home f (Some h) found needed hit =
      let listed = Contains-append_left st.homes (map held_by st.leases) h (found-home st s f h found).0 in
      by-node f h found (not-true _ hit) (node_at nodes h.seat.node) refl
      (All-contains (IsStanding nodes st) (taken_seats st) h.seat seated.standing (map-member (λ (g : Held). g.seat) (seats_of st) h listed))

  and_false : (a b : Bool) → a ≡ true → (a && b) ≡ false → b ≡ false
  and_false true b is e = e
  and_false false b is e = absurd (cc)

  away : (f : ℕ) → missing nodes st s f ≡ true → IsAway f
  away f hit =
      let parts = and_parts (has_fragment code f) _ hit in
      let within = ltb-true f (fragment_count code) parts.0 in
      by-home f (home_of st.homes s f) refl
      (and_false _ _ parts.0 (has_some-false code (needs_in code (drains_at nodes st) homes) none-needed f within)) parts.1

  -- such a node is counted
  abbrev counted : NodeInfo → Bool
  counted n = not (online_at nodes st n.number) && is_stripe_on (stored_of nodes st) n.number s

  counted-all : count_by counted nodes ≡ offline_count (stored_of nodes st) s
  counted-all =
      sym (ap₂ (λ (online : NodeNo → Bool) (ns : List NodeInfo). count_by (λ n. not (online n.number) && is_stripe_on (stored_of nodes st) n.number s) ns) (online-kept nodes st) (infos-kept st nodes))

  -- the fragment's home is on the node
  abbrev is_on : Fragment → NodeInfo → Bool
  is_on f n = is_home_on (stored_of nodes st) n.number (s, f)

  own-number : (f : ℕ) (t : IsAway f) → (t.on.home.seat.node ≡ t.on.node.number) × Contains nodes t.on.node
  own-number f t =
      let found = find-member (λ (n : NodeInfo). same_node t.on.home.seat.node n.number) nodes t.on.node t.on.at in
      (equal_nodes t.on.home.seat.node t.on.node.number (eqb-true _ _ found.1), found.0)

  is_on-as : (f : Fragment) (n : NodeInfo) (t : IsAway f.value) → is_on f n ≡ same_node n.number t.on.home.seat.node
  is_on-as f n t = ap (λ (o : Option Held). option_map_or (λ (seat : Seat). same_node n.number seat.node) (option_map (λ (h : Held). h.seat) o) false) t.on.found

  on-number : (f : Fragment) (n : NodeInfo) (t : IsAway f.value) → is_on f n ≡ true → n.number ≡ t.on.home.seat.node
  on-number f n t hit = equal_nodes n.number t.on.home.seat.node (eqb-true _ _ (sym (is_on-as f n t) ∙ hit))

  is-counted : (f : Fragment) (n : NodeInfo) → missing nodes st s f.value ≡ true → is_on f n ≡ true → counted n ≡ true
  is-counted f n gone hit =
      let t = away f.value gone in
      and_from _ _ (ap not (ap (online_at nodes st) (on-number f n t hit) ∙ t.off))
      (list_any-member (λ (g : Fragment). is_home_on (stored_of nodes st) n.number (s, g)) all_fragments f (all-fragments f) hit)

  placed : (f : Fragment) → missing nodes st s f.value ≡ true → (n : NodeInfo) × Contains nodes n × (is_on f n ≡ true)
  placed f gone =
      let t = away f.value gone in
      let own = own-number f.value t in
      (t.on.node, own.1, is_on-as f t.on.node t ∙ eq-eqb _ _ (ap (λ (n : NodeNo). n.value) (sym own.0)))

  one-each : (f g : Fragment) (n : NodeInfo) → f ≢ g → missing nodes st s f.value ≡ true → missing nodes st s g.value ≡ true → is_on f n ≡ true → is_on g n ≡ true → ⊥
  one-each f g n other here also hit too =
      let t = away f.value here in
      let v = away g.value also in
      let apart = nodes-apart nodes st s seated f g other t.on v.on in
      let same : t.on.node ≡ v.on.node =
      same_Some t.on.node v.on.node (sym t.on.at ∙ (ap (node_at nodes) (sym (on-number f n t hit) ∙ on-number g n v too) ∙ v.on.at)) in
      apart.faults (ap (λ (x : NodeInfo). x.fault) same)

  -- no more fragments are missing than it has homes on nodes that are not online
  pub few-now : size_of code (missing nodes st s) ≤ offline_count (stored_of nodes st) s
  few-now =
      subst (λ (k : ℕ). size_of code (missing nodes st s) ≤ k) counted-all
      (count-places (λ (f : Fragment). missing nodes st s f.value) is_on counted (fragments code) (fragments-distinct code) nodes placed is-counted one-each)

-- ---- a stripe that misses few fragments

module _ (nodes : List NodeInfo) (st : State) (s : StripeNo) (seated : AreSeated nodes st) (u : UpgradeNo) where
  abbrev here : Code
  here = code_of st s

  abbrev now : FragmentSet
  now = missing nodes st s

  abbrev then : FragmentSet
  then = missing nodes (with_upgrading st u) s

  abbrev new : FragmentSet
  new = added nodes st u s seated

  covered : (k : ℕ) → then k ≡ true → new k ≡ false → now k ≡ true
  covered k hit miss = by (now k) (sym (ap (λ b. not (now k) && b) hit) ∙ miss) where
    by : (b : Bool) → (not b && true) ≡ false → b ≡ true
    by true e = refl
    by false e = absurd (cc)

  part : (c : Class) → losses_in here c then ≤ losses_in here c new + losses_in here c now
  part c = count-parts then new now covered (members here c)

  one : (c : Class) → losses_in here c new ≤ 1
  one = class-one here new (no_two nodes st u s seated)

  -- where it misses at most one, the upgrade leaves it recoverable
  pub few-then : size_of here now ≤ 1 → excess here then ≤ 2
  few-then few =
      few-in_all _ _ _ (losses_in here A new) (losses_in here B new) (losses_in here G new) (losses_in here A now) (losses_in here B now) (losses_in here G now)
      (part A) (part B) (part G) (one A) (one B) (one G) (subst (λ (n : ℕ). n ≤ 1) (size_of-classes here now) few)

-- ---- the stripes that are lost

or_false : (a b : Bool) → (a || b) ≡ false → (a ≡ false) × (b ≡ false)
or_false true b e = absurd (cc)
or_false false b e = (refl, e)

and-off : (a : Bool) → {b : Bool} → b ≡ false → (a && b) ≡ false
and-off true e = e
and-off false e = refl

module _ (nodes : List NodeInfo) (st : State) (seated : AreSeated nodes st) (u : UpgradeNo) (none : st.upgrading ≡ None) where
  -- a stripe that is not short stays recoverable
  few-after : (s : StripeNo) → has_stripe st s ≡ true → upgrades.is_short (stored_of nodes st) s ≡ false
      → excess (code_of st s) (missing nodes (with_upgrading st u) s) ≤ 2
  unfolding upgrades.is_short
  few-after s there e =
      let parts = or_false _ _ e in
      let count = few-now nodes st s seated there parts.1 in
      let most = ltb-false 1 (offline_count (stored_of nodes st) s) parts.0 in
      few-then nodes st s seated u (omega (arith, count, most))

  -- a stripe that is lost is short
  pub lost-short : (s : StripeNo) → upgrades.is_lost_to (stored_of nodes st) u s ≡ true → upgrades.is_short (stored_of nodes st) s ≡ true
  lost-short s lost = by (upgrades.is_short (stored_of nodes st) s) refl where
    by : (b : Bool) → upgrades.is_short (stored_of nodes st) s ≡ b → upgrades.is_short (stored_of nodes st) s ≡ true
    by true e = e
    by false e = absurd (
        let parts = and_parts (has_stripe st s) (is_lost_to nodes st u s) (sym (lost-as nodes st u none s) ∙ lost) in
        let few = few-after s parts.0 e in
        let clash : true ≡ false = sym (le-leb _ _ few) ∙ not-true _ (and_parts (is_safe nodes st s) _ parts.1).1 in cc)

  lost-either : (s : StripeNo) → is_short_lost_to (stored_of nodes st) u s ≡ false → upgrades.is_lost_to (stored_of nodes st) u s ≡ false
  lost-either s miss = by (upgrades.is_lost_to (stored_of nodes st) u s) refl where
    by : (b : Bool) → upgrades.is_lost_to (stored_of nodes st) u s ≡ b → upgrades.is_lost_to (stored_of nodes st) u s ≡ false
    by false e = e
    by true e = absurd (let clash : true ≡ false = sym (and_from _ _ (lost-short s e) e) ∙ miss in cc)

  -- so the first short one that is lost is the first that is
  pub short-first : (s : StripeNo) → IsFirstShortLostTo (stored_of nodes st) u s → IsFirstLostTo (stored_of nodes st) u s
  short-first s is = record {
    lost = (and_parts (upgrades.is_short (stored_of nodes st) s) _ is.lost).1;
    first = λ r lower. lost-either r (is.first r lower);
  }

  pub first-short : (s : StripeNo) → IsFirstLostTo (stored_of nodes st) u s → IsFirstShortLostTo (stored_of nodes st) u s
  first-short s is = record {
    lost = and_from _ _ (lost-short s is.lost) is.lost;
    first = λ r lower. and-off (upgrades.is_short (stored_of nodes st) r) (is.first r lower);
  }

  pub short-none : ((s : StripeNo) → IsFalse (is_short_lost_to (stored_of nodes st) u s)) → (s : StripeNo)
      → IsFalse (upgrades.is_lost_to (stored_of nodes st) u s)
  short-none all s = lost-either s (all s)
