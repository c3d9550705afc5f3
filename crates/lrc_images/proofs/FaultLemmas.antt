-- The first cause of a row is the first of its faults, in words.
use Rattle.std.proofs.Common.{[], ◌≡◌, ◌≢◌, ◌⊎◌, ◌↔◌, ◌+◌, ◌<◌, ◌≤◌, ℕ, inl, inr, Bool, true, false, not, ◌&&◌, nat_lt, nat_le, nat_eq, List, ◌∷◌, ◌++◌, map, flat_map, get_or, Option, Some, None, is_none, refl, sym, ap, ◌∙◌, subst, append-nil, arith}
use Rattle.std.specs.Prelude.{IsTrue}
use Rattle.std.specs.List.{All, Contains, list_any, sum_by}
use Rattle.std.specs.Option.{option_map_or}
use Rattle.std.proofs.lemmas.Bool.{cases_Bool, ltb-true, ltb-false, lt-ltb, le-ltb, leb-false, lt-leb, eqb-true, eqb-false, eq-eqb, ne_eqb, and_parts, and_from, and_cases, and_left, and_right, or_parts, or_from, not_from_false, false_from_ne_true}
use Rattle.std.proofs.lemmas.List.Elements.{All-nil, All-cons, All-head, All-tail, All-contains, All-weaker, Contains-push}
use Rattle.std.proofs.lemmas.List.Sums.{sum_by-cons}
use Rattle.lrc_code.specs.declared.codes.Code.{Code}
use Rattle.lrc_code.specs.declared.numbers.StripeNo.{StripeNo}
use Rattle.lrc_code.specs.declared.numbers.UpgradeNo.{UpgradeNo}
use Rattle.lrc_code.specs.declared.numbers.Fragment.{Fragment}
use Rattle.lrc_code.specs.Numbers.{same_stripe, same_upgrade}
use Rattle.lrc_code.specs.Codes.{all_fragments}
use Rattle.lrc_code.proofs.NumbersLemmas.{equal_stripes}
use Rattle.lrc_topology.specs.declared.NodeInfo.{NodeInfo}
use Rattle.lrc_topology.specs.declared.seat.Held.{Held}
use Rattle.lrc_topology.specs.Nodes.{node_at, has_domain}
use Rattle.lrc_terms.specs.declared.mode.Mode.{Mode}
use Rattle.lrc_terms.specs.declared.mode.Mode.TheVariants.{Active, Draining, Gone}
use Rattle.lrc_terms.specs.Modes.{is_active, is_gone}
use Rattle.lrc_rules.specs.declared.entry.Entry.{Entry}
use Rattle.lrc_rules.specs.States.{State, has_stripe, code_of, held_by}
use Rattle.lrc_rules.specs.Leases.{grants, term}
use Rattle.lrc_rules.proofs.MemberLemmas.{All-members, All-list_any, list_any-All, member-list_any, list_any-member, map-member}
use Rattle.lrc_rules.proofs.TakenLemmas.{member-map}
use Rattle.lrc_rules.proofs.SeatingLists.{pairs-push}
use Rattle.lrc_rules.proofs.NodeWordsLemmas.{gone-mode, mode-gone, flips-true, flips-false}
use Rattle.lrc_images.specs.declared.cause.Cause.{Cause}
use Rattle.lrc_images.specs.declared.cause.Cause.TheVariants as cause
use Rattle.lrc_images.specs.declared.image.NodeRow.{NodeRow}
use Rattle.lrc_images.specs.declared.image.StripeRow.{StripeRow}
use Rattle.lrc_images.specs.declared.image.GrantRow.{GrantRow}
use Rattle.lrc_images.specs.declared.image.LeaseRow.{LeaseRow}
use Rattle.lrc_images.specs.declared.image.Image.{Image}
use Rattle.lrc_images.specs.Images.{earlier, row_homes, row_lease, image_state}
use Rattle.lrc_images.specs.Rising.{node_first, stripe_first, grant_first, lease_first, tells_node, tells_grants, IsRising}
use Rattle.lrc_images.specs.Causes.{most_grants, most_ticks, most_entries, is_out_of_order, head_cause, node_cause, seat_cause, with_homes, homes_cause, stripe_cause, grant_cause, with_leases, lease_cause}
use Rattle.lrc_images.specs.Faults.{IsFirst, IsFirstIn, IsHeadFault, head_causes, IsNodeFault, node_causes, IsSeatFault, seat_causes, IsStripeBehind, IsStripeCause, IsGrantFault, grant_causes, target_of, held_with, IsLeaseFault, lease_causes}
use Rattle.lrc_images.proofs.PlaceLemmas.{same-answer, both-ways, first-same, first-if, first-none, first-of}
use Rattle.lrc_images.proofs.AnswerLemmas.{comes-after}
use Rattle.lrc_images.proofs.EarlierLemmas.{wide-fragment, counted, grants-earlier}
use Rattle.lrc_images.proofs.RisingLemmas.{code-row, row-stripe}
use Rattle.lrc_images.proofs.SeatFaultLemmas.{seat-first}

-- ---- order

-- the number is not above the earlier one
not-above : (earlier later : ℕ) → (not (nat_lt earlier later) ≡ true) ↔ (later ≤ earlier)
not-above earlier later = (
  λ hit. ltb-false earlier later (flips-true (nat_lt earlier later) hit),
  λ low. not_from_false (nat_lt earlier later) (le-ltb earlier later low),
)

-- a row is out of order if some earlier one is not before it
out-of-order : {X : Type 0} (first : X → X → Bool) (before : List X) (x : X) (B : X → Type 0) → ((b : X) → (not (first b x) ≡ true) ↔ B b)
    → (is_out_of_order first before x ≡ true) ↔ ((b : X) × Contains before b × B b)
out-of-order first before x B own = (
  λ hit. let m = member-list_any (λ b. not (first b x)) before hit in (m.0, m.1, (own m.0).0 m.2),
  λ p. list_any-member (λ b. not (first b x)) before p.0 p.1 ((own p.0).1 p.2),
)

-- ---- beside the rows

no-domain : (nodes : List NodeInfo) (o : Option UpgradeNo)
    → (option_map_or (λ u. not (has_domain nodes u)) o false ≡ true) ↔ ((u : UpgradeNo) × (o ≡ Some u) × All (λ n. n.upgrade ≢ u) nodes)
no-domain nodes None = (
  λ hit. absurd (let never : false ≡ true = hit in cc),
  λ p. absurd (let never : ◌≡◌ {A = Option UpgradeNo} None (Some p.0) = p.1 in cc),
)
no-domain nodes (Some u) = (
  λ hit. (
    u,
    refl,
    All-weaker (λ (n : NodeInfo). same_upgrade n.upgrade u ≡ false) (λ n. n.upgrade ≢ u)
        (λ n miss same. eqb-false n.upgrade.value u.value miss (ap (λ (v : UpgradeNo). v.value) same)) nodes
        (All-list_any (λ (n : NodeInfo). same_upgrade n.upgrade u) nodes (flips-true (has_domain nodes u) hit)),
  ),
  λ p.
      let own = same-answer u p.0 p.1 in
      not_from_false (has_domain nodes u)
      (list_any-All (λ (n : NodeInfo). same_upgrade n.upgrade u) nodes
      (All-weaker (λ (n : NodeInfo). n.upgrade ≢ p.0) (λ n. same_upgrade n.upgrade u ≡ false)
      (λ n other. ne_eqb n.upgrade.value u.value (λ e. other (ap (λ v. record { value = v }) e ∙ own))) nodes p.2)),
)

pub head-first : (nodes : List NodeInfo) (i : Image) (c : Cause) → (head_cause nodes i ≡ Some c) ↔ IsFirst (IsHeadFault nodes i) head_causes c
head-first nodes i c =
    let fault = IsHeadFault nodes i in
    first-if (option_map_or (λ u. not (has_domain nodes u)) i.upgrading false) cause.UnknownDomain c _ (fault cause.UnknownDomain)
    (IsFirst fault (cause.TooManyEntries ∷ cause.TooManyTicks ∷ []) c) (no-domain nodes i.upgrading)
    (λ _. first-if (nat_lt most_entries i.before) cause.TooManyEntries c _ (fault cause.TooManyEntries) (IsFirst fault (cause.TooManyTicks ∷ []) c)
    (ltb-true most_entries i.before, lt-ltb most_entries i.before)
    (λ _. first-if (nat_lt most_ticks i.clock) cause.TooManyTicks c None (fault cause.TooManyTicks) ⊥ (ltb-true most_ticks i.clock, lt-ltb most_ticks i.clock)
    (λ _. first-none c)))

-- ---- nodes

says-nothing : (m : Mode) (down : Bool) → (not (not (is_active m && not down)) ≡ true) ↔ ((m ≡ Active) × (¬ IsTrue down))
says-nothing Active true = (λ hit. absurd (let never : false ≡ true = hit in cc), λ p. absurd (p.1 refl))
says-nothing Active false = (λ hit. (refl, λ down. (let never : false ≡ true = down in cc)), λ p. refl)
says-nothing Draining down = (λ hit. absurd (let never : false ≡ true = hit in cc), λ p. absurd (let never : Draining ≡ Active = p.0 in cc))
says-nothing Gone down = (λ hit. absurd (let never : false ≡ true = hit in cc), λ p. absurd (let never : Gone ≡ Active = p.0 in cc))

no-node : (o : Option NodeInfo) → (is_none o ≡ true) ↔ (o ≡ None)
no-node None = (λ hit. refl, λ is. refl)
no-node (Some n) = (λ hit. absurd (let never : false ≡ true = hit in cc), λ is. absurd (let never : ◌≡◌ {A = Option NodeInfo} (Some n) None = is in cc))

gone-and-down : (m : Mode) (down : Bool) → ((is_gone m && down) ≡ true) ↔ ((m ≡ Gone) × IsTrue down)
gone-and-down m down = (
  λ hit. let parts = and_parts (is_gone m) down hit in (gone-mode m parts.0, parts.1),
  λ p. and_from (is_gone m) down (mode-gone m p.0) p.1,
)

pub node-first : (nodes : List NodeInfo) (before : List NodeRow) (r : NodeRow) (c : Cause)
    → (node_cause nodes before r ≡ Some c) ↔ IsFirst (IsNodeFault nodes before r) node_causes c
node-first nodes before r c =
    let fault = IsNodeFault nodes before r in
    first-if (is_out_of_order node_first before r) cause.OutOfOrder c _ (fault cause.OutOfOrder)
    (IsFirst fault (cause.SaysNothing ∷ cause.UnknownNode ∷ cause.GoneAndDown ∷ []) c)
    (out-of-order node_first before r (λ b. r.node.value ≤ b.node.value) (λ b. not-above b.node.value r.node.value))
    (λ _. first-if (not (tells_node r)) cause.SaysNothing c _ (fault cause.SaysNothing) (IsFirst fault (cause.UnknownNode ∷ cause.GoneAndDown ∷ []) c)
    (says-nothing r.mode r.is_down)
    (λ _. first-if (is_none (node_at nodes r.node)) cause.UnknownNode c _ (fault cause.UnknownNode) (IsFirst fault (cause.GoneAndDown ∷ []) c) (no-node (node_at nodes r.node))
    (λ _. first-if (is_gone r.mode && r.is_down) cause.GoneAndDown c None (fault cause.GoneAndDown) ⊥ (gone-and-down r.mode r.is_down)
    (λ _. first-none c))))

-- ---- stripes

module _ (nodes : List NodeInfo) (i : Image) (before : List StripeRow) (r : StripeRow) (rising : IsRising stripe_first before) where
  abbrev home_fault : List Held → Held → Cause → Type 0
  home_fault homes h = IsSeatFault nodes i.nodes.items r.code (flat_map row_homes before ++ homes) h

  homes-first : is_out_of_order stripe_first before r ≡ false → (c : Cause)
      → (homes_cause nodes i before r ≡ Some c) ↔ IsFirstIn home_fault seat_causes [] (row_homes r) c
  homes-first after c =
      let rows = before ++ r ∷ [] in
      let all_rise = pairs-push (λ a b. stripe_first a b ≡ true) before r rising (comes-after stripe_first before r after) in
      first-of (λ homes h. seat_cause nodes (with_homes i rows (flat_map row_homes before ++ homes)) h) home_fault seat_causes (λ (h : Held). h.stripe ≡ r.stripe)
      (λ homes h c own.
      let st = with_homes i rows (flat_map row_homes before ++ homes) in
      seat-first nodes i.nodes.items r.code (flat_map row_homes before ++ homes) h st refl
      (ap (code_of st) own ∙ code-row st rows r refl all_rise (Contains-push before r)) (append-nil (flat_map row_homes before ++ homes)) c)
      [] (row_homes r) (All-members (λ (h : Held). h.stripe ≡ r.stripe) (row_homes r) (row-stripe r)) c

  pub stripe-first : (c : Cause) → (stripe_cause nodes i before r ≡ Some c) ↔ IsStripeCause nodes i before r c
  stripe-first c =
      first-if (is_out_of_order stripe_first before r) cause.OutOfOrder c (homes_cause nodes i before r) (IsStripeBehind before r)
      (IsFirstIn home_fault seat_causes [] (row_homes r) c)
      (out-of-order stripe_first before r (λ b. r.stripe.value ≤ b.stripe.value) (λ b. not-above b.stripe.value r.stripe.value))
      (λ after. homes-first after c)

-- ---- grants

no-grants : (r : GrantRow) → (not (tells_grants r) ≡ true) ↔ ((f : Fragment) → get_or r.granted f.value 0 ≡ 0)
no-grants r =
    let some = λ (f : Fragment). nat_lt 0 (get_or r.granted f.value 0) in (
      λ hit f.
          let low = ltb-false 0 (get_or r.granted f.value 0)
          (All-contains (λ f. some f ≡ false) all_fragments f (All-list_any some all_fragments (flips-true (tells_grants r) hit)) (wide-fragment f)) in
          omega (arith, low),
      λ none.
          not_from_false (tells_grants r)
          (list_any-All some all_fragments (All-members (λ f. some f ≡ false) all_fragments (λ f here.
          let is = none f in le-ltb 0 (get_or r.granted f.value 0) (omega (arith, is))))),
    )

many-grants : (r : GrantRow) → (list_any (λ f. nat_lt most_grants (get_or r.granted f.value 0)) all_fragments ≡ true) ↔ ((f : Fragment) × (most_grants < get_or r.granted f.value 0))
many-grants r =
    let many = λ (f : Fragment). nat_lt most_grants (get_or r.granted f.value 0) in (
      λ hit. let m = member-list_any many all_fragments hit in (m.0, ltb-true most_grants (get_or r.granted m.0.value 0) m.2),
      λ p. list_any-member many all_fragments p.0 (wide-fragment p.0) (lt-ltb most_grants (get_or r.granted p.0.value 0) p.1),
    )

pub grant-first : (before : List GrantRow) (r : GrantRow) (c : Cause) → (grant_cause before r ≡ Some c) ↔ IsFirst (IsGrantFault before r) grant_causes c
grant-first before r c =
    let fault = IsGrantFault before r in
    first-if (is_out_of_order grant_first before r) cause.OutOfOrder c _ (fault cause.OutOfOrder) (IsFirst fault (cause.SaysNothing ∷ cause.TooManyGrants ∷ []) c)
    (out-of-order grant_first before r (λ b. r.stripe.value ≤ b.stripe.value) (λ b. not-above b.stripe.value r.stripe.value))
    (λ _. first-if (not (tells_grants r)) cause.SaysNothing c _ (fault cause.SaysNothing) (IsFirst fault (cause.TooManyGrants ∷ []) c) (no-grants r)
    (λ _. first-if (list_any (λ f. nat_lt most_grants (get_or r.granted f.value 0)) all_fragments) cause.TooManyGrants c None (fault cause.TooManyGrants) ⊥ (many-grants r)
    (λ _. first-none c)))

-- ---- leases

-- the lease does not come after the earlier one
lease-behind : (b r : LeaseRow) → (not (lease_first b r) ≡ true) ↔ ((r.stripe.value < b.stripe.value) ⊎ ((r.stripe ≡ b.stripe) × (r.fragment.value ≤ b.fragment.value)))
lease-behind b r =
    let s = b.stripe.value in
    let t = r.stripe.value in
    let f = b.fragment.value in
    let g = r.fragment.value in
    let same = same_stripe b.stripe r.stripe in
    let later = nat_lt f g in (
      λ hit.
          let parts = or_parts (nat_lt s t) (same && later) (flips-true (lease_first b r) hit) in
          let low = ltb-false s t parts.0 in
          elim (cases_Bool same) [
            | inl own ↦ elim (and_cases same later parts.1) [
              | inl other ↦ absurd (let both : true ≡ false = sym own ∙ other in cc)
              | inr miss ↦ inr (equal_stripes r.stripe b.stripe (sym (eqb-true s t own)), ltb-false f g miss)
            ]
            | inr other ↦ inl (let apart = eqb-false s t other in omega (arith, low, apart))
          ],
      λ p.
          not_from_false (lease_first b r) (elim p [
            | inl less ↦ or_from (nat_lt s t) (same && later) (le-ltb s t (omega (arith, less))) (and_left same later (ne_eqb s t (λ e. omega (arith, less, e))))
            | inr own ↦
                let number : t ≡ s = ap (λ (x : StripeNo). x.value) own.0 in
                or_from (nat_lt s t) (same && later) (le-ltb s t (omega (arith, number))) (and_right same later (le-ltb f g own.1))
          ]),
    )

no-stripe : (i : Image) (s : StripeNo) → (not (has_stripe (image_state i) s) ≡ true) ↔ All (λ r. r.stripe ≢ s) i.stripes.items
no-stripe i s =
    let stripes = map (λ (r : StripeRow). r.stripe) i.stripes.items in (
      λ hit.
          let none = All-list_any (same_stripe s) stripes (flips-true (has_stripe (image_state i) s) hit) in
          All-members (λ (r : StripeRow). r.stripe ≢ s) i.stripes.items (λ r here own.
          eqb-false s.value r.stripe.value
          (All-contains (λ t. same_stripe s t ≡ false) stripes r.stripe none (map-member (λ (r : StripeRow). r.stripe) i.stripes.items r here))
          (ap (λ (t : StripeNo). t.value) (sym own))),
      λ none.
          not_from_false (has_stripe (image_state i) s) (false_from_ne_true (has_stripe (image_state i) s) (λ found.
          let m = member-list_any (same_stripe s) stripes found in
          let row = member-map (λ (r : StripeRow). r.stripe) i.stripes.items m.0 m.1 in
          All-contains (λ (r : StripeRow). r.stripe ≢ s) i.stripes.items row.0 none row.1 (row.2 ∙ sym (equal_stripes s m.0 (eqb-true s.value m.0.value m.2))))),
    )

module _ (s : StripeNo) (f : Fragment) where
  -- the row counts no grant of the fragment
  abbrev IsUncounted : GrantRow → Type 0
  IsUncounted r = r.stripe ≡ s → get_or r.granted f.value 0 ≡ 0

  counted-none : (r : GrantRow) → counted s f r ≡ 0 → IsUncounted r
  counted-none r none own = let hit = eq-eqb r.stripe.value s.value (ap (λ (t : StripeNo). t.value) own) in (rw hit at none)

  none-counts : (r : GrantRow) → IsUncounted r → counted s f r ≡ 0
  none-counts r none = elim (cases_Bool (same_stripe r.stripe s)) [
    | inl own ↦ rw own (none (equal_stripes r.stripe s (eqb-true r.stripe.value s.value own)))
    | inr other ↦ rw other refl
  ]

  sum-none : (rows : List GrantRow) → sum_by (counted s f) rows ≡ 0 → All IsUncounted rows
  sum-none [] none = All-nil IsUncounted
  sum-none (r ∷ rs) none =
      let sum = sum_by-cons (counted s f) r rs in
      All-cons IsUncounted r rs (counted-none r (omega (arith, none, sum))) (sum-none rs (omega (arith, none, sum)))

  none-sum : (rows : List GrantRow) → All IsUncounted rows → sum_by (counted s f) rows ≡ 0
  none-sum [] all = refl
  none-sum (r ∷ rs) all =
      let sum = sum_by-cons (counted s f) r rs in
      let own = none-counts r (All-head IsUncounted r rs all) in
      let rest = none-sum rs (All-tail IsUncounted r rs all) in omega (arith, sum, own, rest)

  never-granted : (rows : List GrantRow) → (nat_eq (grants (earlier rows) s f) 0 ≡ true) ↔ All IsUncounted rows
  never-granted rows =
      let sum = grants-earlier s f rows in (
        λ hit. sum-none rows (sym sum ∙ eqb-true (grants (earlier rows) s f) 0 hit),
        λ all. eq-eqb (grants (earlier rows) s f) 0 (sum ∙ none-sum rows all),
      )

wrong-expiry : (clock expiry : ℕ) → (not (nat_lt clock expiry && nat_le expiry (clock + term)) ≡ true) ↔ ((expiry ≤ clock) ⊎ (clock + 3 < expiry))
wrong-expiry clock expiry =
    let running = nat_lt clock expiry in
    let termed = nat_le expiry (clock + term) in (
      λ hit. elim (and_cases running termed (flips-true (running && termed) hit)) [
        | inl over ↦ inl (ltb-false clock expiry over)
        | inr late ↦ inr (leb-false expiry (clock + term) late)
      ],
      λ p. not_from_false (running && termed) (elim p [
        | inl over ↦ and_left running termed (le-ltb clock expiry over)
        | inr late ↦ and_right running termed (lt-leb expiry (clock + term) late)
      ]),
    )

targets-are : (past : List Entry) (rows : List LeaseRow) → map held_by (map (row_lease past) rows) ≡ map target_of rows
targets-are past [] = refl
targets-are past (r ∷ rs) = ap (λ (hs : List Held). target_of r ∷ hs) (targets-are past rs)

module _ (nodes : List NodeInfo) (i : Image) (before : List LeaseRow) (r : LeaseRow) (rising : IsRising stripe_first i.stripes.items) where
  abbrev st : State
  st = image_state i

  abbrev past : List Entry
  past = earlier i.grants.items

  abbrev fault : Cause → Type 0
  fault = IsLeaseFault nodes i before r

  -- the code of the stripe is that of each row of it
  code-at : (s : StripeRow) → Contains i.stripes.items s → s.stripe ≡ r.stripe → code_of st r.stripe ≡ s.code
  code-at s here own = ap (code_of st) (sym own) ∙ code-row st i.stripes.items s refl rising here

  stripe-at : has_stripe st r.stripe ≡ true → (s : StripeRow) × Contains i.stripes.items s × (s.stripe ≡ r.stripe)
  stripe-at known =
      let m = member-list_any (same_stripe r.stripe) st.stripes known in
      let row = member-map (λ (s : StripeRow). s.stripe) i.stripes.items m.0 m.1 in
      (row.0, row.1, row.2 ∙ sym (equal_stripes r.stripe m.0 (eqb-true r.stripe.value m.0.value m.2)))

  target-first : has_stripe st r.stripe ≡ true → (c : Cause) → (seat_cause nodes (with_leases i before) (held_by (row_lease past r)) ≡ Some c) ↔ IsFirst fault seat_causes c
  target-first known c =
      let row = stripe-at known in
      let seat_fault = λ (s : StripeRow). IsSeatFault nodes i.nodes.items s.code (held_with i before) (target_of r) in
      let among = λ (d : Cause). (s : StripeRow) × Contains i.stripes.items s × (s.stripe ≡ r.stripe) × seat_fault s d in
      both-ways
      (seat-first nodes i.nodes.items row.0.code (held_with i before) (target_of r) (with_leases i before) refl (code-at row.0 row.1 row.2)
      (ap (λ (hs : List Held). flat_map row_homes i.stripes.items ++ hs) (targets-are past before)) c)
      (first-same (seat_fault row.0) among (λ d. (
        λ hit. (row.0, row.1, row.2, hit),
        λ p.
            subst (λ (k : Code). IsSeatFault nodes i.nodes.items k (held_with i before) (target_of r) d)
            (sym (code-at p.0 p.1 p.2) ∙ code-at row.0 row.1 row.2) p.3,
      )) seat_causes c)

  pub lease-first : (c : Cause) → (lease_cause nodes i before r ≡ Some c) ↔ IsFirst fault lease_causes c
  lease-first c =
      first-if (is_out_of_order lease_first before r) cause.OutOfOrder c _ (fault cause.OutOfOrder)
      (IsFirst fault (cause.UnknownStripe ∷ cause.NeverGranted ∷ cause.WrongExpiry ∷ seat_causes) c)
      (out-of-order lease_first before r (λ b. (r.stripe.value < b.stripe.value) ⊎ ((r.stripe ≡ b.stripe) × (r.fragment.value ≤ b.fragment.value))) (λ b. lease-behind b r))
      (λ _. first-if (not (has_stripe st r.stripe)) cause.UnknownStripe c _ (fault cause.UnknownStripe)
      (IsFirst fault (cause.NeverGranted ∷ cause.WrongExpiry ∷ seat_causes) c) (no-stripe i r.stripe)
      (λ known. first-if (nat_eq (grants past r.stripe r.fragment) 0) cause.NeverGranted c _ (fault cause.NeverGranted) (IsFirst fault (cause.WrongExpiry ∷ seat_causes) c)
      (never-granted r.stripe r.fragment i.grants.items)
      (λ _. first-if (not (nat_lt i.clock r.expiry && nat_le r.expiry (i.clock + term))) cause.WrongExpiry c
      (seat_cause nodes (with_leases i before) (held_by (row_lease past r))) (fault cause.WrongExpiry) (IsFirst fault seat_causes c) (wrong-expiry i.clock r.expiry)
      (λ _. target-first (flips-false (has_stripe st r.stripe) known) c))))
