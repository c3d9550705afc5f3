-- The image of a good and tidy state, whose numbers are not above those with which a book can begin, can be read.
use Rattle.std.proofs.Common.{[], ◌≡◌, ◌≢◌, ℕ, ◌+◌, ◌<◌, ◌≤◌, Bool, true, false, not, ◌&&◌, List, ◌∷◌, ◌++◌, map, get_or, Option, Some, None, IsSomeAnd, IfSome, is_some, refl, sym, ap, subst, ◌∙◌, arith, get_or-drop, length-drop}
use Rattle.std.specs.List.{All, Contains}
use Rattle.std.proofs.lemmas.Bool.{eqb-true, ltb-true, and_parts}
use Rattle.std.proofs.lemmas.List.{get_or-map}
use Rattle.std.proofs.lemmas.List.Elements.{All-nil, All-cons, All-append, All-map, All-contains, All-from_recursion, Contains-append_left, Contains-append_right}
use Rattle.lrc_code.specs.declared.numbers.StripeNo.{StripeNo}
use Rattle.lrc_code.specs.declared.numbers.NodeNo.{NodeNo}
use Rattle.lrc_code.specs.declared.numbers.UpgradeNo.{UpgradeNo}
use Rattle.lrc_code.specs.declared.numbers.Fragment.{Fragment}
use Rattle.lrc_code.specs.Numbers.{same_node, same_upgrade}
use Rattle.lrc_code.specs.Codes.{all_fragments, fragment, fragment_count, has_fragment}
use Rattle.lrc_topology.specs.declared.NodeInfo.{NodeInfo}
use Rattle.lrc_topology.specs.declared.seat.Seat.{Seat}
use Rattle.lrc_topology.specs.declared.seat.Held.{Held}
use Rattle.lrc_topology.specs.Nodes.{AreNodes, IsInRange, node_at, has_domain}
use Rattle.lrc_terms.specs.declared.lease.Lease.{Lease as LeaseRecord}
use Rattle.lrc_terms.specs.declared.mode.Mode.{Mode}
use Rattle.lrc_terms.specs.declared.mode.Mode.TheVariants.{Active, Draining, Gone}
use Rattle.lrc_terms.specs.Levels.{homes_of}
use Rattle.lrc_terms.specs.Modes.{is_active}
use Rattle.lrc_terms.specs.Stripes.{stripe_at}
use Rattle.lrc_terms.proofs.CodeListLemmas.{fragment-number}
use Rattle.lrc_terms.proofs.LeaseLemmas.{leases_in-contains}
use Rattle.lrc_rules.specs.declared.entry.Entry.{Entry}
use Rattle.lrc_rules.specs.States.{State, has_stripe, code_of, mode_of, held_by, seats_of, taken_seats}
use Rattle.lrc_rules.specs.Leases.{grants}
use Rattle.lrc_rules.specs.Goodness.{IsStanding, AreSeated, IsGood}
use Rattle.lrc_rules.specs.Tidiness.{IsTidy}
use Rattle.lrc_rules.proofs.MemberLemmas.{All-members, find-member, member-list_any, map-member}
use Rattle.lrc_rules.proofs.StateLemmas.{held_on, found-home}
use Rattle.lrc_rules.proofs.AlikeListLemmas.{flat-member}
use Rattle.lrc_images.specs.declared.image.NodeRow.{NodeRow}
use Rattle.lrc_images.specs.declared.image.StripeRow.{StripeRow}
use Rattle.lrc_images.specs.declared.image.GrantRow.{GrantRow}
use Rattle.lrc_images.specs.declared.image.LeaseRow.{LeaseRow}
use Rattle.lrc_images.specs.declared.image.Image.{Image}
use Rattle.lrc_images.specs.Causes.{most_grants, most_ticks, most_entries}
use Rattle.lrc_images.specs.Rising.{tells_node, tells_grants}
use Rattle.lrc_images.specs.Rows.{node_no, row_of_node, node_rows, row_of_stripe, stripe_rows, row_of_grants, grant_rows, stripe_leases, lease_rows, IsImageOf}
use Rattle.lrc_images.proofs.RowLemmas.{rows-member, there-row}
use Rattle.lrc_images.proofs.StateRowLemmas.{leases_at, row-lease}
use Rattle.lrc_image_text.specs.Lines.{Version, Before, Clock, Upgrading, Node, Stripe, Grants, Lease, End, IsSeat, IsHome, IsStripeRow, IsReadable}
use Rattle.lrc_image_text.specs.Texts.{upgrading_lines, lines_of_rows, IsWritten}

-- ---- nodes and seats

module _ (nodes : List NodeInfo) (store : AreNodes nodes) where
  node-range : (n : NodeNo) (m : NodeInfo) → node_at nodes n ≡ Some m → (n.value < 65536) × (m.slots ≤ 256)
  node-range n m is =
      let found = find-member (λ (m : NodeInfo). same_node n m.number) nodes m is in
      let range = All-contains IsInRange nodes m (All-from_recursion IsInRange nodes store.ranges) found.0 in
      let same = eqb-true n.value m.number.value found.1 in (omega (arith, same, range.0), range.4)

  known-below : (n : NodeNo) (o : Option NodeInfo) → node_at nodes n ≡ o → is_some o ≡ true → n.value < 65536
  known-below n None is there = absurd (let no : false ≡ true = there in cc)
  known-below n (Some m) is there = (node-range n m is).0

  domain-below : (u : UpgradeNo) → has_domain nodes u ≡ true → u.value < 256
  domain-below u has =
      let m = member-list_any (λ (n : NodeInfo). same_upgrade n.upgrade u) nodes has in
      let range = All-contains IsInRange nodes m.0 (All-from_recursion IsInRange nodes store.ranges) m.1 in
      let same = eqb-true m.0.upgrade.value u.value m.2 in omega (arith, same, range.2)

  upgrading-readable : (o : Option UpgradeNo) → IfSome o (λ u. has_domain nodes u ≡ true) → All IsReadable (upgrading_lines o)
  upgrading-readable None has = All-nil IsReadable
  upgrading-readable (Some u) has = All-cons IsReadable (Upgrading u) [] (domain-below u has) (All-nil IsReadable)

  module _ (st : State) where
    seat-by : (seat : Seat) (o : Option NodeInfo) → node_at nodes seat.node ≡ o → IsSomeAnd o (λ n. (seat.slot < n.slots) × (mode_of st seat.node ≢ Gone)) → IsSeat seat
    seat-by seat None is standing = absurd (standing)
    seat-by seat (Some m) is standing = let range = node-range seat.node m is in (range.0, omega (arith, standing.0, range.1))

    -- ---- the rows of nodes

    tells-down : (m : Mode) (d : Bool) → not (is_active m && not d) ≡ true → m ≡ Active → d ≡ true
    tells-down m true tells active = refl
    tells-down Active false tells active = tells
    tells-down Draining false tells active = absurd (cc)
    tells-down Gone false tells active = absurd (cc)

    nodes-readable : All (λ r. IsReadable (Node r)) (node_rows nodes st)
    nodes-readable = All-members (λ r. IsReadable (Node r)) (node_rows nodes st) (λ r here.
        let shown = λ (n : NodeNo). is_some (node_at nodes n) && tells_node (row_of_node st n) in
        let own = there-row node_no (row_of_node st) shown 65536 r here in
        let parts = and_parts (is_some (node_at nodes own.0)) (tells_node (row_of_node st own.0)) own.1 in
        subst (λ (r : NodeRow). IsReadable (Node r)) own.2
        (known-below own.0 (node_at nodes own.0) refl parts.0, tells-down (row_of_node st own.0).mode (row_of_node st own.0).is_down parts.1))

    module _ (seated : AreSeated nodes st) where
      -- the numbers of a seat that is held are in range
      held-seat : (h : Held) → Contains (seats_of st) h → IsSeat h.seat
      held-seat h here =
          seat-by h.seat (node_at nodes h.seat.node) refl
          (All-contains (IsStanding nodes st) (taken_seats st) h.seat seated.standing (map-member (λ (h : Held). h.seat) (seats_of st) h here))

      -- ---- the rows of stripes

      home-held : (s : StripeNo) (f : Fragment) (seat : Seat) → homes_of st.homes s f.value ≡ Some seat → Contains (seats_of st) (held_on s f seat)
      home-held s f seat is = Contains-append_left st.homes (map held_by st.leases) (held_on s f seat) (found-home st.homes s f seat is)

      home-readable : (s : StripeNo) (f : Fragment) (o : Option Seat) → homes_of st.homes s f.value ≡ o → IsHome o
      home-readable s f None is = tt
      home-readable s f (Some seat) is = held-seat (held_on s f seat) (home-held s f seat is)

      -- no fragment that the code of the stripe lacks has a home
      lacking-none : (s : StripeNo) (f : Fragment) (o : Option Seat) → homes_of st.homes s f.value ≡ o → fragment_count (code_of st s) ≤ f.value → o ≡ None
      lacking-none s f None is lacks = refl
      lacking-none s f (Some seat) is lacks = absurd (
          let has = All-contains (λ (h : Held). has_fragment (code_of st h.stripe) h.fragment.value ≡ true) (seats_of st) (held_on s f seat) seated.within (home-held s f seat is) in
          let low = ltb-true f.value (fragment_count (code_of st s)) has in omega (arith, low, lacks))

      module _ (s : StripeNo) where
        abbrev home_of : Fragment → Option Seat
        home_of f = homes_of st.homes s f.value

        none-behind : (d : Option Seat) (count k : ℕ) → count ≡ fragment_count (code_of st s) → count + k < 16 → get_or (map home_of all_fragments) (count + k) d ≡ None
        none-behind d count k is within =
            let f = fragment (count + k) within in
            get_or-map home_of all_fragments (count + k) f d within
            ∙ ap (λ (n : ℕ). homes_of st.homes s n) (fragment-number (count + k) f within)
            ∙ lacking-none s f (homes_of st.homes s (count + k)) refl (omega (arith, is))

        stripe-readable : IsStripeRow (row_of_stripe st s)
        stripe-readable = record {
          all = refl;
          homes = All-map IsHome home_of all_fragments (All-members (λ f. IsHome (home_of f)) all_fragments (λ f here. home-readable s f (home_of f) refl));
          none = λ k d within.
              let count = fragment_count (code_of st s) in
              let homes = map home_of all_fragments in
              get_or-drop count homes k d ∙ none-behind d count k refl (omega (arith, within, length-drop count homes));
        }

      stripes-readable : All (λ r. IsReadable (Stripe r)) (stripe_rows st)
      stripes-readable = All-members (λ r. IsReadable (Stripe r)) (stripe_rows st) (λ r here.
          let own = there-row stripe_at (row_of_stripe st) (has_stripe st) 4096 r here in
          subst (λ (r : StripeRow). IsStripeRow r) own.2 (stripe-readable own.0))

      -- ---- the rows of leases

      leases-readable : All (λ l. l.expiry < 4294967296) st.leases → All (λ r. IsReadable (Lease r)) (lease_rows st)
      leases-readable early = All-members (λ r. IsReadable (Lease r)) (lease_rows st) (λ r here.
          let of_stripe = rows-member stripe_at (stripe_leases st) 4096 r here in
          let of_fragment = flat-member (leases_at st of_stripe.0) all_fragments r of_stripe.1 in
          let own = row-lease st of_stripe.0 of_fragment.0 r of_fragment.2 in
          let l = own.0 in
          let there = leases_in-contains st.leases of_stripe.0 of_fragment.0.value l own.1 in
          let held = Contains-append_right st.homes (map held_by st.leases) (held_by l) (map-member held_by st.leases l there) in
          subst (λ (r : LeaseRow). IsReadable (Lease r)) own.2
          (held-seat (held_by l) held, All-contains (λ (l : LeaseRecord). l.expiry < 4294967296) st.leases l early there))

-- ---- the rows of grants

grants-readable : (past : List Entry) → ((s : StripeNo) (f : Fragment) → grants past s f ≤ most_grants) → All (λ r. IsReadable (Grants r)) (grant_rows past)
grants-readable past few = All-members (λ r. IsReadable (Grants r)) (grant_rows past) (λ r here.
    let own = there-row stripe_at (row_of_grants past) (λ s. tells_grants (row_of_grants past s)) 4096 r here in
    subst (λ (r : GrantRow). IsReadable (Grants r)) own.2 (
      refl,
      All-map (λ n. n < 4294967296) (λ (f : Fragment). grants past own.0 f) all_fragments
          (All-members (λ f. grants past own.0 f < 4294967296) all_fragments (λ f there. let low = few own.0 f in omega (arith, low))),
    ))

-- ---- the image

module _ (nodes : List NodeInfo) (past : List Entry) (st : State) (before : ℕ) (i : Image) (store : AreNodes nodes) (good : IsGood nodes past st)
    (tidy : IsTidy nodes st) (few : (s : StripeNo) (f : Fragment) → grants past s f ≤ most_grants) (early : st.clock ≤ most_ticks) (short : before ≤ most_entries)
    (is : IsImageOf nodes past st before i) where
  expiries-low : All (λ l. l.expiry < 4294967296) st.leases
  expiries-low k d within = let termed = good.termed k d within in omega (arith, termed, early)

  rows-readable : All IsReadable (lines_of_rows i)
  rows-readable =
      All-append IsReadable (map Node i.nodes.items) _
      (All-map IsReadable Node i.nodes.items (subst (All (λ r. IsReadable (Node r))) (sym is.nodes_are) (nodes-readable nodes store st)))
      (All-append IsReadable (map Stripe i.stripes.items) _
      (All-map IsReadable Stripe i.stripes.items (subst (All (λ r. IsReadable (Stripe r))) (sym is.stripes_are) (stripes-readable nodes store st good.seated)))
      (All-append IsReadable (map Grants i.grants.items) (map Lease i.leases.items)
      (All-map IsReadable Grants i.grants.items (subst (All (λ r. IsReadable (Grants r))) (sym is.grants_are) (grants-readable past few)))
      (All-map IsReadable Lease i.leases.items
      (subst (All (λ r. IsReadable (Lease r))) (sym is.leases_are) (leases-readable nodes store st good.seated expiries-low)))))

  pub image-written : IsWritten i
  image-written =
      All-append IsReadable (Version ∷ Before i.before ∷ Clock i.clock ∷ (upgrading_lines i.upgrading ++ lines_of_rows i)) (End ∷ [])
      (All-cons IsReadable Version (Before i.before ∷ Clock i.clock ∷ (upgrading_lines i.upgrading ++ lines_of_rows i)) tt
      (All-cons IsReadable (Before i.before) (Clock i.clock ∷ (upgrading_lines i.upgrading ++ lines_of_rows i)) (omega (arith, short, is.before_is))
      (All-cons IsReadable (Clock i.clock) (upgrading_lines i.upgrading ++ lines_of_rows i) (omega (arith, early, is.clock_is))
      (All-append IsReadable (upgrading_lines i.upgrading) (lines_of_rows i)
      (subst (λ (o : Option UpgradeNo). All IsReadable (upgrading_lines o)) (sym is.upgrading_is) (upgrading-readable nodes store st.upgrading tidy.domain))
      rows-readable))))
      (All-cons IsReadable End [] tt (All-nil IsReadable))
