-- An image of a state is alike it, and grants as many leases.
use Rattle.std.proofs.Common.{[], ◌≡◌, ℕ, ◌<◌, Bool, true, false, not, if◌then◌else◌, nat_lt, List, map, filter, flat_map, get_or, Option, Some, None, option_map, is_some, IsSome, refl, sym, ap, subst, ◌∙◌, arith}
use Rattle.std.specs.List.{All, Contains, list_any}
use Rattle.std.proofs.lemmas.Bool.{eqb-true, eq-eqb, ltb-false, and_from, and_right, false_from_ne_true}
use Rattle.std.proofs.lemmas.List.{get_or-map}
use Rattle.std.proofs.lemmas.List.Elements.{All-contains, All-from_recursion, Contains-append_left}
use Rattle.lrc_code.specs.declared.codes.Code.TheVariants.{Wide, Narrow}
use Rattle.lrc_code.specs.declared.numbers.StripeNo.{StripeNo}
use Rattle.lrc_code.specs.declared.numbers.Fragment.{Fragment}
use Rattle.lrc_code.specs.declared.numbers.NodeNo.{NodeNo}
use Rattle.lrc_code.specs.Numbers.{same_node, same_stripe}
use Rattle.lrc_code.specs.Codes.{all_fragments}
use Rattle.lrc_code.proofs.NumbersLemmas.{equal_nodes, equal_fragments, equal_stripes}
use Rattle.lrc_topology.specs.declared.NodeInfo.{NodeInfo}
use Rattle.lrc_topology.specs.declared.seat.Seat.{Seat}
use Rattle.lrc_topology.specs.declared.seat.Held.{Held}
use Rattle.lrc_topology.specs.Nodes.{AreNodes, IsInRange, node_at}
use Rattle.lrc_terms.specs.Levels.{homes_of}
use Rattle.lrc_terms.specs.Stripes.{stripe_at}
use Rattle.lrc_terms.specs.declared.lease.Lease.{Lease}
use Rattle.lrc_terms.proofs.CodeListLemmas.{fragment-number}
use Rattle.lrc_terms.proofs.LeaseLemmas.{contains-leases_in, leases_in-contains}
use Rattle.lrc_terms.specs.declared.mode.Mode.TheVariants.{Active, Draining, Gone}
use Rattle.lrc_rules.specs.declared.entry.Entry.{Entry}
use Rattle.lrc_rules.specs.States.{State, has_stripe, lease_of, has_number, held_by, seats_of, mode_of, is_down}
use Rattle.lrc_terms.specs.Modes.{is_active, is_draining, is_gone}
use Rattle.lrc_rules.specs.Leases.{grants}
use Rattle.lrc_rules.specs.Alike.{HaveSame, AreAlike}
use Rattle.lrc_rules.specs.Futures.{HaveSameGrants}
use Rattle.lrc_rules.specs.Goodness.{AreSeated, IsGood}
use Rattle.lrc_rules.specs.Tidiness.{AreOfStore, IsTidy}
use Rattle.lrc_rules.proofs.MemberLemmas.{Contains-here, filter-member, member-filter, find-member, list_any-member, member-list_any, All-list_any, map-member}
use Rattle.lrc_rules.proofs.TakenLemmas.{member-map}
use Rattle.lrc_rules.proofs.LookUpLemmas.{stripe-there}
use Rattle.lrc_rules.proofs.StateLemmas.{there-stripe, found-home, home-found}
use Rattle.lrc_rules.proofs.AlikeListLemmas.{flat-member, member-flat}
use Rattle.lrc_images.specs.declared.image.NodeRow.{NodeRow}
use Rattle.lrc_images.specs.declared.image.StripeRow.{StripeRow}
use Rattle.lrc_images.specs.declared.image.GrantRow.{GrantRow}
use Rattle.lrc_images.specs.declared.image.LeaseRow.{LeaseRow}
use Rattle.lrc_images.specs.declared.image.Image.{Image}
use Rattle.lrc_images.specs.Images.{earlier, is_narrow, home_list, row_homes, row_lease, nodes_where, image_state, image_world}
use Rattle.lrc_images.specs.Rising.{tells_node, tells_grants}
use Rattle.lrc_images.specs.Rows.{node_no, row_of_node, node_rows, row_of_stripe, stripe_rows, row_of_grants, grant_rows, lease_row, stripe_leases, lease_rows, IsImageOf}
use Rattle.lrc_images.proofs.RowLemmas.{listed-some, member-rows, rows-member, row-there, there-row, own-number}
use Rattle.lrc_images.proofs.EarlierLemmas.{wide-fragment, row-granted, none-granted}
use Rattle.lrc_images.proofs.RisingLemmas.{node-row, row-node, home-own, homes_at}
use Rattle.lrc_images.proofs.StateRowLemmas.{has_row, grants-rise, leases_at, row-lease}

-- ---- grants

module _ (past : List Entry) (s : StripeNo) (f : Fragment) where
  abbrev tells : StripeNo → Bool
  tells t = tells_grants (row_of_grants past t)

  count-is : get_or (row_of_grants past s).granted f.value 0 ≡ grants past s f
  count-is =
      get_or-map (λ (g : Fragment). grants past s g) all_fragments f.value f 0 f.in_range
      ∙ ap (λ (g : Fragment). grants past s g) (equal_fragments (get_or all_fragments f.value f) f (fragment-number f.value f f.in_range))

  grants-by : (b : Bool) → tells s ≡ b → grants past s f ≡ grants (earlier (grant_rows past)) s f
  grants-by true hit =
      let row = row-there stripe_at (row_of_grants past) tells 4096 s.value s s.in_range (own-number s) hit in
      sym (row-granted (grant_rows past) (row_of_grants past s) f (grants-rise past) row ∙ count-is)
  grants-by false miss =
      let counts = λ (g : Fragment). nat_lt 0 (get_or (row_of_grants past s).granted g.value 0) in
      let zero_here = ltb-false 0 (get_or (row_of_grants past s).granted f.value 0)
      (All-contains (λ g. counts g ≡ false) all_fragments f (All-list_any counts all_fragments miss) (wide-fragment f)) in
      let zero_there = none-granted s f (grant_rows past) (λ r here same.
      let own = there-row stripe_at (row_of_grants past) tells 4096 r here in
      let hit = subst (λ (t : StripeNo). tells t ≡ true) (ap (λ (r : GrantRow). r.stripe) own.2 ∙ same) own.1 in
      (let both : true ≡ false = sym hit ∙ miss in cc)) in
      let is = count-is in omega (arith, zero_here, zero_there, is)

-- the rows of the grants count just these
same-grants : (past : List Entry) → HaveSameGrants past (earlier (grant_rows past))
same-grants past s f = grants-by past s f (tells_grants (row_of_grants past s)) refl

-- ---- stripes

module _ (st : State) where
  stripe-row : (s : StripeNo) → has_stripe st s ≡ true → Contains (stripe_rows st) (row_of_stripe st s)
  stripe-row s there = row-there stripe_at (row_of_stripe st) (has_stripe st) 4096 s.value s s.in_range (own-number s) there

  row-own : (r : StripeRow) → Contains (stripe_rows st) r → (has_stripe st r.stripe ≡ true) × (row_of_stripe st r.stripe ≡ r)
  row-own r here =
      let own = there-row stripe_at (row_of_stripe st) (has_stripe st) 4096 r here in
      subst (λ (r : StripeRow). (has_stripe st r.stripe ≡ true) × (row_of_stripe st r.stripe ≡ r)) own.2 (own.1, refl)

  same-stripes : HaveSame st.stripes (map (λ (r : StripeRow). r.stripe) (stripe_rows st))
  same-stripes s = (
    λ here. map-member (λ (r : StripeRow). r.stripe) (stripe_rows st) (row_of_stripe st s) (stripe-row s (there-stripe st s here)),
    λ here.
        let m = member-map (λ (r : StripeRow). r.stripe) (stripe_rows st) s here in
        subst (Contains st.stripes) m.2 (stripe-there st m.0.stripe (row-own m.0 m.1).0),
  )

  narrow-by : (b : Bool) → is_narrow (if b then Narrow else Wide) ≡ true → b ≡ true
  narrow-by true hit = refl
  narrow-by false hit = hit

  narrow-in : (s : StripeNo) → list_any (same_stripe s) st.narrow ≡ true → Contains st.narrow s
  narrow-in s hit =
      let m = member-list_any (same_stripe s) st.narrow hit in
      subst (Contains st.narrow) (sym (equal_stripes s m.0 (eqb-true s.value m.0.value m.2))) m.1

  same-narrow : All (λ s. Contains st.stripes s) st.narrow
      → HaveSame st.narrow (map (λ (r : StripeRow). r.stripe) (filter (λ (r : StripeRow). is_narrow r.code) (stripe_rows st)))
  same-narrow coded s = (
    λ here.
        let there = there-stripe st s (All-contains (λ s. Contains st.stripes s) st.narrow s coded here) in
        let code = list_any-member (same_stripe s) st.narrow s here (eq-eqb s.value s.value refl) in
        map-member (λ (r : StripeRow). r.stripe) (filter (λ (r : StripeRow). is_narrow r.code) (stripe_rows st)) (row_of_stripe st s)
        (member-filter (λ (r : StripeRow). is_narrow r.code) (stripe_rows st) (row_of_stripe st s) (stripe-row s there)
        (ap (λ b. is_narrow (if b then Narrow else Wide)) code)),
    λ here.
        let m = member-map (λ (r : StripeRow). r.stripe) (filter (λ (r : StripeRow). is_narrow r.code) (stripe_rows st)) s here in
        let f = filter-member (λ (r : StripeRow). is_narrow r.code) (stripe_rows st) m.0 m.1 in
        let code = ap (λ (r : StripeRow). is_narrow r.code) (row-own m.0 f.0).1 ∙ f.1 in
        subst (Contains st.narrow) m.2 (narrow-in m.0.stripe (narrow-by (list_any (same_stripe m.0.stripe) st.narrow) code)),
  )

  -- ---- homes

  home-at : (s : StripeNo) (f : Fragment) → get_or (row_of_stripe st s).homes f.value None ≡ homes_of st.homes s f.value
  home-at s f =
      get_or-map (λ (g : Fragment). homes_of st.homes s g.value) all_fragments f.value f None f.in_range
      ∙ ap (λ k. homes_of st.homes s k) (fragment-number f.value f f.in_range)

  same-homes : (nodes : List NodeInfo) → AreSeated nodes st → HaveSame st.homes (flat_map row_homes (stripe_rows st))
  same-homes nodes seated h = (
    λ here.
        let row = row_of_stripe st h.stripe in
        let there = there-stripe st h.stripe (All-contains (λ (h : Held). Contains st.stripes h.stripe) (seats_of st) h seated.there
        (Contains-append_left st.homes (map held_by st.leases) h here)) in
        let home = home-at h.stripe h.fragment ∙ home-found st.homes seated.one_home h here in
        member-flat row_homes (stripe_rows st) row h (stripe-row h.stripe there)
        (member-flat (homes_at row) all_fragments h.fragment h (wide-fragment h.fragment)
        (subst (λ (o : Option Seat). Contains (home_list h.stripe h.fragment o) h) (sym home) (Contains-here h []))),
    λ here.
        let m = flat-member row_homes (stripe_rows st) h here in
        let k = flat-member (homes_at m.0) all_fragments h m.2 in
        let own = home-own m.0.stripe k.0 (get_or m.0.homes k.0.value None) h k.2 in
        let home : homes_of st.homes m.0.stripe k.0.value ≡ Some h.seat =
        sym (home-at m.0.stripe k.0) ∙ ap (λ (r : StripeRow). get_or r.homes k.0.value None) (row-own m.0 m.1).1 ∙ own.2 in
        subst (Contains st.homes) (λ i. record { stripe = sym own.0 i; fragment = sym own.1 i; seat = h.seat })
        (found-home st.homes m.0.stripe k.0 h.seat home),
  )

  -- ---- leases

  module _ (nodes : List NodeInfo) (past before : List Entry) (good : IsGood nodes past st) (same : HaveSameGrants past before) where
    lease-is : (l : Lease) → Contains st.leases l → row_lease before (lease_row l) ≡ l
    lease-is l here =
        let current = All-contains (λ (l : Lease). l.epoch ≡ grants past l.stripe l.fragment) st.leases l good.current here in
        let epoch = sym (current ∙ same l.stripe l.fragment) in
        λ i. record { stripe = l.stripe; fragment = l.fragment; holder = l.holder; target = l.target; epoch = epoch i; expiry = l.expiry }

    same-leases : HaveSame st.leases (map (row_lease before) (lease_rows st))
    same-leases l = (
      λ here.
          let found = contains-leases_in st.leases l good.seated.one_lease here in
          let row = member-rows stripe_at (stripe_leases st) 4096 l.stripe.value l.stripe (lease_row l) l.stripe.in_range (own-number l.stripe)
          (member-flat (leases_at st l.stripe) all_fragments l.fragment (lease_row l) (wide-fragment l.fragment)
          (listed-some (option_map lease_row (lease_of st l.stripe l.fragment)) (lease_row l) (ap (option_map lease_row) found))) in
          subst (Contains (map (row_lease before) (lease_rows st))) (lease-is l here) (map-member (row_lease before) (lease_rows st) (lease_row l) row),
      λ here.
          let m = member-map (row_lease before) (lease_rows st) l here in
          let k = rows-member stripe_at (stripe_leases st) 4096 m.0 m.1 in
          let f = flat-member (leases_at st k.0) all_fragments m.0 k.1 in
          let own = row-lease st k.0 f.0 m.0 f.2 in
          let there = leases_in-contains st.leases k.0 f.0.value own.0 own.1 in
          subst (Contains st.leases) (sym (lease-is own.0 there) ∙ ap (row_lease before) own.2 ∙ m.2) there,
    )

-- ---- nodes

by-gone : (g d : Bool) → is_gone (if g then Gone else (if d then Draining else Active)) ≡ true → g ≡ true
by-gone true d hit = refl
by-gone false true hit = hit
by-gone false false hit = hit

by-draining : (g d : Bool) → is_draining (if g then Gone else (if d then Draining else Active)) ≡ true → d ≡ true
by-draining true d hit = absurd (let no : false ≡ true = hit in cc)
by-draining false true hit = refl
by-draining false false hit = hit

module _ (nodes : List NodeInfo) (st : State) (store : AreNodes nodes) (tidy : IsTidy nodes st) where
  number-below : (n : NodeNo) (o : Option NodeInfo) → node_at nodes n ≡ o → IsSome o → n.value < 65536
  number-below n None is there = absurd (let no : false ≡ true = there in cc)
  number-below n (Some m) is there =
      let found = find-member (λ (m : NodeInfo). same_node n m.number) nodes m is in
      let range = All-contains IsInRange nodes m (All-from_recursion IsInRange nodes store.ranges) found.0 in
      let same = eqb-true n.value m.number.value found.1 in omega (arith, same, range.0)

  -- the nodes whose rows pass a test are those of a list
  same-where : (test : NodeRow → Bool) (numbers : List NodeNo) → AreOfStore nodes numbers
      → ((n : NodeNo) → has_number numbers n ≡ true → (tells_node (row_of_node st n) ≡ true) × (test (row_of_node st n) ≡ true))
      → ((n : NodeNo) → test (row_of_node st n) ≡ true → has_number numbers n ≡ true) → HaveSame numbers (nodes_where test (node_rows nodes st))
  same-where test numbers known into out n = (
    λ here.
        let there = All-contains (λ n. IsSome (node_at nodes n)) numbers n known here in
        let both = into n (list_any-member (same_node n) numbers n here (eq-eqb n.value n.value refl)) in
        let shown = and_from (is_some (node_at nodes n)) (tells_node (row_of_node st n)) there both.0 in
        row-node test (node_rows nodes st) (row_of_node st n)
        (row-there node_no (row_of_node st) (has_row nodes st) 65536 n.value n (number-below n (node_at nodes n) refl there) refl shown) both.1,
    λ here.
        let row = node-row test (node_rows nodes st) n here in
        let own = there-row node_no (row_of_node st) (has_row nodes st) 65536 row.0 row.1 in
        let number = ap (λ (r : NodeRow). r.node) own.2 ∙ row.3 in
        let m = member-list_any (same_node own.0) numbers (out own.0 (ap test own.2 ∙ row.2)) in
        subst (Contains numbers) (sym (equal_nodes own.0 m.0 (eqb-true own.0.value m.0.value m.2)) ∙ number) m.1,
  )

  same-gone : HaveSame st.gone (nodes_where (λ r. is_gone r.mode) (node_rows nodes st))
  same-gone = same-where (λ r. is_gone r.mode) st.gone tidy.gone (λ n noted. (rw noted refl, rw noted refl))
      (λ n hit. by-gone (has_number st.gone n) (has_number st.draining n) hit)

  same-draining : HaveSame st.draining (nodes_where (λ r. is_draining r.mode) (node_rows nodes st))
  same-draining = same-where (λ r. is_draining r.mode) st.draining tidy.draining
      (λ n noted.
      let there = false_from_ne_true (has_number st.gone n) (λ gone. (let both : true ≡ false = sym noted ∙ tidy.apart n gone in cc)) in
      (rw (there, noted) refl, rw (there, noted) refl))
      (λ n hit. by-draining (has_number st.gone n) (has_number st.draining n) hit)

  same-down : HaveSame st.down (nodes_where (λ r. r.is_down) (node_rows nodes st))
  same-down = same-where (λ r. r.is_down) st.down tidy.down
      (λ n noted. (ap not (and_right (is_active (mode_of st n)) (not (is_down st n)) (ap not noted)), noted))
      (λ n hit. hit)

-- ---- the image

module _ (nodes : List NodeInfo) (past : List Entry) (st : State) (before : ℕ) (i : Image) (is : IsImageOf nodes past st before i) where
  -- as many leases were granted before the image
  pub image-grants : HaveSameGrants past (image_world i).past
  image-grants = subst (λ (rows : List GrantRow). HaveSameGrants past (earlier rows)) (sym is.grants_are) (same-grants past)

  pub image-alike : AreNodes nodes → IsGood nodes past st → IsTidy nodes st → AreAlike st (image_state i)
  image-alike store good tidy = record {
    stripes = subst (λ (rows : List StripeRow). HaveSame st.stripes (map (λ (r : StripeRow). r.stripe) rows)) (sym is.stripes_are) (same-stripes st);
    narrow = subst (λ (rows : List StripeRow). HaveSame st.narrow (map (λ (r : StripeRow). r.stripe) (filter (λ (r : StripeRow). is_narrow r.code) rows)))
        (sym is.stripes_are) (same-narrow st good.seated.coded);
    homes = subst (λ (rows : List StripeRow). HaveSame st.homes (flat_map row_homes rows)) (sym is.stripes_are) (same-homes st nodes good.seated);
    leases = subst (λ (rows : List LeaseRow). HaveSame st.leases (map (row_lease (image_world i).past) rows)) (sym is.leases_are)
        (same-leases st nodes past (image_world i).past good image-grants);
    gone = subst (λ (rows : List NodeRow). HaveSame st.gone (nodes_where (λ r. is_gone r.mode) rows)) (sym is.nodes_are) (same-gone nodes st store tidy);
    draining = subst (λ (rows : List NodeRow). HaveSame st.draining (nodes_where (λ r. is_draining r.mode) rows)) (sym is.nodes_are) (same-draining nodes st store tidy);
    down = subst (λ (rows : List NodeRow). HaveSame st.down (nodes_where (λ r. r.is_down) rows)) (sym is.nodes_are) (same-down nodes st store tidy);
    upgrading = sym is.upgrading_is;
    clock = sym is.clock_is;
  }
