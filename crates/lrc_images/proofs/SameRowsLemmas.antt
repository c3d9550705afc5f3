-- Images with rising rows have the same rows if their states are alike and as many leases were granted.
use Rattle.std.proofs.Common.{[], ◌≡◌, ℕ, inl, inr, Bool, true, false, ◌&&◌, ◌||◌, nat_lt, nat_eq, List, length, get_or, Option, Some, None, refl, sym, ap, ◌∙◌, subst, arith, ext_get_or}
use Rattle.std.specs.List.{Contains, list_any}
use Rattle.std.proofs.lemmas.Bool.{cases_Bool, ltb-true, eqb-true, eq-eqb, false_from_ne_true}
use Rattle.std.proofs.lemmas.Bool.Decides.{nat_tests}
use Rattle.std.proofs.lemmas.List.Elements.{All-contains}
use Rattle.lrc_code.specs.declared.codes.Code.{Code}
use Rattle.lrc_code.specs.declared.numbers.StripeNo.{StripeNo}
use Rattle.lrc_code.specs.declared.numbers.Fragment.{Fragment}
use Rattle.lrc_code.specs.Numbers.{same_stripe}
use Rattle.lrc_code.specs.Codes.{fragments, fragment, all_fragments}
use Rattle.lrc_code.proofs.NumbersLemmas.{equal_stripes}
use Rattle.lrc_topology.specs.declared.seat.Seat.{Seat}
use Rattle.lrc_terms.specs.Levels.{Homes, homes_of}
use Rattle.lrc_terms.specs.declared.lease.Lease.{Lease}
use Rattle.lrc_terms.proofs.ListLemmas.{same_rising}
use Rattle.lrc_terms.proofs.LeaseLemmas.{same_answers}
use Rattle.lrc_terms.specs.declared.mode.Mode.{Mode}
use Rattle.lrc_terms.specs.declared.mode.Mode.TheVariants.{Active, Draining, Gone}
use Rattle.lrc_rules.specs.States.{State, code_of, has_number}
use Rattle.lrc_terms.specs.Modes.{is_gone, is_draining}
use Rattle.lrc_rules.specs.Leases.{grants}
use Rattle.lrc_rules.specs.Alike.{HaveSame, AreAlike}
use Rattle.lrc_rules.specs.Futures.{HaveSameGrants}
use Rattle.lrc_rules.proofs.MemberLemmas.{Contains-here, map-member, member-list_any, All-list_any}
use Rattle.lrc_rules.proofs.TakenLemmas.{member-map}
use Rattle.lrc_rules.proofs.StateLemmas.{held_on, found-home, home-found}
use Rattle.lrc_rules.proofs.AlikeListLemmas.{into, back, flat-member, member-flat}
use Rattle.lrc_rules.proofs.AlikeReadLemmas.{alike-code, alike-gone, alike-draining, alike-down, same-homes}
use Rattle.lrc_images.specs.declared.image.NodeRow.{NodeRow}
use Rattle.lrc_images.specs.declared.image.StripeRow.{StripeRow}
use Rattle.lrc_images.specs.declared.image.GrantRow.{GrantRow}
use Rattle.lrc_images.specs.declared.image.LeaseRow.{LeaseRow}
use Rattle.lrc_images.specs.declared.image.Image.{Image}
use Rattle.lrc_images.specs.Images.{home_list, row_homes, row_lease, nodes_where, image_state, image_world}
use Rattle.lrc_images.specs.Rising.{node_first, stripe_first, grant_first, lease_first, tells_node, tells_grants, IsRising, AreRising, HaveAllFragments}
use Rattle.lrc_images.proofs.EarlierLemmas.{wide-fragment, none-granted, row-granted}
use Rattle.lrc_images.proofs.RisingLemmas.{rising-one, one-node, node-row, number-row, row-node, row-number, home-own, homes_at, row-stripe, homes-single, code-row}
use Rattle.lrc_images.proofs.SeatedRowsLemmas.{homes_in}

-- ---- lists and orders

-- two lists with as many elements, the same at each fragment number
same-list : {X : Type 0} (d : X) (xs ys : List X) → length xs ≡ 16 → length ys ≡ 16 → ((f : Fragment) → get_or xs f.value d ≡ get_or ys f.value d) → xs ≡ ys
same-list d xs ys long long' same = ext_get_or d xs ys (long ∙ sym long') (λ k low. same (fragment k (omega (arith, low, long))))

number-once : (a b : ℕ) → nat_lt a b ≡ true → nat_lt b a ≡ true → ⊥
number-once a b x y = let less = ltb-true a b x in let more = ltb-true b a y in omega (arith, less, more)

pair-once : (a n b m : ℕ) → (nat_lt a b || (nat_eq a b && nat_lt n m)) ≡ true → (nat_lt b a || (nat_eq b a && nat_lt m n)) ≡ false
pair-once a n b m h = grind (arith, nat_tests)

lease-once : (a b : LeaseRow) → lease_first a b ≡ true → lease_first b a ≡ true → ⊥
lease-once a b x y = (let both : true ≡ false = sym y ∙ pair-once a.stripe.value a.fragment.value b.stripe.value b.fragment.value x in cc)

-- ---- the row of a node, and of a stripe

-- the node of a row is in a list exactly if the row passes the test
number-is : (test : NodeRow → Bool) (rows : List NodeRow) → IsRising node_first rows → (r : NodeRow) → Contains rows r
    → has_number (nodes_where test rows) r.node ≡ test r
number-is test rows rising r here = elim (cases_Bool (test r)) [
  | inl hit ↦ row-number test rows r here hit ∙ sym hit
  | inr miss ↦ false_from_ne_true (has_number (nodes_where test rows) r.node) (λ found.
      let row = number-row test rows r.node found in
      let same = one-node rows rising row.0 r row.1 here row.3 in (let both : true ≡ false = sym row.2 ∙ ap test same ∙ miss in cc)) ∙ sym miss
]

mode-same : (m n : Mode) → is_gone m ≡ is_gone n → is_draining m ≡ is_draining n → m ≡ n
mode-same Active Active x y = refl
mode-same Active Draining x y = absurd (let never : false ≡ true = y in cc)
mode-same Active Gone x y = absurd (let never : false ≡ true = x in cc)
mode-same Draining Active x y = absurd (let never : true ≡ false = y in cc)
mode-same Draining Draining x y = refl
mode-same Draining Gone x y = absurd (let never : false ≡ true = x in cc)
mode-same Gone Active x y = absurd (let never : true ≡ false = x in cc)
mode-same Gone Draining x y = absurd (let never : true ≡ false = x in cc)
mode-same Gone Gone x y = refl

one-stripe : (rows : List StripeRow) → IsRising stripe_first rows → (a b : StripeRow) → Contains rows a → Contains rows b → a.stripe ≡ b.stripe → a ≡ b
one-stripe rows rising a b here there same =
    let number : a.stripe.value ≡ b.stripe.value = ap (λ (s : StripeNo). s.value) same in
    rising-one stripe_first rows rising a b here there
    (λ ahead. let less = ltb-true a.stripe.value b.stripe.value ahead in omega (arith, number, less))
    (λ behind. let less = ltb-true b.stripe.value a.stripe.value behind in omega (arith, number, less))

-- the home that is found for a fragment is that of its row
row-home : (rows : List StripeRow) → IsRising stripe_first rows → (r : StripeRow) → Contains rows r → (f : Fragment)
    → homes_of (homes_in rows) r.stripe f.value ≡ get_or r.homes f.value None
row-home rows rising r here f = same_answers (homes_of (homes_in rows) r.stripe f.value) (get_or r.homes f.value None) there home
  where
    there : (seat : Seat) → homes_of (homes_in rows) r.stripe f.value ≡ Some seat → get_or r.homes f.value None ≡ Some seat
    there seat is =
        let h = held_on r.stripe f seat in
        let m = flat-member row_homes rows h (found-home (homes_in rows) r.stripe f seat is) in
        let same = one-stripe rows rising m.0 r m.1 here (sym (row-stripe m.0 h m.2)) in
        let k = flat-member (homes_at r) all_fragments h (subst (λ (r : StripeRow). Contains (row_homes r) h) same m.2) in
        let own = home-own r.stripe k.0 (get_or r.homes k.0.value None) h k.2 in
        ap (λ (g : Fragment). get_or r.homes g.value None) own.1 ∙ own.2

    home : (seat : Seat) → get_or r.homes f.value None ≡ Some seat → homes_of (homes_in rows) r.stripe f.value ≡ Some seat
    home seat is =
        let h = held_on r.stripe f seat in
        home-found (homes_in rows) (homes-single rows rising) h
        (member-flat row_homes rows r h here
        (member-flat (homes_at r) all_fragments f h (wide-fragment f)
        (subst (λ (o : Option Seat). Contains (home_list r.stripe f o) h) (sym is) (Contains-here h []))))

-- ---- each row of one image is a row of the other

module _ (i j : Image) (rising : AreRising i) (rising' : AreRising j) (alike : AreAlike (image_state i) (image_state j)) where
  abbrev st : State
  st = image_state i

  abbrev other : State
  other = image_state j

  module _ (r : NodeRow) (here : Contains i.nodes.items r) where
    -- the other image has a row of the node
    abbrev HasRow : Type 0
    HasRow = (q : NodeRow) × Contains j.nodes.items q × (q.node ≡ r.node)

    has-row : (test : NodeRow → Bool) → test r ≡ true → HaveSame (nodes_where test i.nodes.items) (nodes_where test j.nodes.items) → HasRow
    has-row test hit same =
        let row = node-row test j.nodes.items r.node (into _ _ same r.node (row-node test i.nodes.items r here hit)) in (row.0, row.1, row.3)

    row-by : (m : Mode) (down : Bool) → r.mode ≡ m → r.is_down ≡ down → HasRow
    row-by Gone down mode is_down = has-row (λ r. is_gone r.mode) (ap is_gone mode) alike.gone
    row-by Draining down mode is_down = has-row (λ r. is_draining r.mode) (ap is_draining mode) alike.draining
    row-by Active true mode is_down = has-row (λ r. r.is_down) is_down alike.down
    row-by Active false mode is_down = absurd (
        let tells = All-contains (λ r. tells_node r ≡ true) i.nodes.items r rising.telling_nodes here in
        let never : false ≡ true = rw (mode, is_down) at tells in cc)

    same-test : (q : NodeRow) → Contains j.nodes.items q → q.node ≡ r.node → (test : NodeRow → Bool)
        → has_number (nodes_where test i.nodes.items) r.node ≡ has_number (nodes_where test j.nodes.items) r.node → test q ≡ test r
    same-test q there node test same =
        sym (number-is test j.nodes.items rising'.nodes q there) ∙ ap (has_number (nodes_where test j.nodes.items)) node
        ∙ sym same ∙ number-is test i.nodes.items rising.nodes r here

    node-there : Contains j.nodes.items r
    node-there =
        let row = row-by r.mode r.is_down refl refl in
        let q = row.0 in
        let mode = mode-same q.mode r.mode (same-test q row.1 row.2 (λ r. is_gone r.mode) (alike-gone st other alike r.node))
        (same-test q row.1 row.2 (λ r. is_draining r.mode) (alike-draining st other alike r.node)) in
        let down = same-test q row.1 row.2 (λ r. r.is_down) (alike-down st other alike r.node) in
        let node = row.2 in
        let same : q ≡ r = λ k. record { node = node k; mode = mode k; is_down = down k } in
        subst (Contains j.nodes.items) same row.1

  module _ (whole : HaveAllFragments i) (whole' : HaveAllFragments j) where
    stripe-there : (r : StripeRow) → Contains i.stripes.items r → Contains j.stripes.items r
    stripe-there r here =
        let m = member-map (λ (r : StripeRow). r.stripe) j.stripes.items r.stripe
        (into _ _ alike.stripes r.stripe (map-member (λ (r : StripeRow). r.stripe) i.stripes.items r here)) in
        let q = m.0 in
        let stripe = m.2 in
        let code : q.code ≡ r.code = sym (code-row other j.stripes.items q refl rising'.stripes m.1) ∙ ap (code_of other) stripe
        ∙ ap (λ (code : StripeNo → Code). code r.stripe) (sym (alike-code st other alike)) ∙ code-row st i.stripes.items r refl rising.stripes here in
        let found = same-homes st.homes other.homes alike.homes (homes-single i.stripes.items rising.stripes) (homes-single j.stripes.items rising'.stripes) in
        let homes : q.homes ≡ r.homes = same-list None q.homes r.homes (All-contains (λ r. length r.homes ≡ 16) j.stripes.items q whole'.homes m.1)
        (All-contains (λ r. length r.homes ≡ 16) i.stripes.items r whole.homes here)
        (λ f. sym (row-home j.stripes.items rising'.stripes q m.1 f) ∙ ap (λ (s : StripeNo). homes_of other.homes s f.value) stripe
        ∙ ap (λ (homes : StripeNo → Homes). homes r.stripe f.value) (sym found) ∙ row-home i.stripes.items rising.stripes r here f) in
        let same : q ≡ r = λ k. record { stripe = stripe k; code = code k; homes = homes k } in
        subst (Contains j.stripes.items) same m.1

    module _ (counts : HaveSameGrants (image_world i).past (image_world j).past) where
      -- a row of the stripe number, if a lease of one of its fragments was granted
      grant-row : (r : GrantRow) → Contains i.grants.items r → (b : Bool) → list_any (λ q. same_stripe q.stripe r.stripe) j.grants.items ≡ b
          → (q : GrantRow) × Contains j.grants.items q × (q.stripe ≡ r.stripe)
      grant-row r here true hit =
          let m = member-list_any (λ (q : GrantRow). same_stripe q.stripe r.stripe) j.grants.items hit in
          (m.0, m.1, equal_stripes m.0.stripe r.stripe (eqb-true m.0.stripe.value r.stripe.value m.2))
      grant-row r here false miss = absurd (
          let some = member-list_any (λ (f : Fragment). nat_lt 0 (get_or r.granted f.value 0)) all_fragments
          (All-contains (λ r. tells_grants r ≡ true) i.grants.items r rising.telling_grants here) in
          let f = some.0 in
          let more = ltb-true 0 (get_or r.granted f.value 0) some.2 in
          let own = row-granted i.grants.items r f rising.grants here in
          let same = counts r.stripe f in
          let none = none-granted r.stripe f j.grants.items (λ q there stripe.
          let other = All-contains (λ (q : GrantRow). same_stripe q.stripe r.stripe ≡ false) j.grants.items q
          (All-list_any (λ (q : GrantRow). same_stripe q.stripe r.stripe) j.grants.items miss) there in
          (let both : true ≡ false = sym (eq-eqb q.stripe.value r.stripe.value (ap (λ (s : StripeNo). s.value) stripe)) ∙ other in cc)) in
          omega (arith, more, own, same, none))

      grant-there : (r : GrantRow) → Contains i.grants.items r → Contains j.grants.items r
      grant-there r here =
          let m = grant-row r here (list_any (λ q. same_stripe q.stripe r.stripe) j.grants.items) refl in
          let q = m.0 in
          let stripe = m.2 in
          let granted : q.granted ≡ r.granted = same-list 0 q.granted r.granted (All-contains (λ r. length r.granted ≡ 16) j.grants.items q whole'.granted m.1)
          (All-contains (λ r. length r.granted ≡ 16) i.grants.items r whole.granted here)
          (λ f. sym (row-granted j.grants.items q f rising'.grants m.1) ∙ ap (λ (s : StripeNo). grants (image_world j).past s f) stripe
          ∙ sym (counts r.stripe f) ∙ row-granted i.grants.items r f rising.grants here) in
          let same : q ≡ r = λ k. record { stripe = stripe k; granted = granted k } in
          subst (Contains j.grants.items) same m.1

  lease-there : (r : LeaseRow) → Contains i.leases.items r → Contains j.leases.items r
  lease-there r here =
      let m = member-map (row_lease (image_world j).past) j.leases.items (row_lease (image_world i).past r)
      (into _ _ alike.leases (row_lease (image_world i).past r) (map-member (row_lease (image_world i).past) i.leases.items r here)) in
      let same : m.0 ≡ r = ap (λ (l : Lease). record { stripe = l.stripe; fragment = l.fragment; holder = l.holder; target = l.target; expiry = l.expiry }) m.2 in
      subst (Contains j.leases.items) same m.1

alike-turn : (w v : State) → AreAlike w v → AreAlike v w
alike-turn w v alike = record {
  stripes = λ x. (back w.stripes v.stripes alike.stripes x, into w.stripes v.stripes alike.stripes x);
  narrow = λ x. (back w.narrow v.narrow alike.narrow x, into w.narrow v.narrow alike.narrow x);
  homes = λ x. (back w.homes v.homes alike.homes x, into w.homes v.homes alike.homes x);
  leases = λ x. (back w.leases v.leases alike.leases x, into w.leases v.leases alike.leases x);
  gone = λ x. (back w.gone v.gone alike.gone x, into w.gone v.gone alike.gone x);
  draining = λ x. (back w.draining v.draining alike.draining x, into w.draining v.draining alike.draining x);
  down = λ x. (back w.down v.down alike.down x, into w.down v.down alike.down x);
  upgrading = sym alike.upgrading;
  clock = sym alike.clock;
}

-- ---- the rows are the same

module _ (i j : Image) (rising : AreRising i) (rising' : AreRising j) (alike : AreAlike (image_state i) (image_state j)) where
  turned : AreAlike (image_state j) (image_state i)
  turned = alike-turn (image_state i) (image_state j) alike

  pub same-nodes : i.nodes.items ≡ j.nodes.items
  same-nodes =
      same_rising (λ a b. node_first a b ≡ true) (λ a b. number-once a.node.value b.node.value) i.nodes.items j.nodes.items rising.nodes rising'.nodes
      (λ r. (node-there i j rising rising' alike r, node-there j i rising' rising turned r))

  pub same-leases : i.leases.items ≡ j.leases.items
  same-leases =
      same_rising (λ a b. lease_first a b ≡ true) lease-once i.leases.items j.leases.items rising.leases rising'.leases
      (λ r. (lease-there i j rising rising' alike r, lease-there j i rising' rising turned r))

  module _ (whole : HaveAllFragments i) (whole' : HaveAllFragments j) where
    pub same-stripes : i.stripes.items ≡ j.stripes.items
    same-stripes =
        same_rising (λ a b. stripe_first a b ≡ true) (λ a b. number-once a.stripe.value b.stripe.value) i.stripes.items j.stripes.items
        rising.stripes rising'.stripes (λ r. (stripe-there i j rising rising' alike whole whole' r, stripe-there j i rising' rising turned whole' whole r))

    pub same-grants : HaveSameGrants (image_world i).past (image_world j).past → i.grants.items ≡ j.grants.items
    same-grants counts =
        same_rising (λ a b. grant_first a b ≡ true) (λ a b. number-once a.stripe.value b.stripe.value) i.grants.items j.grants.items
        rising.grants rising'.grants
        (λ r. (grant-there i j rising rising' alike whole whole' counts r, grant-there j i rising' rising turned whole' whole (λ s f. sym (counts s f)) r))
