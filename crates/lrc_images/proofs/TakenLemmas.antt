-- If the rows of an image rise, and a book can begin in its world, no row of it is wrong.
use Rattle.std.proofs.Common.{[], ◌≡◌, ◌≢◌, ◌+◌, ◌<◌, ◌≤◌, Bool, true, false, not, ◌&&◌, nat_lt, nat_le, nat_eq, if◌then◌else◌, List, ◌∷◌, ◌++◌, map, get_or, Option, Some, None, IfSome, IsSome, IsTrue, is_none, refl, sym, ap, ◌∙◌, subst, append_assoc, append-nil, arith}
use Rattle.std.specs.List.{All, AllPairs, Contains, list_any}
use Rattle.std.specs.Option.{option_map_or}
use Rattle.std.proofs.lemmas.Bool.{le-ltb, lt-ltb, le-leb, ne_eqb, and_parts, and_from, not_from_true, false_from_ne_true}
use Rattle.std.proofs.lemmas.List.{map-append}
use Rattle.std.proofs.lemmas.List.Concat.{flat_map-append}
use Rattle.std.proofs.lemmas.List.Elements.{All-contains, All-weaker, Contains-append_right, Contains-push}
use Rattle.lrc_code.specs.declared.codes.Code.{Code}
use Rattle.lrc_code.specs.declared.numbers.StripeNo.{StripeNo}
use Rattle.lrc_code.specs.declared.numbers.UpgradeNo.{UpgradeNo}
use Rattle.lrc_code.specs.declared.numbers.Fragment.{Fragment}
use Rattle.lrc_code.specs.Codes.{all_fragments, has_fragment}
use Rattle.lrc_topology.specs.declared.NodeInfo.{NodeInfo}
use Rattle.lrc_topology.specs.declared.seat.Held.{Held}
use Rattle.lrc_topology.specs.Nodes.{node_at, has_domain}
use Rattle.lrc_terms.specs.declared.lease.Lease.{Lease}
use Rattle.lrc_rules.specs.declared.entry.Entry.{Entry}
use Rattle.lrc_terms.specs.declared.mode.Mode.{Mode}
use Rattle.lrc_terms.specs.declared.mode.Mode.TheVariants.{Active, Draining, Gone}
use Rattle.lrc_rules.specs.States.{State, has_stripe, code_of, held_by, seats_of, has_number, mode_of}
use Rattle.lrc_terms.specs.Modes.{is_gone, is_draining}
use Rattle.lrc_rules.specs.Choices.{AreApart}
use Rattle.lrc_rules.specs.Leases.{grants, term}
use Rattle.lrc_rules.specs.Goodness.{IsStanding, KeepApart, AreSeated}
use Rattle.lrc_rules.proofs.MemberLemmas.{All-members, list_any-All, map-member}
use Rattle.lrc_rules.proofs.PairLemmas.{pairs-left}
use Rattle.lrc_rules.proofs.StateLemmas.{there-stripe}
use Rattle.lrc_rules.proofs.SeatingLemmas.{IsWithin, MayStand, held-single, held-standing}
use Rattle.lrc_images.specs.declared.cause.Cause.TheVariants as cause
use Rattle.lrc_images.specs.declared.image.NodeRow.{NodeRow}
use Rattle.lrc_images.specs.declared.image.StripeRow.{StripeRow}
use Rattle.lrc_images.specs.declared.image.GrantRow.{GrantRow}
use Rattle.lrc_images.specs.declared.image.LeaseRow.{LeaseRow}
use Rattle.lrc_images.specs.declared.image.Image.{Image}
use Rattle.lrc_images.specs.Images.{earlier, row_homes, row_lease, image_state, image_world}
use Rattle.lrc_images.specs.Rising.{node_first, stripe_first, grant_first, lease_first, tells_node, tells_grants, AreRising}
use Rattle.lrc_images.specs.Causes.{most_grants, most_ticks, most_entries, is_out_of_order, head_cause, node_cause, seat_cause, with_homes, homes_cause, stripe_cause, grant_cause, with_leases, lease_cause, first_cause}
use Rattle.lrc_images.specs.Bases.{IsBase}
use Rattle.lrc_images.proofs.EarlierLemmas.{counted-most}
use Rattle.lrc_images.proofs.AnswerLemmas.{none-if, clear-none, split-clear, after-comes, earlier-pairs, split-member}
use Rattle.lrc_images.proofs.SeatCauseLemmas.{may-seat}
use Rattle.lrc_images.proofs.RisingLemmas.{row-node, row-number, row-stripe, code-row}
use Rattle.lrc_images.proofs.LawfulLemmas.{lawful-cause}
use Rattle.lrc_images.proofs.SeatedRowsLemmas.{homes_in}

-- ---- a seat that is held may be held after the earlier ones

module _ (nodes : List NodeInfo) (st : State) (seated : AreSeated nodes st) where
  module _ (part : State) (front : List Held) (h : Held) (rest : List Held) (split : seats_of st ≡ front ++ h ∷ rest) (is : seats_of part ≡ front)
      (code : code_of part h.stripe ≡ code_of st h.stripe) where
    among : Contains (seats_of st) h
    among = split-member (seats_of st) front h rest split

    part-apart : (g : Held) → KeepApart nodes st g h → KeepApart nodes part g h
    part-apart g apart stripe fragment =
        subst (λ (c : Code). IfSome (node_at nodes g.seat.node) (λ n. IfSome (node_at nodes h.seat.node) (λ m. AreApart c g.fragment n h.fragment m)))
        (subst (λ (s : StripeNo). code_of st s ≡ code_of part s) (sym stripe) (sym code)) (apart stripe fragment)

    part-may : IsStanding nodes part h.seat → Contains part.stripes h.stripe → MayStand nodes part h
    part-may standing there = record {
      standing = standing;
      others = subst (All (λ g. g.seat ≢ h.seat)) (sym is)
          (earlier-pairs (λ (g h : Held). g.seat ≢ h.seat) front h rest (subst (AllPairs (λ (g h : Held). g.seat ≢ h.seat)) split (held-single nodes st seated)));
      apart = subst (All (λ g. KeepApart nodes part g h)) (sym is)
          (All-weaker (λ g. KeepApart nodes st g h) (λ g. KeepApart nodes part g h) part-apart front
          (earlier-pairs (KeepApart nodes st) front h rest (subst (AllPairs (KeepApart nodes st)) split seated.lawful)));
      there = there;
      within = subst (λ (c : Code). IsTrue (has_fragment c h.fragment.value)) (sym code) (All-contains (IsWithin st) (seats_of st) h seated.within among);
    }

    held-stands : IsStanding nodes st h.seat
    held-stands = All-contains (λ g. IsStanding nodes st g.seat) (seats_of st) h (held-standing nodes st seated) among

-- the homes of some rows, split at one home of the last one
regroup : {X : Type 0} (a h : List X) (y : X) (r b t : List X) → (a ++ ((h ++ y ∷ r) ++ b)) ++ t ≡ (a ++ h) ++ y ∷ ((r ++ b) ++ t)
regroup {X} a h y r b t =
    append_assoc a ((h ++ y ∷ r) ++ b) t
    ∙ ap (λ (xs : List X). a ++ (xs ++ t)) (append_assoc h (y ∷ r) b)
    ∙ ap (λ (xs : List X). a ++ xs) (append_assoc h (y ∷ (r ++ b)) t)
    ∙ sym (append_assoc a h (y ∷ ((r ++ b) ++ t)))

none-domain : (nodes : List NodeInfo) (o : Option UpgradeNo) → IfSome o (λ u. IsTrue (has_domain nodes u)) → option_map_or (λ u. not (has_domain nodes u)) o false ≡ false
none-domain nodes None known = refl
none-domain nodes (Some u) known = not_from_true (has_domain nodes u) known

some-not_none : {X : Type 0} (o : Option X) → IsSome o → is_none o ≡ false
some-not_none (Some x) some = refl
some-not_none None some = absurd (let never : false ≡ true = some in cc)

module _ (nodes : List NodeInfo) (i : Image) (rising : AreRising i) (base : IsBase nodes (image_world i)) where
  abbrev st : State
  st = image_state i

  abbrev past : List Entry
  past = earlier i.grants.items

  head-none : i.before ≤ most_entries → head_cause nodes i ≡ None
  head-none few =
      none-if (option_map_or (λ u. not (has_domain nodes u)) i.upgrading false) cause.UnknownDomain _ (none-domain nodes i.upgrading base.tidy.domain)
      (none-if (nat_lt most_entries i.before) cause.TooManyEntries _ (le-ltb most_entries i.before few)
      (none-if (nat_lt most_ticks i.clock) cause.TooManyTicks None (le-ltb most_ticks i.clock base.ticks) refl))

  -- ---- nodes

  module _ (before : List NodeRow) (r : NodeRow) (later : List NodeRow) (is : i.nodes.items ≡ before ++ r ∷ later) where
    here : Contains i.nodes.items r
    here = split-member i.nodes.items before r later is

    tells : tells_node r ≡ true
    tells = All-contains (λ r. tells_node r ≡ true) i.nodes.items r rising.telling_nodes here

    known-by : (m : Mode) (down : Bool) → r.mode ≡ m → r.is_down ≡ down → IsSome (node_at nodes r.node)
    known-by Gone down mode is_down =
        All-contains (λ n. IsSome (node_at nodes n)) st.gone r.node base.tidy.gone (row-node (λ (r : NodeRow). is_gone r.mode) i.nodes.items r here (ap is_gone mode))
    known-by Draining down mode is_down =
        All-contains (λ n. IsSome (node_at nodes n)) st.draining r.node base.tidy.draining
        (row-node (λ (r : NodeRow). is_draining r.mode) i.nodes.items r here (ap is_draining mode))
    known-by Active true mode is_down =
        All-contains (λ n. IsSome (node_at nodes n)) st.down r.node base.tidy.down (row-node (λ (r : NodeRow). r.is_down) i.nodes.items r here is_down)
    known-by Active false mode is_down = absurd (let never : false ≡ true = rw (mode, is_down) at tells in cc)

    not-both : (is_gone r.mode && r.is_down) ≡ false
    not-both = false_from_ne_true (is_gone r.mode && r.is_down) (λ hit.
        let parts = and_parts (is_gone r.mode) r.is_down hit in
        let gone : has_number st.gone r.node ≡ true = row-number (λ (r : NodeRow). is_gone r.mode) i.nodes.items r here parts.0 in
        All-contains (λ n. mode_of st n ≢ Gone) st.down r.node base.good.seated.reachable (row-node (λ (r : NodeRow). r.is_down) i.nodes.items r here parts.1)
        (ap (λ (b : Bool). if b then Gone else (if has_number st.draining r.node then Draining else Active)) gone))

    node-none : node_cause nodes before r ≡ None
    node-none =
        none-if (is_out_of_order node_first before r) cause.OutOfOrder _
        (after-comes node_first before r (earlier-pairs (λ a b. node_first a b ≡ true) before r later (subst (AllPairs (λ a b. node_first a b ≡ true)) is rising.nodes)))
        (none-if (not (tells_node r)) cause.SaysNothing _ (not_from_true (tells_node r) tells)
        (none-if (is_none (node_at nodes r.node)) cause.UnknownNode _ (some-not_none (node_at nodes r.node) (known-by r.mode r.is_down refl refl))
        (none-if (is_gone r.mode && r.is_down) cause.GoneAndDown None not-both refl)))

  -- ---- stripes

  module _ (before : List StripeRow) (r : StripeRow) (later : List StripeRow) (is : i.stripes.items ≡ before ++ r ∷ later) where
    abbrev rows : List StripeRow
    rows = before ++ r ∷ []

    rows-rising : AllPairs (λ a b. stripe_first a b ≡ true) rows
    rows-rising =
        pairs-left (λ a b. stripe_first a b ≡ true) rows later
        (subst (AllPairs (λ a b. stripe_first a b ≡ true)) (is ∙ sym (append_assoc before (r ∷ []) later)) rising.stripes)

    module _ (homes : List Held) (h : Held) (rest : List Held) (split : row_homes r ≡ homes ++ h ∷ rest) where
      abbrev part : State
      part = with_homes i rows (homes_in before ++ homes)

      own : h.stripe ≡ r.stripe
      own = row-stripe r h (split-member (row_homes r) homes h rest split)

      same-code : code_of part h.stripe ≡ code_of st h.stripe
      same-code =
          subst (λ (s : StripeNo). code_of part s ≡ code_of st s) (sym own)
          (code-row part rows r refl rows-rising (Contains-push before r)
          ∙ sym (code-row st i.stripes.items r refl rising.stripes (split-member i.stripes.items before r later is)))

      seats-split : seats_of st ≡ (homes_in before ++ homes) ++ h ∷ ((rest ++ homes_in later) ++ map held_by st.leases)
      seats-split =
          ap (λ (hs : List Held). hs ++ map held_by st.leases)
          (ap homes_in is ∙ flat_map-append row_homes before (r ∷ later) ∙ ap (λ (hs : List Held). homes_in before ++ (hs ++ homes_in later)) split)
          ∙ regroup (homes_in before) homes h rest (homes_in later) (map held_by st.leases)

      home-none : seat_cause nodes part h ≡ None
      home-none =
          let whole = seats-split in
          let front = append-nil (homes_in before ++ homes) in
          may-seat nodes part h (part-may nodes st base.good.seated part (homes_in before ++ homes) h ((rest ++ homes_in later) ++ map held_by st.leases) whole front same-code
          (held-stands nodes st base.good.seated part (homes_in before ++ homes) h ((rest ++ homes_in later) ++ map held_by st.leases) whole front same-code)
          (subst (Contains (map (λ (b : StripeRow). b.stripe) rows)) (sym own) (map-member (λ (b : StripeRow). b.stripe) rows r (Contains-push before r))))

    stripe-none : stripe_cause nodes i before r ≡ None
    stripe-none =
        let ask = λ (homes : List Held) (h : Held). seat_cause nodes (with_homes i rows (homes_in before ++ homes)) h in
        none-if (is_out_of_order stripe_first before r) cause.OutOfOrder (homes_cause nodes i before r)
        (after-comes stripe_first before r
        (earlier-pairs (λ a b. stripe_first a b ≡ true) before r later (subst (AllPairs (λ a b. stripe_first a b ≡ true)) is rising.stripes)))
        (clear-none ask [] (row_homes r) (split-clear ask (row_homes r) home-none [] (row_homes r) refl))

  -- ---- grants

  grant-none : (before : List GrantRow) (r : GrantRow) (later : List GrantRow) → i.grants.items ≡ before ++ r ∷ later → grant_cause before r ≡ None
  grant-none before r later is =
      let here = split-member i.grants.items before r later is in
      let many = λ (f : Fragment). nat_lt most_grants (get_or r.granted f.value 0) in
      none-if (is_out_of_order grant_first before r) cause.OutOfOrder _
      (after-comes grant_first before r
      (earlier-pairs (λ a b. grant_first a b ≡ true) before r later (subst (AllPairs (λ a b. grant_first a b ≡ true)) is rising.grants)))
      (none-if (not (tells_grants r)) cause.SaysNothing _
      (not_from_true (tells_grants r) (All-contains (λ r. tells_grants r ≡ true) i.grants.items r rising.telling_grants here))
      (none-if (list_any many all_fragments) cause.TooManyGrants None
      (list_any-All many all_fragments (All-members (λ f. many f ≡ false) all_fragments (λ f among.
      let low = counted-most i.grants.items r f here in
      let high = base.counts r.stripe f in le-ltb most_grants (get_or r.granted f.value 0) (omega (arith, low, high)))))
      refl))

  -- ---- leases

  module _ (before : List LeaseRow) (r : LeaseRow) (later : List LeaseRow) (is : i.leases.items ≡ before ++ r ∷ later) where
    abbrev l : Lease
    l = row_lease past r

    abbrev held : List LeaseRow → List Held
    held rows = map held_by (map (row_lease past) rows)

    live : Contains st.leases l
    live = map-member (row_lease past) i.leases.items r (split-member i.leases.items before r later is)

    leases-split : seats_of st ≡ (st.homes ++ held before) ++ held_by l ∷ held later
    leases-split =
        ap (λ (rows : List LeaseRow). st.homes ++ held rows) is
        ∙ ap (λ (ls : List Lease). st.homes ++ map held_by ls) (map-append (row_lease past) before (r ∷ later))
        ∙ ap (λ (hs : List Held). st.homes ++ hs) (map-append held_by (map (row_lease past) before) (map (row_lease past) (r ∷ later)))
        ∙ sym (append_assoc st.homes (held before) (held_by l ∷ held later))

    there : Contains st.stripes r.stripe
    there = All-contains (λ h. Contains st.stripes h.stripe) (seats_of st) (held_by l) base.good.seated.there
        (Contains-append_right st.homes (map held_by st.leases) (held_by l) (map-member held_by st.leases l live))

    target-none : seat_cause nodes (with_leases i before) (held_by l) ≡ None
    target-none =
        may-seat nodes (with_leases i before) (held_by l)
        (part-may nodes st base.good.seated (with_leases i before) (st.homes ++ held before) (held_by l) (held later) leases-split refl refl
        (held-stands nodes st base.good.seated (with_leases i before) (st.homes ++ held before) (held_by l) (held later) leases-split refl refl) there)

    lease-none : lease_cause nodes i before r ≡ None
    lease-none =
        let count = grants past r.stripe r.fragment in
        none-if (is_out_of_order lease_first before r) cause.OutOfOrder _
        (after-comes lease_first before r (earlier-pairs (λ a b. lease_first a b ≡ true) before r later (subst (AllPairs (λ a b. lease_first a b ≡ true)) is rising.leases)))
        (none-if (not (has_stripe st r.stripe)) cause.UnknownStripe _ (not_from_true (has_stripe st r.stripe) (there-stripe st r.stripe there))
        (none-if (nat_eq count 0) cause.NeverGranted _
        (ne_eqb count 0 (λ none. let some = All-contains (λ l. 1 ≤ l.epoch) st.leases l base.tidy.granted live in omega (arith, none, some)))
        (none-if (not (nat_lt i.clock r.expiry && nat_le r.expiry (i.clock + term))) cause.WrongExpiry _
        (not_from_true _ (and_from (nat_lt i.clock r.expiry) (nat_le r.expiry (i.clock + term))
        (lt-ltb i.clock r.expiry (All-contains (λ l. st.clock < l.expiry) st.leases l base.good.running live))
        (le-leb r.expiry (i.clock + term) (All-contains (λ l. l.expiry ≤ st.clock + term) st.leases l base.good.termed live))))
        target-none)))

  -- ---- the image

  pub base-taken : i.before ≤ most_entries → first_cause nodes i ≡ None
  base-taken few = lawful-cause nodes i (record {
    head = head-none few;
    node_rows = split-clear (node_cause nodes) i.nodes.items node-none [] i.nodes.items refl;
    stripe_rows = split-clear (stripe_cause nodes i) i.stripes.items stripe-none [] i.stripes.items refl;
    grant_rows = split-clear grant_cause i.grants.items grant-none [] i.grants.items refl;
    lease_rows = split-clear (lease_cause nodes i) i.leases.items lease-none [] i.leases.items refl;
  })
