-- If no row of an image is wrong, the seats of its state are in order, and a book can begin in its world.
use Rattle.std.proofs.Common.{[], ◌≡◌, ◌≢◌, ◌+◌, ◌<◌, ◌≤◌, true, false, List, ◌∷◌, ◌++◌, map, filter, flat_map, None, refl, sym, ap, ap₂, ◌∙◌, subst, append_assoc, append-nil, arith}
use Rattle.std.specs.List.{All, AllPairs, Contains}
use Rattle.std.proofs.lemmas.Bool.{ne_eqb}
use Rattle.std.proofs.lemmas.List.{map-append}
use Rattle.std.proofs.lemmas.List.Concat.{flat_map-append}
use Rattle.std.proofs.lemmas.List.Elements.{All-nil, All-head, All-tail, All-weaker, All-contains, All-map, Contains-push, filter-append}
use Rattle.lrc_code.specs.declared.codes.Code.{Code}
use Rattle.lrc_code.specs.declared.codes.Code.TheVariants.{Wide, Narrow}
use Rattle.lrc_code.specs.declared.numbers.StripeNo.{StripeNo}
use Rattle.lrc_code.proofs.NumbersLemmas.{equal_stripes}
use Rattle.lrc_topology.specs.declared.NodeInfo.{NodeInfo}
use Rattle.lrc_topology.specs.declared.seat.Held.{Held}
use Rattle.lrc_topology.specs.Nodes.{AreNodes}
use Rattle.lrc_terms.specs.declared.lease.Lease.{Lease}
use Rattle.lrc_rules.specs.declared.entry.Entry.{Entry}
use Rattle.lrc_rules.specs.States.{State, has_stripe, held_by}
use Rattle.lrc_terms.specs.Modes.{is_gone, is_draining}
use Rattle.lrc_rules.specs.Leases.{grants, term}
use Rattle.lrc_rules.specs.Steps.{is_other, with_code, with_stripe}
use Rattle.lrc_rules.specs.Goodness.{IsStanding, AreSeated}
use Rattle.lrc_rules.proofs.MemberLemmas.{All-members, filter-member, map-member}
use Rattle.lrc_rules.proofs.TakenLemmas.{member-map}
use Rattle.lrc_rules.proofs.PairLemmas.{pairs-left}
use Rattle.lrc_rules.proofs.LookUpLemmas.{stripe-there}
use Rattle.lrc_rules.proofs.StateLemmas.{stripe-absent, lease-none}
use Rattle.lrc_rules.proofs.SeatingLemmas.{IsWithin, inserted-seated, leased-seated}
use Rattle.lrc_rules.proofs.SeatedLemmas.{stripe-seated}
use Rattle.lrc_images.specs.declared.cause.Cause.TheVariants as cause
use Rattle.lrc_images.specs.declared.image.StripeRow.{StripeRow}
use Rattle.lrc_images.specs.declared.image.LeaseRow.{LeaseRow}
use Rattle.lrc_images.specs.declared.image.Image.{Image}
use Rattle.lrc_images.specs.Images.{earlier, is_narrow, row_homes, row_lease, image_state, image_world}
use Rattle.lrc_images.specs.Rising.{stripe_first, lease_first}
use Rattle.lrc_images.specs.Causes.{is_out_of_order, seat_cause, with_homes, homes_cause, stripe_cause, with_leases, lease_cause}
use Rattle.lrc_images.specs.Bases.{IsBase}
use Rattle.lrc_images.proofs.AnswerLemmas.{if-none, none-clear, clear-walk, clear-all, comes-after, earlier-pairs, split-member}
use Rattle.lrc_images.proofs.SeatCauseLemmas.{seat-may}
use Rattle.lrc_images.proofs.RisingLemmas.{AreOneHome, other-stripe, row-stripe, homes-single, other-lease, rising-apart}
use Rattle.lrc_images.proofs.LawfulLemmas.{IsLawful, IsLeaseRow, lease-row, lawful-domain, lawful-ticks, lawful-rising, lawful-nodes, lawful-down, lawful-counts}

-- ---- a new stripe

-- the homes of these rows
abbrev pub homes_in : List StripeRow → List Held
homes_in rows = flat_map row_homes rows

-- the narrow stripes of these rows
abbrev narrow_in : List StripeRow → List StripeNo
narrow_in rows = map (λ r. r.stripe) (filter (λ r. is_narrow r.code) rows)

-- the homes of one row more
pub homes-more : (before : List StripeRow) (r : StripeRow) → homes_in (before ++ r ∷ []) ≡ homes_in before ++ row_homes r
homes-more before r = flat_map-append row_homes before (r ∷ []) ∙ ap (λ (hs : List Held). homes_in before ++ hs) (append-nil (row_homes r))

keep-all : (s : StripeNo) (xs : List StripeNo) → All (λ t. t ≢ s) xs → filter (is_other s) xs ≡ xs
keep-all s [] all = refl
keep-all s (t ∷ ts) all =
    rw (ne_eqb s.value t.value (λ e. All-head (λ t. t ≢ s) t ts all (equal_stripes t s (sym e))))
    (ap (λ (xs : List StripeNo). t ∷ xs) (keep-all s ts (All-tail (λ t. t ≢ s) t ts all)))

module _ (before : List StripeRow) (r : StripeRow) (apart : All (λ b. b.stripe ≢ r.stripe) before) where
  narrow-apart : All (λ t. t ≢ r.stripe) (narrow_in before)
  narrow-apart = All-members (λ t. t ≢ r.stripe) (narrow_in before) (λ t here same.
      let m = member-map (λ (b : StripeRow). b.stripe) (filter (λ b. is_narrow b.code) before) t here in
      let row = filter-member (λ (b : StripeRow). is_narrow b.code) before m.0 m.1 in
      All-contains (λ (b : StripeRow). b.stripe ≢ r.stripe) before m.0 apart row.0 (m.2 ∙ same))

  narrow-by : (code : Code) → r.code ≡ code → with_code code r.stripe (narrow_in before) ≡ narrow_in before ++ narrow_in (r ∷ [])
  narrow-by Wide is = keep-all r.stripe (narrow_in before) narrow-apart ∙ sym (append-nil (narrow_in before)) ∙ rw is refl
  narrow-by Narrow is = rw is refl

  narrow-more : with_code r.code r.stripe (narrow_in before) ≡ narrow_in (before ++ r ∷ [])
  narrow-more =
      narrow-by r.code refl
      ∙ sym (ap (map (λ (b : StripeRow). b.stripe)) (filter-append (λ (b : StripeRow). is_narrow b.code) before (r ∷ []))
      ∙ map-append (λ (b : StripeRow). b.stripe) (filter (λ b. is_narrow b.code) before) (filter (λ b. is_narrow b.code) (r ∷ [])))

  module _ (i : Image) (homes : List Held) where
    -- no earlier row has the stripe
    pub row-absent : has_stripe (with_homes i before homes) r.stripe ≡ false
    row-absent = stripe-absent (with_homes i before homes) r.stripe (λ here.
        let m = member-map (λ (b : StripeRow). b.stripe) before r.stripe here in
        All-contains (λ (b : StripeRow). b.stripe ≢ r.stripe) before m.0 apart m.1 m.2)

    -- and with it added, the rows are one more
    pub row-is : with_stripe (with_homes i before homes) r.code r.stripe ≡ with_homes i (before ++ r ∷ []) homes
    row-is =
        ap₂ (λ (stripes narrow : List StripeNo). record (image_state i) { stripes = stripes; narrow = narrow; homes = homes; leases = [] })
        (sym (map-append (λ (b : StripeRow). b.stripe) before (r ∷ []))) narrow-more

module _ (nodes : List NodeInfo) (known : AreNodes nodes) (i : Image) (lawful : IsLawful nodes i) where
  -- ---- the seats, row by row

  bare-seated : AreSeated nodes (with_homes i [] [])
  bare-seated = record {
    stripes = λ i j d below within. absurd (omega arith);
    single = λ i j d below within. absurd (omega arith);
    standing = All-nil (IsStanding nodes (with_homes i [] []));
    lawful = λ i j d below within. absurd (omega arith);
    one_home = λ i j d below within. absurd (omega arith);
    one_lease = λ i j d below within. absurd (omega arith);
    coded = All-nil (λ s. Contains (with_homes i [] []).stripes s);
    there = All-nil (λ h. Contains (with_homes i [] []).stripes h.stripe);
    within = All-nil (IsWithin (with_homes i [] []));
    reachable = lawful-down nodes i lawful;
  }

  module _ (before : List StripeRow) (r : StripeRow) (later : List StripeRow) (is : i.stripes.items ≡ before ++ r ∷ later) where
    abbrev rows : List StripeRow
    rows = before ++ r ∷ []

    abbrev state_with : List Held → State
    state_with homes = with_homes i rows (homes_in before ++ homes)

    rows-single : AllPairs AreOneHome (homes_in before ++ row_homes r)
    rows-single =
        subst (AllPairs AreOneHome) (homes-more before r)
        (homes-single rows (pairs-left (λ a b. stripe_first a b ≡ true) rows later
        (subst (AllPairs (λ a b. stripe_first a b ≡ true)) (is ∙ sym (append_assoc before (r ∷ []) later)) (lawful-rising nodes i lawful).stripes)))

    -- one more home of the row
    home-step : (homes : List Held) (h : Held) (rest : List Held) → row_homes r ≡ homes ++ h ∷ rest → AreSeated nodes (state_with homes)
        → seat_cause nodes (state_with homes) h ≡ None → AreSeated nodes (state_with (homes ++ h ∷ []))
    home-step homes h rest split seated none =
        let own = row-stripe r h (split-member (row_homes r) homes h rest split) in
        let there = subst (Contains (map (λ (b : StripeRow). b.stripe) rows)) (sym own) (map-member (λ (b : StripeRow). b.stripe) rows r (Contains-push before r)) in
        let absent = earlier-pairs AreOneHome (homes_in before ++ homes) h rest
        (subst (AllPairs AreOneHome) (ap (λ (hs : List Held). homes_in before ++ hs) split ∙ sym (append_assoc (homes_in before) homes (h ∷ rest))) rows-single) in
        subst (λ (hs : List Held). AreSeated nodes (with_homes i rows hs)) (append_assoc (homes_in before) homes (h ∷ []))
        (inserted-seated nodes (state_with homes) seated h (seat-may nodes (state_with homes) h none there) absent)

    stripe-step : AreSeated nodes (with_homes i before (homes_in before)) → stripe_cause nodes i before r ≡ None → AreSeated nodes (with_homes i rows (homes_in rows))
    stripe-step seated none =
        let parts = if-none (is_out_of_order stripe_first before r) cause.OutOfOrder (homes_cause nodes i before r) none in
        let apart = All-weaker (λ b. stripe_first b r ≡ true) (λ (b : StripeRow). b.stripe ≢ r.stripe) (λ b first. other-stripe b r first) before (comes-after stripe_first before r parts.0) in
        let st = with_homes i before (homes_in before) in
        let begun = subst (AreSeated nodes) (row-is before r apart i (homes_in before)) (stripe-seated nodes known st r.stripe r.code seated (row-absent before r apart i (homes_in before))) in
        let ask = λ (homes : List Held) (h : Held). seat_cause nodes (state_with homes) h in
        subst (λ (hs : List Held). AreSeated nodes (with_homes i rows hs)) (sym (homes-more before r))
        (clear-walk ask (row_homes r) (λ homes. AreSeated nodes (state_with homes)) home-step [] (row_homes r) refl
        (subst (λ (hs : List Held). AreSeated nodes (with_homes i rows hs)) (sym (append-nil (homes_in before))) begun) (none-clear ask [] (row_homes r) parts.1))

  stripes-seated : AreSeated nodes (with_homes i i.stripes.items (homes_in i.stripes.items))
  stripes-seated =
      clear-walk (stripe_cause nodes i) i.stripes.items (λ rows. AreSeated nodes (with_homes i rows (homes_in rows))) stripe-step [] i.stripes.items refl
      bare-seated lawful.stripe_rows

  abbrev past : List Entry
  past = earlier i.grants.items

  -- one more lease
  lease-step : (before : List LeaseRow) (r : LeaseRow) (later : List LeaseRow) → i.leases.items ≡ before ++ r ∷ later
      → AreSeated nodes (with_leases i before) → lease_cause nodes i before r ≡ None → AreSeated nodes (with_leases i (before ++ r ∷ []))
  lease-step before r later is seated none =
      let row = lease-row nodes i before r none in
      let st = with_leases i before in
      let l = row_lease past r in
      let unleased = lease-none st r.stripe r.fragment (λ k among stripe fragment.
      let m = member-map (row_lease past) before k among in
      other-lease m.0 r (All-contains (λ b. lease_first b r ≡ true) before m.0 row.after m.1)
      (ap (λ (l : Lease). l.stripe) m.2 ∙ stripe) (ap (λ (l : Lease). l.fragment) m.2 ∙ fragment)) in
      subst (λ (ls : List Lease). AreSeated nodes (record (image_state i) { leases = ls })) (sym (map-append (row_lease past) before (r ∷ [])))
      (leased-seated nodes st seated l (seat-may nodes st (held_by l) row.seat (stripe-there (image_state i) r.stripe row.there)) unleased)

  lawful-seated : AreSeated nodes (image_state i)
  lawful-seated =
      clear-walk (lease_cause nodes i) i.leases.items (λ rows. AreSeated nodes (with_leases i rows)) lease-step [] i.leases.items refl
      stripes-seated lawful.lease_rows

  -- ---- the base

  -- what the rows of leases say holds for the leases
  all-leases : (P : Lease → Type 0) → ((before : List LeaseRow) (r : LeaseRow) → IsLeaseRow nodes i before r → P (row_lease past r)) → All P (image_state i).leases
  all-leases P says =
      All-map P (row_lease past) i.leases.items
      (clear-all (lease_cause nodes i) (λ r. P (row_lease past r)) (λ before r e. says before r (lease-row nodes i before r e)) [] i.leases.items lawful.lease_rows)

  pub lawful-base : IsBase nodes (image_world i)
  lawful-base = record {
    good = record {
      seated = lawful-seated;
      current = all-leases (λ l. l.epoch ≡ grants past l.stripe l.fragment) (λ before r row. refl);
      running = all-leases (λ l. i.clock < l.expiry) (λ before r row. row.running);
      termed = all-leases (λ l. l.expiry ≤ i.clock + term) (λ before r row. row.termed);
    };
    tidy = record {
      domain = lawful-domain nodes i lawful;
      gone = lawful-nodes nodes i lawful (λ r. is_gone r.mode);
      draining = lawful-nodes nodes i lawful (λ r. is_draining r.mode);
      down = lawful-nodes nodes i lawful (λ r. r.is_down);
      apart = rising-apart i (lawful-rising nodes i lawful);
      granted = all-leases (λ l. 1 ≤ l.epoch) (λ before r row. row.granted);
    };
    counts = lawful-counts nodes i lawful;
    ticks = lawful-ticks nodes i lawful;
  }
