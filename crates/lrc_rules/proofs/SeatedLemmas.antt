-- Each command keeps the seats of the state in order (`AreSeated`).
use Rattle.std.proofs.Common.{[], inl, inr, ℕ, ◌+◌, cond, zero-add, if◌then◌else◌, ◌≡◌, ◌≢◌, ◌<◌, Bool, true, false, not, eqb, List, ◌∷◌, ◌++◌, map, filter, Option, Some, None, Result, Ok, Err, IfSome, IsSomeAnd, IsTrue, fold, arith, refl, sym, ap, ◌∙◌, subst}
use Rattle.std.specs.List.{All, Contains}
use Rattle.std.proofs.lemmas.Bool.{cases_Bool, lt-ltb, ne_eqb, eq-eqb, eqb-false, not-true, or_parts}
use Rattle.std.proofs.lemmas.List.Elements.{All-nil, All-cons, All-head, All-tail, All-append, All-weaker, All-filter, All-map, All-push, All-contains, Contains-append_left, Contains-push, Contains-push_cases}
use Rattle.std.proofs.lemmas.List.Folds.{list_any-append}
use Rattle.std.proofs.lemmas.List.Kept.{AllPairs-filter}
use Rattle.std.proofs.lemmas.List.Sums.{sum_by-cons}
use Rattle.lrc_code.specs.declared.codes.Code.{Code}
use Rattle.lrc_code.specs.declared.codes.Code.TheVariants.{Wide, Narrow}
use Rattle.lrc_code.specs.declared.numbers.StripeNo.{StripeNo}
use Rattle.lrc_code.specs.declared.numbers.NodeNo.{NodeNo}
use Rattle.lrc_code.specs.declared.numbers.UpgradeNo.{UpgradeNo}
use Rattle.lrc_code.specs.declared.numbers.Fragment.{Fragment}
use Rattle.lrc_code.specs.Codes.{fragments, fragment_count, has_fragment}
use Rattle.lrc_terms.proofs.CodeListLemmas.{fragment-number_in, fragments-long}
use Rattle.lrc_topology.specs.declared.NodeInfo.{NodeInfo}
use Rattle.lrc_topology.specs.declared.seat.Seat.{Seat}
use Rattle.lrc_topology.specs.declared.seat.Held.{Held}
use Rattle.lrc_topology.specs.Nodes.{AreNodes, node_at}
use Rattle.lrc_topology.specs.Seats.{load_of}
use Rattle.lrc_rules.specs.declared.refusal.Refusal.TheVariants as refusal
use Rattle.lrc_terms.specs.declared.mode.Mode.TheVariants.{Active, Draining, Gone}
use Rattle.lrc_terms.specs.declared.lease.Lease.{Lease as LeaseRecord}
use Rattle.lrc_terms.specs.Leased.{is_target_on}
use Rattle.lrc_terms.specs.Modes.{is_gone}
use Rattle.lrc_rules.specs.States.{State, held_by, has_stripe, has_number, without_number, mode_of, code_of, seats_of, taken_seats, load}
use Rattle.lrc_rules.specs.Placement.{place_next, placed}
use Rattle.lrc_rules.specs.Steps.{with_code, with_stripe, place_answer, place_outcome, is_other, without_stripe, stands_on, hangs_on, emptied, with_gone, with_down, without_down, with_draining, without_draining, without_gone}
use Rattle.lrc_rules.specs.Goodness.{IsStanding, KeepApart, AreSeated}
use Rattle.lrc_rules.specs.Choices.{AreApart}
use Rattle.lrc_rules.proofs.MemberLemmas.{list_any-All, All-list_any, All-members, member-filter, filter-member, list_any-member}
use Rattle.lrc_rules.proofs.SeatingLists.{All-both, pairs-push, pairs-carried}
use Rattle.lrc_rules.proofs.CodedLemmas.{code-own, code-other, code-left}
use Rattle.lrc_rules.proofs.SeatingLemmas.{HasNone, IsWithin, homes-all, leases-all, IsPlacing, placing, fragments-distinct}
use Rattle.lrc_rules.proofs.LeaseGoodLemmas.{kept-seated}
use Rattle.lrc_rules.proofs.OutcomeLemmas.{either-way}

-- ---- commands

-- a stripe that the store lacks differs from each stripe of the store
pub not_there : (st : State) (s : StripeNo) → has_stripe st s ≡ false → (t : StripeNo) → Contains st.stripes t → t ≢ s
not_there st s e t here same =
    let hit = list_any-member (λ (u : StripeNo). eqb s.value u.value) st.stripes t here
    (eq-eqb s.value t.value (ap (λ (x : StripeNo). x.value) (sym same))) in
    let both : true ≡ false = sym hit ∙ e in cc

-- and so does its number
other-stripe : (st : State) (s : StripeNo) → has_stripe st s ≡ false → (t : StripeNo) → Contains st.stripes t → eqb s.value t.value ≡ false
other-stripe st s e t here =
    All-contains (λ (u : StripeNo). eqb s.value u.value ≡ false) st.stripes t (All-list_any (λ (u : StripeNo). eqb s.value u.value) st.stripes e) here

-- the fragments of a code are those that it has
fragments-own : (code : Code) → All (λ f. IsTrue (has_fragment code f.value)) (fragments code)
fragments-own code i d within =
    let low : i < fragment_count code = omega (arith, within, fragments-long code) in
    subst (λ n. has_fragment code n ≡ true) (sym (fragment-number_in code i d low)) (lt-ltb i (fragment_count code) low)

-- after a stripe is added, with either code, each narrow stripe is still a stripe of the store
coded-with : (st : State) (code : Code) (s : StripeNo) → All (Contains st.stripes) st.narrow → All (Contains (st.stripes ++ s ∷ [])) (with_code code s st.narrow)
coded-with st Wide s coded = All-filter (is_other s) (Contains (st.stripes ++ s ∷ [])) st.narrow
    (All-weaker (Contains st.stripes) (Contains (st.stripes ++ s ∷ [])) (Contains-append_left st.stripes (s ∷ [])) st.narrow coded)
coded-with st Narrow s coded = All-push (Contains (st.stripes ++ s ∷ [])) st.narrow s
    (All-weaker (Contains st.stripes) (Contains (st.stripes ++ s ∷ [])) (Contains-append_left st.stripes (s ∷ [])) st.narrow coded) (Contains-push st.stripes s)

-- two held seats that are apart in one state are apart in a state with the same code of the stripe
KeepApart-code : (nodes : List NodeInfo) (st st' : State) (h g : Held) → code_of st' h.stripe ≡ code_of st h.stripe → KeepApart nodes st h g → KeepApart nodes st' h g
KeepApart-code nodes st st' h g same apart stripe fragment =
    subst (λ (c : Code). IfSome (node_at nodes h.seat.node) (λ n. IfSome (node_at nodes g.seat.node) (λ m. AreApart c h.fragment n g.fragment m)))
    (sym same) (apart stripe fragment)

-- and so is a held seat of a fragment that the stripe's code has
IsWithin-code : (st st' : State) (h : Held) → code_of st' h.stripe ≡ code_of st h.stripe → IsWithin st h → IsWithin st' h
IsWithin-code st st' h same within = subst (λ (c : Code). IsTrue (has_fragment c h.fragment.value)) (sym same) within

module _ (nodes : List NodeInfo) (known : AreNodes nodes) (st : State) (s : StripeNo) where
  -- a new stripe, with no homes yet
  pub stripe-seated : (code : Code) → AreSeated nodes st → has_stripe st s ≡ false → AreSeated nodes (with_stripe st code s)
  stripe-seated code seated e =
      let same = λ (h : Held) (here : Contains st.stripes h.stripe). code-other st code s h.stripe (other-stripe st s e h.stripe here) in
      record {
        stripes = pairs-push (λ s t. s ≢ t) st.stripes s seated.stripes (All-members (λ t. t ≢ s) st.stripes (not_there st s e));
        single = seated.single;
        standing = seated.standing;
        lawful = pairs-carried (KeepApart nodes st) (KeepApart nodes (with_stripe st code s)) (λ h. Contains st.stripes h.stripe) (seats_of st)
            (λ h g here apart. KeepApart-code nodes st (with_stripe st code s) h g (same h here) apart) seated.there seated.lawful;
        one_home = seated.one_home;
        one_lease = seated.one_lease;
        coded = coded-with st code s seated.coded;
        there =
            All-weaker (λ h. Contains st.stripes h.stripe) (λ h. Contains (st.stripes ++ s ∷ []) h.stripe)
            (λ h here. Contains-append_left st.stripes (s ∷ []) h.stripe here) (seats_of st) seated.there;
        within =
            All-weaker (λ h. Contains st.stripes h.stripe × IsWithin st h) (IsWithin (with_stripe st code s))
            (λ h both. IsWithin-code st (with_stripe st code s) h (same h both.0) both.1) (seats_of st)
            (All-both (λ h. Contains st.stripes h.stripe) (IsWithin st) (seats_of st) seated.there seated.within);
        reachable = seated.reachable;
      }

  pub stripe-placing : (code : Code) → AreSeated nodes st → has_stripe st s ≡ false → IsPlacing nodes s (with_stripe st code s) (fragments code)
  stripe-placing code seated e = record {
    seated = stripe-seated code seated e;
    there = Contains-push st.stripes s;
    distinct = fragments-distinct code;
    own = subst (λ (c : Code). All (λ f. IsTrue (has_fragment c f.value)) (fragments code)) (sym (code-own st code s)) (fragments-own code);
    absent = All-members (HasNone s st.homes) (fragments code)
        (λ f here. All-weaker (λ h. Contains st.stripes h.stripe) (λ h. h.stripe ≡ s → h.fragment ≢ f)
        (λ h there stripe. absurd (not_there st s e h.stripe there stripe)) st.homes
        (homes-all (λ h. Contains st.stripes h.stripe) st seated.there));
  }

  -- all fragments of a new stripe placed
  pub placed-seated : (code : Code) (final : State) → AreSeated nodes st → has_stripe st s ≡ false
      → placed nodes (with_stripe st code s) s ≡ Ok final → AreSeated nodes final
  unfolding placed
  placed-seated code final seated e done =
      placing nodes known s (with_stripe st code s) (fragments code) final (stripe-placing code seated e)
      (ap (λ (c : Code). fold (place_next nodes s) (Ok (with_stripe st code s)) (fragments c)) (sym (code-own st code s)) ∙ done)

  answer-seated : (code : Code) (r : Result State Fragment) → AreSeated nodes st → has_stripe st s ≡ false
      → placed nodes (with_stripe st code s) s ≡ r → AreSeated nodes (place_answer st code r).1
  answer-seated code (Ok final) seated e done = placed-seated code final seated e done
  answer-seated code (Err f) seated e done = seated

  pub place-seated : (code : Code) → AreSeated nodes st → AreSeated nodes (place_outcome nodes st code s).1
  unfolding place_outcome
  place-seated code seated =
      either-way (AreSeated nodes) (has_stripe st s) refusal.StripeExists st (place_answer st code (placed nodes (with_stripe st code s) s)) seated
      (λ e. answer-seated code (placed nodes (with_stripe st code s) s) seated e refl)

  -- the stripe removed, with its homes and its leases
  pub without-seated : AreSeated nodes st → AreSeated nodes (without_stripe st s)
  without-seated seated =
      let p = λ (h : Held). is_other s h.stripe in
      let q = λ (l : LeaseRecord). is_other s l.stripe in
      let left = kept-seated nodes st p q seated in
      let others : All (λ (h : Held). is_other s h.stripe ≡ true) (seats_of (without_stripe st s)) =
      All-append (λ (h : Held). is_other s h.stripe ≡ true) (filter p st.homes) (map held_by (filter q st.leases))
      (All-members (λ (h : Held). is_other s h.stripe ≡ true) (filter p st.homes) (λ h here. (filter-member p st.homes h here).1))
      (All-map (λ (h : Held). is_other s h.stripe ≡ true) held_by (filter q st.leases)
      (All-members (λ (l : LeaseRecord). is_other s l.stripe ≡ true) (filter q st.leases) (λ l here. (filter-member q st.leases l here).1))) in
      let stays = λ (t : StripeNo) (here : Contains st.stripes t) (other : is_other s t ≡ true). member-filter (is_other s) st.stripes t here other in
      record {
        stripes = AllPairs-filter (λ s t. s ≢ t) (is_other s) st.stripes seated.stripes;
        single = left.single;
        standing = left.standing;
        lawful = pairs-carried (KeepApart nodes st) (KeepApart nodes (without_stripe st s)) (λ h. is_other s h.stripe ≡ true) (seats_of (without_stripe st s))
            (λ h g other apart. KeepApart-code nodes st (without_stripe st s) h g (code-left st s h.stripe (not-true _ other)) apart) others left.lawful;
        one_home = left.one_home;
        one_lease = left.one_lease;
        coded = All-members (Contains (filter (is_other s) st.stripes)) (filter (is_other s) st.narrow)
            (λ t here. let m = filter-member (is_other s) st.narrow t here in stays t (All-contains (Contains st.stripes) st.narrow t seated.coded m.0) m.1);
        within =
            All-weaker (λ h. (is_other s h.stripe ≡ true) × IsWithin st h) (IsWithin (without_stripe st s))
            (λ h both. IsWithin-code st (without_stripe st s) h (code-left st s h.stripe (not-true _ both.0)) both.1) (seats_of (without_stripe st s))
            (All-both (λ h. is_other s h.stripe ≡ true) (IsWithin st) (seats_of (without_stripe st s)) others left.within);
        there = All-append (λ h. Contains (filter (is_other s) st.stripes) h.stripe) (filter p st.homes) (map held_by (filter q st.leases))
            (All-members (λ h. Contains (filter (is_other s) st.stripes) h.stripe) (filter p st.homes)
            (λ h here. let m = filter-member p st.homes h here in
            stays h.stripe (All-contains (λ g. Contains st.stripes g.stripe) st.homes h
            (homes-all (λ g. Contains st.stripes g.stripe) st seated.there) m.0) m.1))
            (All-map (λ h. Contains (filter (is_other s) st.stripes) h.stripe) held_by (filter q st.leases)
            (All-members (λ l. Contains (filter (is_other s) st.stripes) l.stripe) (filter q st.leases)
            (λ l here. let m = filter-member q st.leases l here in
            stays l.stripe (All-contains (λ k. Contains st.stripes k.stripe) st.leases l
            (leases-all (λ g. Contains st.stripes g.stripe) st seated.there) m.0) m.1)));
        reachable = seated.reachable;
      }

-- a node that is not in the list of gone nodes is not gone
not_gone : (numbers draining : List NodeNo) (m : NodeNo) → has_number numbers m ≡ false
    → (if has_number numbers m then Gone else (if has_number draining m then Draining else Active)) ≢ Gone
not_gone numbers draining m miss gone = other (has_number draining m) (rw miss at gone) where
  other : (b : Bool) → (if b then Draining else Active) ≢ Gone
  other true e = cc
  other false e = cc

gone-number : (st : State) (m : NodeNo) → mode_of st m ≢ Gone → has_number st.gone m ≡ false
gone-number st m present = elim (cases_Bool (has_number st.gone m)) [ inl hit ↦ absurd (present (rw hit refl)) | inr miss ↦ miss ]

-- the same for the test of its mode
pub active-number : (st : State) (m : NodeNo) → is_gone (mode_of st m) ≡ false → has_number st.gone m ≡ false
active-number st m e = elim (cases_Bool (has_number st.gone m)) [ inl hit ↦ (let both : true ≡ false = rw hit at e in cc) | inr miss ↦ miss ]

standing-by : (nodes : List NodeInfo) (o : Option NodeInfo) (slot : ℕ) (P Q : Type 0) → IsSomeAnd o (λ n. (slot < n.slots) × P) → Q
    → IsSomeAnd o (λ n. (slot < n.slots) × Q)
standing-by nodes (Some n) slot P Q standing q = (standing.0, q)
standing-by nodes None slot P Q standing q = standing

present-by : (o : Option NodeInfo) (slot : ℕ) (P : Type 0) → IsSomeAnd o (λ n. (slot < n.slots) × P) → P
present-by (Some n) slot P standing = standing.1
present-by None slot P standing = absurd standing

-- the node of such a seat is not gone
pub standing-present : (nodes : List NodeInfo) (st : State) (seat : Seat) → IsStanding nodes st seat → mode_of st seat.node ≢ Gone
standing-present nodes st seat standing = present-by (node_at nodes seat.node) seat.slot (mode_of st seat.node ≢ Gone) standing

-- a number that is not in a list is not in the list without another
fewer-numbers : (numbers : List NodeNo) (n m : NodeNo) → has_number numbers m ≡ false → has_number (without_number numbers n) m ≡ false
fewer-numbers numbers n m miss =
    list_any-All (λ (k : NodeNo). eqb m.value k.value) (without_number numbers n)
    (All-filter (λ (k : NodeNo). not (eqb n.value k.value)) (λ k. eqb m.value k.value ≡ false) numbers
    (All-list_any (λ (k : NodeNo). eqb m.value k.value) numbers miss))

-- a change of modes keeps the seats in order, if afterwards neither a seat's node nor a node that is down is gone
modes-seated : (nodes : List NodeInfo) (st : State) (gone draining down : List NodeNo) (upgrading : Option UpgradeNo) → AreSeated nodes st
    → ((seat : Seat) → Contains (taken_seats st) seat → has_number gone seat.node ≡ false)
    → ((m : NodeNo) → Contains down m → has_number gone m ≡ false)
    → AreSeated nodes (record st { gone = gone; draining = draining; down = down; upgrading = upgrading })
modes-seated nodes st gone draining down upgrading seated present reachable =
    let st' = record st { gone = gone; draining = draining; down = down; upgrading = upgrading } in
    record {
      stripes = seated.stripes;
      single = seated.single;
      standing = All-members (IsStanding nodes st') (taken_seats st) (λ seat here.
          let standing = All-contains (IsStanding nodes st) (taken_seats st) seat seated.standing here in
          standing-by nodes (node_at nodes seat.node) seat.slot (mode_of st seat.node ≢ Gone) (mode_of st' seat.node ≢ Gone) standing
          (not_gone gone draining seat.node (present seat here)));
      lawful = seated.lawful;
      one_home = seated.one_home;
      one_lease = seated.one_lease;
      coded = seated.coded;
      there = seated.there;
      within = seated.within;
      reachable = All-members (λ m. mode_of st' m ≢ Gone) down (λ m here. not_gone gone draining m (reachable m here));
    }

module _ (nodes : List NodeInfo) (st : State) (n : NodeNo) where
  -- the node of a held seat is not gone
  pub seat-present : AreSeated nodes st → (seat : Seat) → Contains (taken_seats st) seat → has_number st.gone seat.node ≡ false
  seat-present seated seat here =
      gone-number st seat.node (standing-present nodes st seat (All-contains (IsStanding nodes st) (taken_seats st) seat seated.standing here))

  -- and neither is a node that is down
  pub down-present : AreSeated nodes st → (m : NodeNo) → Contains st.down m → has_number st.gone m ≡ false
  down-present seated m here = gone-number st m (All-contains (λ k. mode_of st k ≢ Gone) st.down m seated.reachable here)

  -- a number in a list without another is in the list, and differs from the other
  left-number : (numbers : List NodeNo) (m : NodeNo) → Contains (without_number numbers n) m → Contains numbers m × (eqb n.value m.value ≡ false)
  left-number numbers m here = let parts = filter-member (λ (k : NodeNo). not (eqb n.value k.value)) numbers m here in (parts.0, not-true _ parts.1)

  -- no held seat is left on the node
  pub emptied-apart : All (λ (seat : Seat). eqb n.value seat.node.value ≡ false) (taken_seats (emptied st n))
  emptied-apart =
      let p = λ (h : Held). not (stands_on n h) in
      let q = λ (l : LeaseRecord). not (hangs_on st n l) in
      All-map (λ (seat : Seat). eqb n.value seat.node.value ≡ false) (λ (h : Held). h.seat) (seats_of (emptied st n))
      (All-append (λ h. eqb n.value h.seat.node.value ≡ false) (filter p st.homes) (map held_by (filter q st.leases))
      (All-members (λ h. eqb n.value h.seat.node.value ≡ false) (filter p st.homes) (λ h here. not-true _ (filter-member p st.homes h here).1))
      (All-map (λ h. eqb n.value h.seat.node.value ≡ false) held_by (filter q st.leases)
      (All-members (λ l. eqb n.value l.target.node.value ≡ false) (filter q st.leases) (λ l here.
      let parts = or_parts (is_target_on n l) _ (not-true _ (filter-member q st.leases l here).1) in
      ne_eqb n.value l.target.node.value (λ e. eqb-false l.target.node.value n.value parts.0 (sym e))))))

  other-number : (m : NodeNo) → eqb n.value m.value ≡ false → has_number st.gone m ≡ false → has_number (st.gone ++ n ∷ []) m ≡ false
  other-number m apart miss =
      let other : eqb m.value n.value ≡ false = ne_eqb m.value n.value (λ e. eqb-false n.value m.value apart (sym e)) in
      rw (list_any-append (λ (k : NodeNo). eqb m.value k.value) st.gone (n ∷ []), miss, other) refl

  -- so its load is 0
  pub emptied-load : load (emptied st n) n ≡ 0
  emptied-load = none (taken_seats (emptied st n)) emptied-apart where
    none : (seats : List Seat) → All (λ (seat : Seat). eqb n.value seat.node.value ≡ false) seats → load_of seats n ≡ 0
    none [] apart = refl
    none (seat ∷ seats) apart =
        let away = ne_eqb seat.node.value n.value (λ e. eqb-false n.value seat.node.value
        (All-head (λ (seat : Seat). eqb n.value seat.node.value ≡ false) seat seats apart) (sym e)) in
        rw (sum_by-cons (λ (seat : Seat). cond (eqb seat.node.value n.value) 1 0) seat seats, away, zero-add)
        (none seats (All-tail (λ (seat : Seat). eqb n.value seat.node.value ≡ false) seat seats apart))

  -- if the load is 0, each seat is on another node
  load-apart : (seats : List Seat) → load_of seats n ≡ 0 → All (λ (seat : Seat). eqb n.value seat.node.value ≡ false) seats
  load-apart [] none = All-nil (λ (seat : Seat). eqb n.value seat.node.value ≡ false)
  load-apart (seat ∷ seats) none =
      let sum : cond (eqb seat.node.value n.value) 1 0 + load_of seats n ≡ 0 =
      sym (sum_by-cons (λ (seat : Seat). cond (eqb seat.node.value n.value) 1 0) seat seats) ∙ none in
      elim (cases_Bool (eqb seat.node.value n.value)) [
        | inl hit ↦ absurd (let one : 1 + load_of seats n ≡ 0 = rw hit at sum in omega (arith, one))
        | inr miss ↦
            let left : 0 + load_of seats n ≡ 0 = rw miss at sum in
            All-cons (λ (seat : Seat). eqb n.value seat.node.value ≡ false) seat seats
            (ne_eqb n.value seat.node.value (λ e. eqb-false seat.node.value n.value miss (sym e))) (load-apart seats (omega (arith, left)))
      ]

  -- removing the homes on a node keeps the seats in order
  pub emptied-seated : AreSeated nodes st → AreSeated nodes (emptied st n)
  emptied-seated seated = kept-seated nodes st (λ h. not (stands_on n h)) (λ l. not (hangs_on st n l)) seated

  -- a node without held seats is gone
  pub with_gone-seated : AreSeated nodes st → load st n ≡ 0 → AreSeated nodes (with_gone st n)
  with_gone-seated seated none =
      modes-seated nodes st (st.gone ++ n ∷ []) (without_number st.draining n) (without_number st.down n) st.upgrading seated
      (λ seat here. other-number seat.node (All-contains (λ (a : Seat). eqb n.value a.node.value ≡ false) (taken_seats st) seat
      (load-apart (taken_seats st) none) here) (seat-present seated seat here))
      (λ m here. let parts = left-number st.down m here in other-number m parts.1 (down-present seated m parts.0))

  -- a node that is not gone is down
  pub with_down-seated : AreSeated nodes st → is_gone (mode_of st n) ≡ false → AreSeated nodes (with_down st n)
  with_down-seated seated active =
      modes-seated nodes st st.gone st.draining (st.down ++ n ∷ []) st.upgrading seated (seat-present seated)
      (λ m here. elim (Contains-push_cases st.down n m here) [
        | inl old ↦ down-present seated m old
        | inr new ↦ subst (λ k. has_number st.gone k ≡ false) new (active-number st n active)
      ])

  -- a node is no longer down
  pub without_down-seated : AreSeated nodes st → AreSeated nodes (without_down st n)
  without_down-seated seated =
      modes-seated nodes st st.gone st.draining (without_number st.down n) st.upgrading seated (seat-present seated)
      (λ m here. down-present seated m (left-number st.down m here).0)

  -- a node is draining
  pub with_draining-seated : AreSeated nodes st → AreSeated nodes (with_draining st n)
  with_draining-seated seated = modes-seated nodes st st.gone (st.draining ++ n ∷ []) st.down st.upgrading seated (seat-present seated)
      (down-present seated)

  -- a node is no longer draining
  pub without_draining-seated : AreSeated nodes st → AreSeated nodes (without_draining st n)
  without_draining-seated seated = modes-seated nodes st st.gone (without_number st.draining n) st.down st.upgrading seated (seat-present seated)
      (down-present seated)

  -- a node is no longer gone
  pub without_gone-seated : AreSeated nodes st → AreSeated nodes (without_gone st n)
  without_gone-seated seated =
      modes-seated nodes st (without_number st.gone n) st.draining st.down st.upgrading seated
      (λ seat here. fewer-numbers st.gone n seat.node (seat-present seated seat here))
      (λ m here. fewer-numbers st.gone n m (down-present seated m here))

module _ (nodes : List NodeInfo) (st : State) where
  -- an upgrade domain is upgrading, or none is
  pub upgrading-seated : (upgrading : Option UpgradeNo) → AreSeated nodes st → AreSeated nodes (record st { upgrading = upgrading })
  upgrading-seated upgrading seated =
      modes-seated nodes st st.gone st.draining st.down upgrading seated
      (λ seat here. gone-number st seat.node (standing-present nodes st seat
      (All-contains (IsStanding nodes st) (taken_seats st) seat seated.standing here)))
      (λ m here. gone-number st m (All-contains (λ k. mode_of st k ≢ Gone) st.down m seated.reachable here))
