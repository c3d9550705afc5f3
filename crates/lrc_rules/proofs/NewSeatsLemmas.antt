-- A command takes new seats only on nodes that are active and online.
use Rattle.std.proofs.Common.{[], ◌+◌, ◌≡◌, ◌⊎◌, inl, inr, Bool, true, false, not, List, ◌∷◌, filter, Option, Some, None, refl, sym, ap, ◌∙◌, subst}
use Rattle.std.specs.List.{Contains}
use Rattle.std.specs.Option.{option_map_or}
use Rattle.std.proofs.lemmas.List.Elements.{Contains-append_cases}
use Rattle.lrc_code.specs.declared.codes.Code.{Code}
use Rattle.lrc_code.specs.declared.codes.Code.TheVariants.{Wide, Narrow}
use Rattle.lrc_code.specs.declared.numbers.StripeNo.{StripeNo}
use Rattle.lrc_code.specs.declared.numbers.NodeNo.{NodeNo}
use Rattle.lrc_code.specs.declared.numbers.SessionNo.{SessionNo}
use Rattle.lrc_code.specs.declared.numbers.Fragment.{Fragment}
use Rattle.lrc_code.specs.Codes.{fragments, all_fragments}
use Rattle.lrc_topology.specs.declared.NodeInfo.{NodeInfo}
use Rattle.lrc_topology.specs.declared.seat.Seat.{Seat}
use Rattle.lrc_topology.specs.declared.seat.Held.{Held}
use Rattle.lrc_topology.specs.Nodes.{AreNodes}
use Rattle.lrc_terms.specs.declared.lease.Lease.{Lease as LeaseRecord}
use Rattle.lrc_terms.specs.Leased.{is_of}
use Rattle.lrc_rules.specs.Leases.{ticked}
use Rattle.lrc_terms.specs.Leased.{ends_at}
use Rattle.lrc_rules.specs.declared.reply.Reply.TheVariants.{Idle, Ticked}
use Rattle.lrc_terms.specs.declared.mode.Mode.TheVariants.{Active}
use Rattle.lrc_rules.specs.declared.command.Command.{Command}
use Rattle.lrc_rules.specs.declared.command.Command.TheVariants.{Place, Place6, Drop, Lease, Next, Done, Abandon, Revoke, Fail, Tick}
use Rattle.lrc_rules.specs.declared.reply.Reply.{Reply}
use Rattle.lrc_rules.specs.declared.reply.Reply.TheVariants.{Placed, Placed6, Dropped, Granted, Ended, Changed}
use Rattle.lrc_rules.specs.declared.entry.Entry.{Entry}
use Rattle.lrc_rules.specs.States.{State, taken_seats, lease_of, mode_of, is_online, online_at, is_home_of}
use Rattle.lrc_rules.specs.Placement.{with_home}
use Rattle.lrc_rules.specs.Choices.{IsChoice, AreChosen}
use Rattle.lrc_rules.specs.Leases.{with_lease, without_lease, moved_in}
use Rattle.lrc_rules.specs.Steps.{with_stripe, is_other, without_stripe, stands_on, hangs_on, emptied, with_gone, step}
use Rattle.lrc_rules.specs.Changes.{held_at, with_placed, with_done, changed_by}
use Rattle.lrc_rules.proofs.MemberLemmas.{Contains-here, Contains-later, Contains-cases, not-Contains-nil, filter-member, find-member}
use Rattle.lrc_rules.proofs.NodeLemmas.{node_at-member}
use Rattle.lrc_rules.proofs.ChoiceLemmas.{chosen-choice}
use Rattle.lrc_rules.proofs.TakenLemmas.{taken-cases, home-seat, target-seat}
use Rattle.lrc_rules.proofs.ToldLemmas.{place-told}
use Rattle.lrc_rules.proofs.GrantingLemmas.{lease-told}
use Rattle.lrc_rules.proofs.MostUrgentLemmas.{granted-urgent, urgent-leased}
use Rattle.lrc_rules.proofs.StepLemmas.{step-changed}

-- the seat's node is active and online
abbrev pub MayCome : List NodeInfo → State → Seat → Type 0
MayCome nodes st seat = (mode_of st seat.node ≡ Active) × (online_at nodes st seat.node ≡ true)

-- ---- chosen seats

module _ (nodes : List NodeInfo) (known : AreNodes nodes) where
  choice-may : (st : State) (s : StripeNo) (f : Fragment) (seat : Seat) → IsChoice nodes st s f seat → MayCome nodes st seat
  choice-may st s f seat choice = (
    subst (λ (n : NodeNo). mode_of st n ≡ Active) (sym choice.on) choice.fitting.eligible.active,
    ap (online_at nodes st) choice.on
        ∙ (ap (λ (o : Option NodeInfo). option_map_or (is_online st) o false) (node_at-member nodes known choice.node choice.fitting.known)
        ∙ choice.fitting.eligible.online),
  )

  placed-may : (s : StripeNo) (fs : List Fragment) (seats : List Seat) (st : State) → AreChosen nodes st s fs seats → (seat : Seat) → Contains seats seat
      → MayCome nodes st seat
  placed-may s [] [] st are seat here = absurd (not-Contains-nil seat here)
  placed-may s [] (x ∷ xs) st are seat here = absurd are
  placed-may s (f ∷ fs) [] st are seat here = absurd are
  placed-may s (f ∷ fs) (x ∷ xs) st are seat here = elim (Contains-cases x seat xs here) [
    | inl same ↦ subst (MayCome nodes st) same (choice-may st s f x (chosen-choice nodes st s f x known are.0))
    | inr later ↦ placed-may s fs xs (with_home st s f x) are.1 seat later
  ]

held-seat : (s : StripeNo) (fs : List Fragment) (seats : List Seat) (h : Held) → Contains (held_at s fs seats) h → Contains seats h.seat
held-seat s [] seats h here = absurd (not-Contains-nil h here)
held-seat s (f ∷ fs) [] h here = absurd (not-Contains-nil h here)
held-seat s (f ∷ fs) (x ∷ xs) h here =
    elim (Contains-cases (record { stripe = s; fragment = f; seat = x }) h (held_at s fs xs) here) [
      | inl same ↦ subst (Contains (x ∷ xs)) (ap (λ (g : Held). g.seat) same) (Contains-here x xs)
      | inr later ↦ Contains-later x h.seat xs (held-seat s fs xs h later)
    ]

-- ---- the held seats after a command

module _ (nodes : List NodeInfo) (st : State) where
  -- the seat was held before, or its node is active and online
  abbrev Comes : Seat → Type 0
  Comes seat = Contains (taken_seats st) seat ⊎ MayCome nodes st seat

  -- given that each home and each target after it is such a seat
  each-comes : (next : State) → ((h : Held) → Contains next.homes h → Comes h.seat) → ((l : LeaseRecord) → Contains next.leases l → Comes l.target)
      → (seat : Seat) → Contains (taken_seats next) seat → Comes seat
  each-comes next home target seat here = elim (taken-cases next seat here) [
    | inl h ↦ subst Comes h.2 (home h.0 h.1)
    | inr l ↦ subst Comes l.2 (target l.0 l.1)
  ]

  old-home : (h : Held) → Contains st.homes h → Comes h.seat
  old-home h here = inl (home-seat st h here)

  old-target : (l : LeaseRecord) → Contains st.leases l → Comes l.target
  old-target l here = inl (target-seat st l here)

  left-home : (keep : Held → Bool) (h : Held) → Contains (filter keep st.homes) h → Comes h.seat
  left-home keep h here = old-home h (filter-member keep st.homes h here).0

  left-target : (keep : LeaseRecord → Bool) (l : LeaseRecord) → Contains (filter keep st.leases) l → Comes l.target
  left-target keep l here = old-target l (filter-member keep st.leases l here).0

  placed-comes : (code : Code) (s : StripeNo) (seats : List Seat) → ((seat : Seat) → Contains seats seat → MayCome nodes st seat)
      → (seat : Seat) → Contains (taken_seats (with_placed st code s seats)) seat → Comes seat
  placed-comes code s seats may =
      each-comes (with_placed st code s seats)
      (λ h here. elim (Contains-append_cases st.homes (held_at s (fragments code) seats) h here) [
        | inl old ↦ old-home h old
        | inr new ↦ inr (may h.seat (held-seat s (fragments code) seats h new))
      ])
      old-target

  leased-comes : (l : LeaseRecord) → MayCome nodes st l.target → (seat : Seat) → Contains (taken_seats (with_lease st l)) seat → Comes seat
  leased-comes l may =
      each-comes (with_lease st l) old-home
      (λ k here. elim (Contains-append_cases st.leases (l ∷ []) k here) [
        | inl old ↦ old-target k old
        | inr new ↦ elim (Contains-cases l k [] new) [
          | inl same ↦ subst (λ (x : LeaseRecord). Comes x.target) same (inr may)
          | inr none ↦ absurd (not-Contains-nil k none)
        ]
      ])

  done-comes : (s : StripeNo) (f : Fragment) (o : Option LeaseRecord) → lease_of st s f ≡ o → (seat : Seat)
      → Contains (taken_seats (with_done st s f o)) seat → Comes seat
  done-comes s f None is = λ seat here. inl here
  done-comes s f (Some l) is =
      let own : Contains st.leases l = (find-member (is_of s f.value) st.leases l is).0 in
      each-comes (moved_in st s f l.target)
      (λ h here. elim (Contains-append_cases (filter (λ (g : Held). not (is_home_of s f g)) st.homes)
      (record { stripe = s; fragment = f; seat = l.target } ∷ []) h here) [
        | inl old ↦ left-home (λ (g : Held). not (is_home_of s f g)) h old
        | inr new ↦ elim (Contains-cases (record { stripe = s; fragment = f; seat = l.target }) h [] new) [
          | inl same ↦ subst (λ (g : Held). Comes g.seat) same (old-target l own)
          | inr none ↦ absurd (not-Contains-nil h none)
        ]
      ])
      (left-target (λ (k : LeaseRecord). not (is_of s f.value k)))

  without-comes : (s : StripeNo) (f : Fragment) (seat : Seat) → Contains (taken_seats (without_lease st s f)) seat → Comes seat
  without-comes s f = each-comes (without_lease st s f) old-home (left-target (λ (k : LeaseRecord). not (is_of s f.value k)))

  dropped-comes : (s : StripeNo) (seat : Seat) → Contains (taken_seats (without_stripe st s)) seat → Comes seat
  dropped-comes s =
      each-comes (without_stripe st s) (left-home (λ (h : Held). is_other s h.stripe)) (left-target (λ (l : LeaseRecord). is_other s l.stripe))

  failed-comes : (n : NodeNo) (seat : Seat) → Contains (taken_seats (with_gone (emptied st n) n)) seat → Comes seat
  failed-comes n =
      each-comes (with_gone (emptied st n) n) (left-home (λ (h : Held). not (stands_on n h))) (left-target (λ (l : LeaseRecord). not (hangs_on st n l)))

  ticked-comes : (seat : Seat) → Contains (taken_seats (ticked st)) seat → Comes seat
  ticked-comes = each-comes (ticked st) old-home (left-target (λ (l : LeaseRecord). not (ends_at (st.clock + 1) l)))

-- ---- every command

module _ (nodes : List NodeInfo) (known : AreNodes nodes) (past : List Entry) (st : State) (session : SessionNo) where
  granted-may : (s : StripeNo) (f : Fragment) (l : LeaseRecord) (k : _) → (step nodes past st session (Lease s f)).0 ≡ Granted l k
      → MayCome nodes st l.target
  granted-may s f l k told =
      choice-may nodes known st s f l.target
      (chosen-choice nodes st s f l.target known (lease-told nodes past st session s f (Granted l k) told).1)

  next-may : (l : LeaseRecord) (k : _) → (step nodes past st session Next).0 ≡ Granted l k → MayCome nodes st l.target
  next-may l k told =
      granted-may l.stripe l.fragment l k
      (ap (λ (o : Reply × State). o.0) (sym (urgent-leased nodes past st session l.stripe l.fragment (granted-urgent nodes past st session l k told))) ∙ told)

  changed-comes : (c : Command) (r : Reply) → (step nodes past st session c).0 ≡ r → (seat : Seat) → Contains (taken_seats (changed_by st c r)) seat
      → Comes nodes st seat
  changed-comes (Place s) (Placed seats) told =
      placed-comes nodes st Wide s seats
      (placed-may nodes known s all_fragments seats (with_stripe st Wide s) (place-told nodes st Wide s seats told).chosen_are)
  changed-comes (Place6 s) (Placed6 seats) told =
      placed-comes nodes st Narrow s seats
      (placed-may nodes known s (fragments Narrow) seats (with_stripe st Narrow s) (place-told nodes st Narrow s seats told).chosen_are)
  changed-comes (Drop s) Dropped told = dropped-comes nodes st s
  changed-comes (Lease s f) (Granted l k) told = leased-comes nodes st l (granted-may s f l k told)
  changed-comes Next (Granted l k) told = leased-comes nodes st l (next-may l k told)
  changed-comes (Done s f e) Ended told = done-comes nodes st s f (lease_of st s f) refl
  changed-comes (Abandon s f e) Ended told = without-comes nodes st s f
  changed-comes (Revoke s f) Ended told = without-comes nodes st s f
  changed-comes (Fail n) Changed told = failed-comes nodes st n
  changed-comes Tick (Ticked clock ended) told = ticked-comes nodes st
  changed-comes _ Idle told = λ seat here. inl here
  changed-comes _ _ told = λ seat here. inl here

  pub step-comes : (c : Command) (seat : Seat) → Contains (taken_seats (step nodes past st session c).1) seat → Comes nodes st seat
  step-comes c seat here =
      changed-comes c (step nodes past st session c).0 refl seat
      (subst (λ (next : State). Contains (taken_seats next) seat) (step-changed nodes past st session c) here)
