-- A seat has no cause exactly if it may be held: the test and the words agree.
use Rattle.std.proofs.Common.{◌≡◌, ◌≢◌, ◌<◌, nat_lt, true, false, not, List, Option, Some, None, IfSome, IsSomeAnd, refl, sym, ◌∙◌, subst}
use Rattle.std.specs.List.{All, Contains, list_any}
use Rattle.std.proofs.lemmas.Bool.{ltb-true, lt-ltb, false_from_ne_true, not_from_true}
use Rattle.std.proofs.lemmas.List.Elements.{All-contains, All-weaker}
use Rattle.lrc_code.specs.Codes.{has_fragment}
use Rattle.lrc_topology.specs.declared.NodeInfo.{NodeInfo}
use Rattle.lrc_topology.specs.declared.seat.Held.{Held}
use Rattle.lrc_topology.specs.Nodes.{node_at}
use Rattle.lrc_topology.specs.Seats.{is_taken}
use Rattle.lrc_terms.specs.declared.mode.Mode.TheVariants.{Gone}
use Rattle.lrc_rules.specs.States.{State, code_of, seats_of, taken_seats, mode_of}
use Rattle.lrc_terms.specs.Modes.{is_gone}
use Rattle.lrc_rules.specs.Placement.{bars}
use Rattle.lrc_rules.specs.Choices.{AreApart, IsApartFrom}
use Rattle.lrc_rules.specs.Goodness.{IsStanding, KeepApart}
use Rattle.lrc_rules.proofs.MemberLemmas.{All-members, All-list_any, list_any-All, map-member}
use Rattle.lrc_rules.proofs.TakenLemmas.{member-map}
use Rattle.lrc_rules.proofs.NodeLemmas.{taken-member, member-taken}
use Rattle.lrc_rules.proofs.NodeWordsLemmas.{gone-mode, mode-gone, flips-false}
use Rattle.lrc_rules.proofs.ChoiceLemmas.{bars-apart, apart-bars}
use Rattle.lrc_rules.proofs.SeatingLemmas.{MayStand, KeepApart-turn}
use Rattle.lrc_images.specs.declared.cause.Cause.TheVariants as cause
use Rattle.lrc_images.specs.Causes.{slot_cause, seat_cause}
use Rattle.lrc_images.proofs.AnswerLemmas.{if-none, none-if}

module _ (nodes : List NodeInfo) (st : State) (h : Held) where
  -- the seat is a slot of a node that is not gone, it is free, and it is apart from the stripe's other seats
  abbrev IsFit : Type 0
  IsFit = IsStanding nodes st h.seat × All (λ g. g.seat ≢ h.seat) (seats_of st) × All (λ g. KeepApart nodes st g h) (seats_of st)

  taken-others : is_taken (taken_seats st) h.seat.node h.seat.slot ≡ false → All (λ g. g.seat ≢ h.seat) (seats_of st)
  taken-others free = All-members (λ g. g.seat ≢ h.seat) (seats_of st) (λ g here same.
      let there = subst (Contains (taken_seats st)) same (map-member (λ (g : Held). g.seat) (seats_of st) g here) in
      let hit = member-taken (taken_seats st) h.seat.node h.seat.slot there in
      (let both : true ≡ false = sym hit ∙ free in cc))

  others-taken : All (λ g. g.seat ≢ h.seat) (seats_of st) → is_taken (taken_seats st) h.seat.node h.seat.slot ≡ false
  others-taken others = false_from_ne_true (is_taken (taken_seats st) h.seat.node h.seat.slot) (λ hit.
      let m = member-map (λ (g : Held). g.seat) (seats_of st) h.seat (taken-member (taken_seats st) h.seat.node h.seat.slot hit) in
      All-contains (λ g. g.seat ≢ h.seat) (seats_of st) m.0 others m.1 m.2)

  module _ (n : NodeInfo) (found : node_at nodes h.seat.node ≡ Some n) where
    -- a held seat that does not rule out the node is apart from the seat
    apart-from : (g : Held) → IsApartFrom nodes st h.stripe h.fragment n g → KeepApart nodes st g h
    apart-from g apart =
        KeepApart-turn nodes st h g (λ stripe fragment.
        subst (λ (o : Option NodeInfo). IfSome o (λ n. IfSome (node_at nodes g.seat.node) (λ m. AreApart (code_of st h.stripe) h.fragment n g.fragment m))) (sym found)
        (apart (sym stripe) (λ same. fragment (sym same))))

    from-apart : (g : Held) → KeepApart nodes st g h → IsApartFrom nodes st h.stripe h.fragment n g
    from-apart g apart stripe fragment =
        subst (λ (o : Option NodeInfo). IfSome o (λ n. IfSome (node_at nodes g.seat.node) (λ m. AreApart (code_of st h.stripe) h.fragment n g.fragment m))) found
        (KeepApart-turn nodes st g h apart (sym stripe) (λ same. fragment (sym same)))

    barred-apart : list_any (bars nodes st h.stripe h.fragment n) (seats_of st) ≡ false → All (λ g. KeepApart nodes st g h) (seats_of st)
    barred-apart none =
        All-weaker (λ g. bars nodes st h.stripe h.fragment n g ≡ false) (λ g. KeepApart nodes st g h)
        (λ g miss. apart-from g (bars-apart nodes st h.stripe h.fragment n g miss)) (seats_of st)
        (All-list_any (bars nodes st h.stripe h.fragment n) (seats_of st) none)

    apart-barred : All (λ g. KeepApart nodes st g h) (seats_of st) → list_any (bars nodes st h.stripe h.fragment n) (seats_of st) ≡ false
    apart-barred all =
        list_any-All (bars nodes st h.stripe h.fragment n) (seats_of st)
        (All-weaker (λ g. KeepApart nodes st g h) (λ g. bars nodes st h.stripe h.fragment n g ≡ false)
        (λ g apart. apart-bars nodes st h.stripe h.fragment n g (from-apart g apart)) (seats_of st) all)

  slot-may : (o : Option NodeInfo) → node_at nodes h.seat.node ≡ o → slot_cause nodes st h o ≡ None → IsFit
  slot-may None found e = absurd (let never : Some cause.UnknownNode ≡ None = e in cc)
  slot-may (Some n) found e =
      let slot = if-none (not (nat_lt h.seat.slot n.slots)) cause.UnknownSlot _ e in
      let mode = if-none (is_gone (mode_of st h.seat.node)) cause.NodeGone _ slot.1 in
      let free = if-none (is_taken (taken_seats st) h.seat.node h.seat.slot) cause.SeatTaken _ mode.1 in
      let lawful = if-none (list_any (bars nodes st h.stripe h.fragment n) (seats_of st)) cause.NotLawful None free.1 in (
        subst (λ (o : Option NodeInfo). IsSomeAnd o (λ n. (h.seat.slot < n.slots) × (mode_of st h.seat.node ≢ Gone))) (sym found)
            (ltb-true h.seat.slot n.slots (flips-false (nat_lt h.seat.slot n.slots) slot.0), λ gone. (let both : true ≡ false = sym (mode-gone (mode_of st h.seat.node) gone) ∙ mode.0 in cc)),
        taken-others free.0,
        barred-apart n found lawful.0,
      )

  may-slot : (o : Option NodeInfo) → node_at nodes h.seat.node ≡ o → IsFit → slot_cause nodes st h o ≡ None
  may-slot None found fit =
      absurd (subst (λ (o : Option NodeInfo). IsSomeAnd o (λ n. (h.seat.slot < n.slots) × (mode_of st h.seat.node ≢ Gone))) found fit.0)
  may-slot (Some n) found fit =
      let standing = subst (λ (o : Option NodeInfo). IsSomeAnd o (λ n. (h.seat.slot < n.slots) × (mode_of st h.seat.node ≢ Gone))) found fit.0 in
      none-if (not (nat_lt h.seat.slot n.slots)) cause.UnknownSlot _ (not_from_true (nat_lt h.seat.slot n.slots) (lt-ltb h.seat.slot n.slots standing.0))
      (none-if (is_gone (mode_of st h.seat.node)) cause.NodeGone _
      (false_from_ne_true (is_gone (mode_of st h.seat.node)) (λ hit. standing.1 (gone-mode (mode_of st h.seat.node) hit)))
      (none-if (is_taken (taken_seats st) h.seat.node h.seat.slot) cause.SeatTaken _ (others-taken fit.1)
      (none-if (list_any (bars nodes st h.stripe h.fragment n) (seats_of st)) cause.NotLawful None (apart-barred n found fit.2) refl)))

  pub seat-may : seat_cause nodes st h ≡ None → Contains st.stripes h.stripe → MayStand nodes st h
  seat-may e there =
      let within = if-none (not (has_fragment (code_of st h.stripe) h.fragment.value)) cause.UnknownFragment _ e in
      let fit = slot-may (node_at nodes h.seat.node) refl within.1 in
      record {
        standing = fit.0;
        others = fit.1;
        apart = fit.2;
        there = there;
        within = flips-false (has_fragment (code_of st h.stripe) h.fragment.value) within.0;
      }

  pub may-seat : MayStand nodes st h → seat_cause nodes st h ≡ None
  may-seat may =
      none-if (not (has_fragment (code_of st h.stripe) h.fragment.value)) cause.UnknownFragment _
      (not_from_true (has_fragment (code_of st h.stripe) h.fragment.value) may.within)
      (may-slot (node_at nodes h.seat.node) refl (may.standing, may.others, may.apart))
