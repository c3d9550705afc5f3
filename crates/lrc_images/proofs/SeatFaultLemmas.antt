-- The first cause of a seat is the first of its faults, in words.
use Rattle.std.proofs.Common.{[], ◌≡◌, ◌≢◌, ◌↔◌, ◌≤◌, inl, inr, Bool, true, false, not, ◌&&◌, if◌then◌else◌, nat_lt, List, ◌∷◌, Option, Some, None, refl, sym, ap, ◌∙◌, subst}
use Rattle.std.specs.List.{Contains, list_any}
use Rattle.std.specs.Option.{option_map_or}
use Rattle.std.proofs.lemmas.Bool.{ltb-false, le-ltb, eqb-true, eqb-false, eq-eqb, ne_eqb, and_parts, and_from, or_cases, or_left, or_right, not_from_false}
use Rattle.lrc_code.specs.declared.codes.Code.{Code}
use Rattle.lrc_code.specs.declared.numbers.FaultNo.{FaultNo}
use Rattle.lrc_code.specs.declared.numbers.UpgradeNo.{UpgradeNo}
use Rattle.lrc_code.specs.declared.numbers.StripeNo.{StripeNo}
use Rattle.lrc_code.specs.declared.numbers.NodeNo.{NodeNo}
use Rattle.lrc_code.specs.declared.numbers.Fragment.{Fragment}
use Rattle.lrc_code.specs.Numbers.{same_stripe, same_fragment, same_fault, same_upgrade}
use Rattle.lrc_code.specs.Codes.{has_fragment, fragment_count, share_class}
use Rattle.lrc_code.proofs.NumbersLemmas.{equal_stripes, equal_fragments}
use Rattle.lrc_topology.specs.declared.NodeInfo.{NodeInfo}
use Rattle.lrc_topology.specs.declared.seat.Held.{Held}
use Rattle.lrc_topology.specs.Nodes.{node_at}
use Rattle.lrc_topology.specs.Seats.{is_taken}
use Rattle.lrc_terms.specs.declared.mode.Mode.TheVariants.{Active, Draining, Gone}
use Rattle.lrc_terms.specs.Modes.{is_gone}
use Rattle.lrc_rules.specs.States.{State, code_of, seats_of, taken_seats, mode_of, has_number}
use Rattle.lrc_rules.specs.Placement.{clashes, is_beside, bars}
use Rattle.lrc_rules.proofs.MemberLemmas.{member-list_any, list_any-member, map-member}
use Rattle.lrc_rules.proofs.TakenLemmas.{member-map}
use Rattle.lrc_rules.proofs.NodeLemmas.{taken-member, member-taken}
use Rattle.lrc_rules.proofs.NodeWordsLemmas.{gone-mode, mode-gone, gone-there, flips-true}
use Rattle.lrc_images.specs.declared.cause.Cause.{Cause}
use Rattle.lrc_images.specs.declared.cause.Cause.TheVariants as cause
use Rattle.lrc_images.specs.declared.image.NodeRow.{NodeRow}
use Rattle.lrc_images.specs.Images.{nodes_where}
use Rattle.lrc_images.specs.Causes.{slot_cause, seat_cause}
use Rattle.lrc_images.specs.Faults.{IsFirst, AreTooClose, IsCrowded, IsSeatFault, seat_causes}
use Rattle.lrc_images.proofs.PlaceLemmas.{same-answer, first-if, first-none}
use Rattle.lrc_images.proofs.RisingLemmas.{number-row, row-number}

any-some : (test : NodeInfo → Bool) (o : Option NodeInfo) → option_map_or test o false ≡ true → (m : NodeInfo) × (o ≡ Some m) × (test m ≡ true)
any-some test None hit = absurd (let never : false ≡ true = hit in cc)
any-some test (Some m) hit = (m, refl, hit)

some-any : (test : NodeInfo → Bool) (o : Option NodeInfo) (m : NodeInfo) → o ≡ Some m → test m ≡ true → option_map_or test o false ≡ true
some-any test o m is hit = ap (λ (p : Option NodeInfo). option_map_or test p false) is ∙ hit

close-clashes : (code : Code) (f : Fragment) (n : NodeInfo) (g : Fragment) (m : NodeInfo) → AreTooClose code f n g m → clashes code f n g m ≡ true
close-clashes code f n g m close =
    let faults = same_fault n.fault m.fault in
    let class = share_class code f g in
    let upgrades = same_upgrade n.upgrade m.upgrade in
    elim close [
      | inl same ↦ or_left faults (class && upgrades) (eq-eqb n.fault.value m.fault.value (ap (λ (d : FaultNo). d.value) same))
      | inr both ↦ or_right faults (class && upgrades) (and_from class upgrades both.0 (eq-eqb n.upgrade.value m.upgrade.value (ap (λ (d : UpgradeNo). d.value) both.1)))
    ]

clashes-close : (code : Code) (f : Fragment) (n : NodeInfo) (g : Fragment) (m : NodeInfo) → clashes code f n g m ≡ true → AreTooClose code f n g m
clashes-close code f n g m hit =
    let class = share_class code f g in
    let upgrades = same_upgrade n.upgrade m.upgrade in
    elim (or_cases (same_fault n.fault m.fault) (class && upgrades) hit) [
      | inl same ↦ inl (ap (λ v. record { value = v }) (eqb-true n.fault.value m.fault.value same))
      | inr both ↦ let parts = and_parts class upgrades both in inr (parts.0, ap (λ v. record { value = v }) (eqb-true n.upgrade.value m.upgrade.value parts.1))
    ]

module _ (nodes : List NodeInfo) (rows : List NodeRow) (code : Code) (held : List Held) (h : Held) (st : State)
    (gone_is : st.gone ≡ nodes_where (λ r. is_gone r.mode) rows) (code_is : code_of st h.stripe ≡ code) (held_is : seats_of st ≡ held) where
  abbrev fault : Cause → Type 0
  fault = IsSeatFault nodes rows code held h

  fragment-is : (not (has_fragment (code_of st h.stripe) h.fragment.value) ≡ true) ↔ fault cause.UnknownFragment
  fragment-is =
      let own = code_of st h.stripe in
      let f = h.fragment.value in
      subst (λ (k : Code). (not (has_fragment own f) ≡ true) ↔ (fragment_count k ≤ f)) code_is
      (λ hit. ltb-false f (fragment_count own) (flips-true (has_fragment own f) hit), λ few. not_from_false (has_fragment own f) (le-ltb f (fragment_count own) few))

  gone-is : (is_gone (mode_of st h.seat.node) ≡ true) ↔ fault cause.NodeGone
  gone-is = (
    λ hit.
        let there = gone-there (has_number st.gone h.seat.node) (has_number st.draining h.seat.node) (gone-mode (mode_of st h.seat.node) hit) in
        let row = number-row (λ (r : NodeRow). is_gone r.mode) rows h.seat.node (ap (λ (numbers : List NodeNo). has_number numbers h.seat.node) (sym gone_is) ∙ there) in
        (row.0, row.1, row.3, gone-mode row.0.mode row.2),
    λ p.
        let there = row-number (λ (r : NodeRow). is_gone r.mode) rows p.0 p.1 (mode-gone p.0.mode p.3) in
        let number : has_number st.gone h.seat.node ≡ true =
        ap (λ (numbers : List NodeNo). has_number numbers h.seat.node) gone_is
        ∙ ap (λ (n : NodeNo). has_number (nodes_where (λ r. is_gone r.mode) rows) n) (sym p.2)
        ∙ there in
        ap (λ (b : Bool). is_gone (if b then Gone else (if has_number st.draining h.seat.node then Draining else Active))) number,
  )

  taken-is : (is_taken (taken_seats st) h.seat.node h.seat.slot ≡ true) ↔ fault cause.SeatTaken
  taken-is =
      subst (λ (held : List Held). (is_taken (taken_seats st) h.seat.node h.seat.slot ≡ true) ↔ ((g : Held) × Contains held g × (g.seat ≡ h.seat))) held_is (
        λ hit. member-map (λ (g : Held). g.seat) (seats_of st) h.seat (taken-member (taken_seats st) h.seat.node h.seat.slot hit),
        λ p. member-taken (taken_seats st) h.seat.node h.seat.slot (subst (Contains (taken_seats st)) p.2 (map-member (λ (g : Held). g.seat) (seats_of st) p.0 p.1)),
      )

  module _ (n : NodeInfo) (found : node_at nodes h.seat.node ≡ Some n) where
    slot-is : (not (nat_lt h.seat.slot n.slots) ≡ true) ↔ fault cause.UnknownSlot
    slot-is = (
      λ hit. (n, found, ltb-false h.seat.slot n.slots (flips-true (nat_lt h.seat.slot n.slots) hit)),
      λ p.
          not_from_false (nat_lt h.seat.slot n.slots)
          (le-ltb h.seat.slot n.slots (subst (λ (m : NodeInfo). m.slots ≤ h.seat.slot) (same-answer p.0 n (sym p.1 ∙ found)) p.2)),
    )

    barred-crowded : list_any (bars nodes st h.stripe h.fragment n) (seats_of st) ≡ true → IsCrowded nodes (code_of st h.stripe) (seats_of st) h
    barred-crowded hit =
        let m = member-list_any (bars nodes st h.stripe h.fragment n) (seats_of st) hit in
        let clash = λ (x : NodeInfo). clashes (code_of st h.stripe) h.fragment n m.0.fragment x in
        let parts = and_parts (is_beside h.stripe h.fragment m.0) (option_map_or clash (node_at nodes m.0.seat.node) false) m.2 in
        let beside = and_parts (same_stripe m.0.stripe h.stripe) (not (same_fragment m.0.fragment h.fragment)) parts.0 in
        let near = any-some clash (node_at nodes m.0.seat.node) parts.1 in
        record {
          other = m.0;
          is_held = m.1;
          stripe = equal_stripes m.0.stripe h.stripe (eqb-true m.0.stripe.value h.stripe.value beside.0);
          fragment = λ same. eqb-false m.0.fragment.value h.fragment.value (flips-true (same_fragment m.0.fragment h.fragment) beside.1) (ap (λ (f : Fragment). f.value) same);
          node = n;
          node_is = found;
          near = near.0;
          near_is = near.1;
          close = clashes-close (code_of st h.stripe) h.fragment n m.0.fragment near.0 near.2;
        }

    crowded-barred : IsCrowded nodes (code_of st h.stripe) (seats_of st) h → list_any (bars nodes st h.stripe h.fragment n) (seats_of st) ≡ true
    crowded-barred crowd =
        let g = crowd.other in
        let clash = λ (x : NodeInfo). clashes (code_of st h.stripe) h.fragment n g.fragment x in
        let close = subst (λ (x : NodeInfo). AreTooClose (code_of st h.stripe) h.fragment x g.fragment crowd.near) (same-answer crowd.node n (sym crowd.node_is ∙ found)) crowd.close in
        list_any-member (bars nodes st h.stripe h.fragment n) (seats_of st) g crowd.is_held
        (and_from (is_beside h.stripe h.fragment g) (option_map_or clash (node_at nodes g.seat.node) false)
        (and_from (same_stripe g.stripe h.stripe) (not (same_fragment g.fragment h.fragment))
        (eq-eqb g.stripe.value h.stripe.value (ap (λ (s : StripeNo). s.value) crowd.stripe))
        (not_from_false (same_fragment g.fragment h.fragment) (ne_eqb g.fragment.value h.fragment.value (λ e. crowd.fragment (equal_fragments g.fragment h.fragment e)))))
        (some-any clash (node_at nodes g.seat.node) crowd.near crowd.near_is (close-clashes (code_of st h.stripe) h.fragment n g.fragment crowd.near close)))

    crowd-is : (list_any (bars nodes st h.stripe h.fragment n) (seats_of st) ≡ true) ↔ fault cause.NotLawful
    crowd-is =
        subst (λ (k : Code). (list_any (bars nodes st h.stripe h.fragment n) (seats_of st) ≡ true) ↔ IsCrowded nodes k held h) code_is
        (subst (λ (held : List Held). (list_any (bars nodes st h.stripe h.fragment n) (seats_of st) ≡ true) ↔ IsCrowded nodes (code_of st h.stripe) held h) held_is
        (barred-crowded, crowded-barred))

  slot-first : (o : Option NodeInfo) → node_at nodes h.seat.node ≡ o → (c : Cause)
      → (slot_cause nodes st h o ≡ Some c) ↔ IsFirst fault (cause.UnknownNode ∷ cause.UnknownSlot ∷ cause.NodeGone ∷ cause.SeatTaken ∷ cause.NotLawful ∷ []) c
  slot-first None found c = (
    λ is. inl (found, sym (same-answer cause.UnknownNode c is)),
    λ p. elim p [ inl here ↦ ap (λ (x : Cause). Some x) (sym here.1) | inr later ↦ absurd (later.0 found) ],
  )
  slot-first (Some n) found c =
      let known : node_at nodes h.seat.node ≢ None = λ none. (let never : ◌≡◌ {A = Option NodeInfo} (Some n) None = sym found ∙ none in cc) in
      let chain =
      first-if (not (nat_lt h.seat.slot n.slots)) cause.UnknownSlot c _ (fault cause.UnknownSlot) (IsFirst fault (cause.NodeGone ∷ cause.SeatTaken ∷ cause.NotLawful ∷ []) c) (slot-is n found)
      (λ _. first-if (is_gone (mode_of st h.seat.node)) cause.NodeGone c _ (fault cause.NodeGone) (IsFirst fault (cause.SeatTaken ∷ cause.NotLawful ∷ []) c) gone-is
      (λ _. first-if (is_taken (taken_seats st) h.seat.node h.seat.slot) cause.SeatTaken c _ (fault cause.SeatTaken) (IsFirst fault (cause.NotLawful ∷ []) c) taken-is
      (λ _. first-if (list_any (bars nodes st h.stripe h.fragment n) (seats_of st)) cause.NotLawful c None (fault cause.NotLawful) ⊥ (crowd-is n found)
      (λ _. first-none c)))) in (
        λ is. inr (known, chain.0 is),
        λ p. elim p [ inl here ↦ absurd (known here.0) | inr later ↦ chain.1 later.1 ],
      )

  pub seat-first : (c : Cause) → (seat_cause nodes st h ≡ Some c) ↔ IsFirst fault seat_causes c
  seat-first c =
      first-if (not (has_fragment (code_of st h.stripe) h.fragment.value)) cause.UnknownFragment c (slot_cause nodes st h (node_at nodes h.seat.node)) (fault cause.UnknownFragment)
      (IsFirst fault (cause.UnknownNode ∷ cause.UnknownSlot ∷ cause.NodeGone ∷ cause.SeatTaken ∷ cause.NotLawful ∷ []) c) fragment-is
      (λ _. slot-first (node_at nodes h.seat.node) refl c)
