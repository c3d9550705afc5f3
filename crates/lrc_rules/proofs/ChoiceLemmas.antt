-- The choice rule as a test and the choice rule in words agree.
use Rattle.std.proofs.Common.{◌≡◌, ℕ, ◌<◌, true, false, not, ◌&&◌, eqb, List, filter, Option, Some, None, is_some, option_map, option_and_then, IfSome, arith, refl, sym, ap, ◌∙◌, subst, inl, inr}
use Rattle.std.specs.List.{Contains, list_any}
use Rattle.std.specs.Option.{option_map_or}
use Rattle.std.proofs.lemmas.Bool.{cases_Bool, cases_eq, cases_order, eqb-true, eqb-false, eq-eqb, ne_eqb, and_parts, and_from, or_parts, or_from, not-true, not_from_false}
use Rattle.std.proofs.lemmas.Option.{same_Some, option_and_then_some}
use Rattle.std.specs.Coded.{le_prop}
use Rattle.std.proofs.lemmas.List.Elements.{All-contains, All-weaker}
use Rattle.lrc_code.specs.declared.codes.Code.{Code}
use Rattle.lrc_code.specs.declared.numbers.StripeNo.{StripeNo}
use Rattle.lrc_code.specs.declared.numbers.Fragment.{Fragment}
use Rattle.lrc_code.specs.declared.numbers.NodeNo.{NodeNo}
use Rattle.lrc_code.specs.declared.numbers.FaultNo.{FaultNo}
use Rattle.lrc_code.specs.declared.numbers.UpgradeNo.{UpgradeNo}
use Rattle.lrc_code.specs.Codes.{share_class}
use Rattle.lrc_code.proofs.NumbersLemmas.{equal_fragments}
use Rattle.lrc_topology.specs.declared.NodeInfo.{NodeInfo}
use Rattle.lrc_topology.specs.declared.seat.Seat.{Seat}
use Rattle.lrc_topology.specs.declared.seat.Held.{Held}
use Rattle.lrc_topology.specs.Nodes.{AreNodes, node_at}
use Rattle.lrc_topology.specs.Seats.{free_slot, free_seat, is_preferred, is_taken}
use Rattle.lrc_terms.specs.declared.mode.Mode.{Mode}
use Rattle.lrc_terms.specs.declared.mode.Mode.TheVariants.{Active, Draining, Gone}
use Rattle.lrc_terms.specs.Modes.{is_active}
use Rattle.lrc_rules.specs.States.{mode_of, is_online, takes_seats, State, code_of, seats_of, taken_seats, load, is_eligible}
use Rattle.lrc_rules.specs.Placement.{clashes, bars, fits, chosen, chosen_node}
use Rattle.lrc_rules.specs.Choices.{AreApart, IsApartFrom, IsFree, IsEligible, IsFitting, IsChoice}
use Rattle.lrc_rules.proofs.MemberLemmas.{filter-member, member-filter, All-list_any, list_any-All, not-Contains-nil}
use Rattle.lrc_code.proofs.OrderLemmas.{least-listed, least-none, least-none_before}
use Rattle.lrc_topology.proofs.SeatLemmas.{lighter-order, lighter-total, lighter-iff}
use Rattle.lrc_rules.proofs.NodeLemmas.{same_node, seat_on, taken-member, member-taken, first_slot-found, first_slot-none}

-- ---- two nodes

-- nodes that do not clash are apart, and apart nodes do not clash
pub apart-clashes : (code : Code) (f : Fragment) (n : NodeInfo) (g : Fragment) (m : NodeInfo) → clashes code f n g m ≡ false → AreApart code f n g m
apart-clashes code f n g m e =
    let parts = or_parts (eqb n.fault.value m.fault.value) (share_class code f g && eqb n.upgrade.value m.upgrade.value) e in
    record {
      faults = λ same. eqb-false n.fault.value m.fault.value parts.0 (ap (λ (d : FaultNo). d.value) same);
      upgrades = λ class same. (
          let hit : eqb n.upgrade.value m.upgrade.value ≡ false = rw class at parts.1 in
          eqb-false n.upgrade.value m.upgrade.value hit (ap (λ (d : UpgradeNo). d.value) same)
          );
    }

pub clashes-apart : (code : Code) (f : Fragment) (n : NodeInfo) (g : Fragment) (m : NodeInfo) → AreApart code f n g m → clashes code f n g m ≡ false
clashes-apart code f n g m apart =
    or_from (eqb n.fault.value m.fault.value) _ (ne_eqb n.fault.value m.fault.value (λ e. apart.faults (ap (λ (v : ℕ). record { value = v }) e)))
    (elim (cases_Bool (share_class code f g)) [
      | inl same ↦ rw same (ne_eqb n.upgrade.value m.upgrade.value (λ e. apart.upgrades same (ap (λ (v : ℕ). record { value = v }) e)))
      | inr other ↦ rw other refl
    ])

-- ---- a held seat that rules out a node, and one that does not

stripe_bound : (n : ℕ) → IsProp (n < 4096)
stripe_bound n = le_prop

-- a stripe is determined by its number
pub same_stripe : (s t : StripeNo) → s.value ≡ t.value → s ≡ t
same_stripe s t e =
    subst (λ n. (h : n < 4096) → s ≡ record { value = n; in_range = h }) e
    (λ h. ap (λ (g : s.value < 4096). record { value = s.value; in_range = g }) (stripe_bound s.value s.in_range h)) t.in_range

unclashed : (code : Code) (f g : Fragment) (n : NodeInfo) (o : Option NodeInfo) → option_map_or (λ m. clashes code f n g m) o false ≡ false
    → IfSome o (λ m. AreApart code f n g m)
unclashed code f g n None e = tt
unclashed code f g n (Some m) e = apart-clashes code f n g m e

clash-free : (code : Code) (f g : Fragment) (n : NodeInfo) (o : Option NodeInfo) → IfSome o (λ m. AreApart code f n g m)
    → option_map_or (λ m. clashes code f n g m) o false ≡ false
clash-free code f g n None apart = refl
clash-free code f g n (Some m) apart = clashes-apart code f n g m apart

module _ (nodes : List NodeInfo) (st : State) (s : StripeNo) (f : Fragment) (n : NodeInfo) where
  pub bars-apart : (h : Held) → bars nodes st s f n h ≡ false → IsApartFrom nodes st s f n h
  bars-apart h e stripe fragment =
      let here = eq-eqb h.stripe.value s.value (ap (λ (x : StripeNo). x.value) stripe) in
      let other = ne_eqb h.fragment.value f.value (λ same. fragment (equal_fragments h.fragment f same)) in
      unclashed (code_of st s) f h.fragment n (node_at nodes h.seat.node) (rw (here, other) at e)

  pub apart-bars : (h : Held) → IsApartFrom nodes st s f n h → bars nodes st s f n h ≡ false
  apart-bars h apart = elim (cases_Bool (eqb h.stripe.value s.value)) [
    | inr there ↦ rw there refl
    | inl here ↦ elim (cases_Bool (eqb h.fragment.value f.value)) [
      | inl same ↦ rw (here, same) refl
      | inr other ↦ rw (here, other) (clash-free (code_of st s) f h.fragment n (node_at nodes h.seat.node)
          (apart (same_stripe h.stripe s (eqb-true _ _ here)) (λ e. eqb-false _ _ other (ap (λ (x : Fragment). x.value) e))))
    ]
  ]

-- ---- a node that takes seats

pub active-mode : (m : Mode) → is_active m ≡ true → m ≡ Active
active-mode Active e = refl
active-mode Draining e = absurd (cc)
active-mode Gone e = absurd (cc)

pub mode-active : (m : Mode) → m ≡ Active → is_active m ≡ true
mode-active Active e = refl
mode-active Draining e = absurd (cc)
mode-active Gone e = absurd (cc)

free-from : (st : State) (n : NodeInfo) (k : ℕ) → k < n.slots → is_taken (taken_seats st) n.number k ≡ false → IsFree st n k
free-from st n k within e =
    record { within = within; free = λ h. (let hit = member-taken (taken_seats st) n.number k h in let both : true ≡ false = sym hit ∙ e in cc) }

room-found : (st : State) (n : NodeInfo) (o : Option ℕ) → free_slot (taken_seats st) n ≡ o → is_some o ≡ true → (slot : ℕ) × IsFree st n slot
room-found st n None e is = absurd (cc)
room-found st n (Some k) e is =
    let h = first_slot-found (is_taken (taken_seats st) n.number) 0 n.slots k e in (k, free-from st n k (omega (arith, h.1)) h.2)

pub eligible-words : (st : State) (n : NodeInfo) → is_eligible st n ≡ true → IsEligible st n
eligible-words st n e =
    let parts = and_parts (takes_seats st n) (is_some (free_slot (taken_seats st) n)) e in
    let takes = and_parts (is_active (mode_of st n.number)) (is_online st n) parts.0 in
    record { active = active-mode (mode_of st n.number) takes.0; online = takes.1; room = room-found st n (free_slot (taken_seats st) n) refl parts.1 }

all-taken : (st : State) (n : NodeInfo) (o : Option ℕ) → free_slot (taken_seats st) n ≡ o → (slot : ℕ) × IsFree st n slot → is_some o ≡ true
all-taken st n (Some k) e h = refl
all-taken st n None e h =
    let hit = first_slot-none (is_taken (taken_seats st) n.number) 0 n.slots e h.0 (omega arith) (omega (arith, h.1.within)) in
    absurd (h.1.free (taken-member (taken_seats st) n.number h.0 hit))

pub words-eligible : (st : State) (n : NodeInfo) → IsEligible st n → is_eligible st n ≡ true
words-eligible st n h =
    and_from (takes_seats st n) _ (and_from (is_active (mode_of st n.number)) _ (mode-active (mode_of st n.number) h.active) h.online)
    (all-taken st n (free_slot (taken_seats st) n) refl h.room)

-- ---- a node that the fragment may go to

module _ (nodes : List NodeInfo) (st : State) (s : StripeNo) (f : Fragment) (n : NodeInfo) where
  pub fits-words : Contains nodes n → fits nodes st s f n ≡ true → IsFitting nodes st s f n
  fits-words here e =
      let parts = and_parts (is_eligible st n) (not (list_any (bars nodes st s f n) (seats_of st))) e in
      record {
        known = here;
        eligible = eligible-words st n parts.0;
        lawful =
            All-weaker _ (IsApartFrom nodes st s f n) (bars-apart nodes st s f n) (seats_of st) (All-list_any (bars nodes st s f n) (seats_of st) (not-true _ parts.1));
      }

  pub words-fits : IsFitting nodes st s f n → fits nodes st s f n ≡ true
  words-fits h =
      and_from (is_eligible st n) _ (words-eligible st n h.eligible)
      (not_from_false _ (list_any-All (bars nodes st s f n) (seats_of st) (All-weaker (IsApartFrom nodes st s f n) (λ x. bars nodes st s f n x ≡ false) (apart-bars nodes st s f n) (seats_of st) h.lawful)))

-- ---- the choice

module _ (nodes : List NodeInfo) (st : State) (s : StripeNo) (f : Fragment) where
  pub node-fits : (n : NodeInfo) → chosen_node nodes st s f ≡ Some n → IsFitting nodes st s f n
  node-fits n e =
      let m = filter-member (fits nodes st s f) nodes n (least-listed (is_preferred (taken_seats st)) n (filter (fits nodes st s f) nodes) e) in
      fits-words nodes st s f n m.0 m.1

  not_before : (n m : NodeInfo) → chosen_node nodes st s f ≡ Some n → IsFitting nodes st s f m → is_preferred (taken_seats st) m n ≡ false
  not_before n m e fitting =
      All-contains (λ y. is_preferred (taken_seats st) y n ≡ false) (filter (fits nodes st s f) nodes) m
      (least-none_before (is_preferred (taken_seats st)) (lighter-order (λ (x : NodeInfo). load st x.number) (λ x. x.number)) n (filter (fits nodes st s f) nodes) e)
      (member-filter (fits nodes st s f) nodes m fitting.known (words-fits nodes st s f m fitting))

  none-fits : chosen_node nodes st s f ≡ None → (n : NodeInfo) → IsFitting nodes st s f n → ⊥
  none-fits e n fitting =
      not-Contains-nil n (subst (λ xs. Contains xs n) ((least-none (is_preferred (taken_seats st)) (filter (fits nodes st s f) nodes)).0 e)
      (member-filter (fits nodes st s f) nodes n fitting.known (words-fits nodes st s f n fitting)))

  on-slot : (seat : Seat) (n : NodeInfo) (o : Option ℕ) → AreNodes nodes → chosen_node nodes st s f ≡ Some n → free_slot (taken_seats st) n ≡ o
      → option_map (seat_on n.number) o ≡ Some seat → IsChoice nodes st s f seat
  on-slot seat n None known e found is = absurd (cc)
  on-slot seat n (Some k) known e found is =
      let h = first_slot-found (is_taken (taken_seats st) n.number) 0 n.slots k found in
      let fitting = node-fits n e in
      subst (IsChoice nodes st s f) (same_Some (seat_on n.number k) seat is) (record {
        node = n;
        fitting = fitting;
        first =
            λ m other apart. lighter-total (load st n.number) n.number (load st m.number) m.number (not_before n m e other) (λ same. apart (sym (same_node nodes known n m fitting.known other.known same)));
        on = refl;
        free = free-from st n k (omega (arith, h.1)) h.2;
        least = λ j below. taken-member (taken_seats st) n.number j (h.3 j (omega arith) below);
      })

  pub chosen-choice : (seat : Seat) → AreNodes nodes → chosen nodes st s f ≡ Some seat → IsChoice nodes st s f seat
  unfolding chosen
  chosen-choice seat known e =
      option_and_then_some (free_seat (taken_seats st)) (chosen_node nodes st s f) seat e (λ n here there. on-slot seat n (free_slot (taken_seats st) n) known here refl there)

  -- the node of a choice in words is the node that the rule finds
  same-choice : (seat : Seat) (choice : IsChoice nodes st s f seat) → AreNodes nodes → (n : NodeInfo) → chosen_node nodes st s f ≡ Some n
      → n ≡ choice.node
  same-choice seat choice known n e = elim (cases_eq n.number.value choice.node.number.value) [
    | inl same ↦ same_node nodes known n choice.node (node-fits n e).known choice.fitting.known same
    | inr other ↦
        let before = (lighter-iff (load st choice.node.number) choice.node.number (load st n.number) n.number).1 (choice.first n (node-fits n e) (λ same. other (ap (λ (x : NodeInfo). x.number.value) same))) in
        absurd (let behind = not_before n choice.node e choice.fitting in let both : true ≡ false = sym before ∙ behind in cc)
  ]

  least-slot : (seat : Seat) (choice : IsChoice nodes st s f seat) → (o : Option ℕ) → free_slot (taken_seats st) choice.node ≡ o → o ≡ Some seat.slot
  least-slot seat choice None found =
      let hit = first_slot-none (is_taken (taken_seats st) choice.node.number) 0 choice.node.slots found seat.slot (omega arith) (omega (arith, choice.free.within)) in
      absurd (choice.free.free (taken-member (taken_seats st) choice.node.number seat.slot hit))
  least-slot seat choice (Some k) found =
      let h = first_slot-found (is_taken (taken_seats st) choice.node.number) 0 choice.node.slots k found in
      ap Some (elim (cases_order k seat.slot) [
        | inl same ↦ same
        | inr (inl below) ↦ absurd (let hit = member-taken (taken_seats st) choice.node.number k (choice.least k below) in let both : true ≡ false = sym hit ∙ h.2 in cc)
        | inr (inr above) ↦ absurd (choice.free.free (taken-member (taken_seats st) choice.node.number seat.slot (h.3 seat.slot (omega arith) above)))
      ])

  -- the slot of a choice in words is the lowest free slot of its node
  pub choice-slot : (seat : Seat) (choice : IsChoice nodes st s f seat) → free_slot (taken_seats st) choice.node ≡ Some seat.slot
  choice-slot seat choice = least-slot seat choice (free_slot (taken_seats st) choice.node) refl

  found-choice : (seat : Seat) → IsChoice nodes st s f seat → AreNodes nodes → (o : Option NodeInfo) → chosen_node nodes st s f ≡ o
      → option_and_then (free_seat (taken_seats st)) o ≡ Some seat
  found-choice seat choice known None e = absurd (none-fits e choice.node choice.fitting)
  found-choice seat choice known (Some n) e =
      ap (free_seat (taken_seats st)) (same-choice seat choice known n e) ∙ ap (option_map (seat_on choice.node.number)) (choice-slot seat choice)
      ∙ ap (λ (n : NodeNo). Some (seat_on n seat.slot)) (sym choice.on)

  pub choice-chosen : (seat : Seat) → AreNodes nodes → IsChoice nodes st s f seat → chosen nodes st s f ≡ Some seat
  unfolding chosen
  choice-chosen seat known choice = found-choice seat choice known (chosen_node nodes st s f) refl

  no-slot : (n : NodeInfo) → IsEligible st n → (o : Option ℕ) → free_slot (taken_seats st) n ≡ o → option_map (seat_on n.number) o ≡ None → ⊥
  no-slot n eligible None found e = absurd (let is = all-taken st n None found eligible.room in cc)
  no-slot n eligible (Some k) found e = cc

  no-node : (o : Option NodeInfo) → chosen_node nodes st s f ≡ o → option_and_then (free_seat (taken_seats st)) o ≡ None → (n : NodeInfo)
      → IsFitting nodes st s f n → ⊥
  no-node None found e n fitting = none-fits found n fitting
  no-node (Some m) found e n fitting = no-slot m (node-fits m found).eligible (free_slot (taken_seats st) m) refl e

  pub none-fitting : chosen nodes st s f ≡ None → (n : NodeInfo) → IsFitting nodes st s f n → ⊥
  unfolding chosen
  none-fitting e = no-node (chosen_node nodes st s f) refl e

  none-found : ((n : NodeInfo) → IsFitting nodes st s f n → ⊥) → (o : Option NodeInfo) → chosen_node nodes st s f ≡ o
      → option_and_then (free_seat (taken_seats st)) o ≡ None
  none-found none None e = refl
  none-found none (Some n) e = absurd (none n (node-fits n e))

  pub none-chosen : ((n : NodeInfo) → IsFitting nodes st s f n → ⊥) → chosen nodes st s f ≡ None
  unfolding chosen
  none-chosen none = none-found none (chosen_node nodes st s f) refl
