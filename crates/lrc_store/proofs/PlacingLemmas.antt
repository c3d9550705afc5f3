-- A home that is given, and a stripe's fragments placed one after the other.
use Rattle.std.proofs.Common.{[], ◌≡◌, inl, inr, lt-ltb, ℕ, ◌+◌, ◌<◌, ◌≤◌, true, false, nat_lt, List, ◌∷◌, ◌++◌, length, take, drop, get_or, Option, Some, sym, ap, ◌∙◌, subst, append_assoc, append-nil, arith}
use Rattle.std.specs.Option.{option_map_or}
use Rattle.std.specs.List.{All, Contains}
use Rattle.std.proofs.lemmas.List.{drop_more, take_more, take_all}
use Rattle.std.proofs.lemmas.List.Elements.{All-nil, All-push, Contains-append_left, Contains-push, Contains-push_cases}
use Rattle.lrc_code.specs.declared.codes.Code.{Code}
use Rattle.lrc_code.specs.declared.numbers.StripeNo.{StripeNo}
use Rattle.lrc_code.specs.declared.numbers.Fragment.{Fragment}
use Rattle.lrc_code.specs.Codes.{fragments}
use Rattle.lrc_topology.specs.declared.NodeInfo.{NodeInfo}
use Rattle.lrc_topology.specs.declared.seat.Seat.{Seat}
use Rattle.lrc_topology.specs.declared.seat.Held.{Held}
use Rattle.lrc_topology.specs.Nodes.{AreNodes, node_at}
use Rattle.lrc_slots.specs.Slots.{Slots, least_free_at}
use Rattle.lrc_slots.specs.Slots as slots
use Rattle.lrc_slots.specs.Tables as slot_tables
use Rattle.lrc_slots.specs.Tables.{slots_of}
use Rattle.lrc_stripes.specs.Stored.{Stored, has_slot}
use Rattle.lrc_stripes.specs.Stored as stored
use Rattle.lrc_stripes.specs.Tables as tables
use Rattle.lrc_stripes.specs.Tables.{stored_in}
use Rattle.lrc_rules.specs.States.{State, has_stripe, taken_seats}
use Rattle.lrc_rules.specs.Placement.{chosen, with_home}
use Rattle.lrc_rules.specs.Steps.{with_stripe, without_upgrading}
use Rattle.lrc_rules.specs.Goodness.{AreSeated}
use Rattle.lrc_rules.specs.Changes.{held_at, with_placed}
use Rattle.lrc_rules.specs.Choices.{AreChosen, IsChoice}
use Rattle.lrc_store.specs.declared.store.Store.{Store}
use Rattle.lrc_store.specs.Stores.{IsOf}
use Rattle.lrc_bars.specs.Ties.{kept_table}
use Rattle.lrc_rules.proofs.NodeLemmas.{node_at-member}
use Rattle.lrc_rules.proofs.ChoiceLemmas.{chosen-choice}
use Rattle.lrc_rules.proofs.SeatingLemmas.{IsPlacing, placing-some}
use Rattle.lrc_rules.proofs.SeatedLemmas.{stripe-placing}
use Rattle.lrc_rules.proofs.ToldLemmas.{ArePlaced}
use Rattle.lrc_store.proofs.ListLemmas.{held_at-more}
use Rattle.lrc_rules.proofs.TakenLemmas.{taken-cases, home-seat, target-seat}
use Rattle.lrc_bars.proofs.PlanLemmas.{chosen-first_free}
use Rattle.lrc_store.proofs.StoredLemmas.{stored-placed}
use Rattle.lrc_bars.proofs.SlotTableLemmas.{table-more}

-- ---- one home given

-- a seat that is chosen
module _ (st : State) (k : Store) (kept : IsOf st k) (s : StripeNo) (f : Fragment) (seat : Seat) (chosen_is : chosen k.topology st s f ≡ Some seat) where
  pub chosen-here : IsChoice k.topology st s f seat
  chosen-here = chosen-choice k.topology st s f seat kept.known chosen_is

-- the seats of a state with one more home
pub home-taken : (nodes : List NodeInfo) (st : State) (s : StripeNo) (f : Fragment) (seat : Seat) → slots.with_taken (kept_table nodes st) seat.node (Some seat.slot) ≡ kept_table nodes (with_home st s f seat)
home-taken nodes st s f seat =
    table-more nodes (without_upgrading st) seat (taken_seats next) (home-seat next own (Contains-push st.homes own))
    (λ b here. elim (taken-cases st b here) [
      | inl (h, at, e) ↦ subst (Contains (taken_seats next)) e (home-seat next h (Contains-append_left st.homes (own ∷ []) h at))
      | inr (l, at, e) ↦ subst (Contains (taken_seats next)) e (target-seat next l at)
    ])
    (λ b here. elim (taken-cases next b here) [
      | inr (l, at, e) ↦ inr (subst (Contains (taken_seats st)) e (target-seat st l at))
      | inl (h, at, e) ↦ elim (Contains-push_cases st.homes own h at) [
        | inl old ↦ inr (subst (Contains (taken_seats st)) e (home-seat st h old))
        | inr new ↦ inl (ap (λ (x : Held). x.seat) new ∙ e)
      ]
    ])
  where
    own : Held
    own = record { stripe = s; fragment = f; seat = seat }

    next : State
    next = with_home st s f seat

-- ---- one after the other

-- the state with the first so many fragments of a new stripe placed
abbrev pub placed_to : State → Code → StripeNo → List Seat → ℕ → State
placed_to st code s seats i = record (with_stripe st code s) { homes = st.homes ++ held_at s (take i (fragments code)) (take i seats) }

-- The slots of the first so many seats are taken, and the others are chosen for the fragments that are left.
pub record IsTakenTo (nodes : List NodeInfo) (st : State) (code : Code) (s : StripeNo) (seats : List Seat) (i : ℕ) (table : Slots) : Type 0 where
  pub table_is : table ≡ kept_table nodes (placed_to st code s seats i)
  pub chosen_are : AreChosen nodes (placed_to st code s seats i) s (drop i (fragments code)) (drop i seats)
  pub placing : IsPlacing nodes s (placed_to st code s seats i) (drop i (fragments code))
  pub slots : All (λ seat. has_slot nodes seat ≡ true) (take i seats)

module _ (nodes : List NodeInfo) (known : AreNodes nodes) (st : State) (code : Code) (s : StripeNo) (seats : List Seat) where
  -- at first the stripe has no homes
  pub taken-start : AreSeated nodes st → ArePlaced nodes st code s seats → (table : Slots) → table ≡ kept_table nodes st → IsTakenTo nodes st code s seats 0 table
  taken-start seated told table tied =
      let none : with_stripe st code s ≡ placed_to st code s seats 0 = ap (λ (hs : List Held). record (with_stripe st code s) { homes = hs }) (sym (append-nil st.homes)) in
      record {
        table_is = tied ∙ ap (kept_table nodes) none;
        chosen_are = subst (λ (x : State). AreChosen nodes x s (fragments code) seats) none told.chosen_are;
        placing = subst (λ (x : State). IsPlacing nodes s x (fragments code)) none (stripe-placing nodes known st s code seated told.absent);
        slots = All-nil (λ seat. has_slot nodes seat ≡ true);
      }

  module _ (i : ℕ) (d : Fragment) (e : Seat) (within : i < length (fragments code)) (there : i < length seats) (table : Slots) (p : IsTakenTo nodes st code s seats i table) where
    abbrev f : Fragment
    f = get_or (fragments code) i d

    abbrev seat : Seat
    seat = get_or seats i e

    abbrev now : State
    now = placed_to st code s seats i

    rest : AreChosen nodes now s (f ∷ drop (i + 1) (fragments code)) (seat ∷ drop (i + 1) seats)
    rest = subst (λ (fs : List Fragment). AreChosen nodes now s fs (seat ∷ drop (i + 1) seats)) (drop_more (fragments code) i d within)
        (subst (λ (xs : List Seat). AreChosen nodes now s (drop i (fragments code)) xs) (drop_more seats i e there) p.chosen_are)

    choice : IsChoice nodes now s f seat
    choice = chosen-choice nodes now s f seat known rest.0

    found : node_at nodes seat.node ≡ Some choice.node
    found = ap (node_at nodes) choice.on ∙ node_at-member nodes known choice.node choice.fitting.known

    -- the slot of the next seat is the least free one there
    pub taken-least : least_free_at table seat.node ≡ Some seat.slot
    taken-least = ap (λ (t : Slots). least_free_at t seat.node) p.table_is ∙ chosen-first_free nodes now s f seat known rest.0

    next-is : with_home now s f seat ≡ placed_to st code s seats (i + 1)
    next-is = ap (λ (hs : List Held). record (with_stripe st code s) { homes = hs })
        (append_assoc st.homes (held_at s (take i (fragments code)) (take i seats)) _ ∙ ap (λ (hs : List Held). st.homes ++ hs) (sym (held_at-more s (fragments code) seats i d e within there)))

    slot-there : has_slot nodes seat ≡ true
    slot-there =
        ap (λ (o : Option NodeInfo). option_map_or (λ (n : NodeInfo). nat_lt seat.slot n.slots) o false) found
        ∙ lt-ltb seat.slot choice.node.slots choice.free.within

    -- with its slot taken, it is one more
    pub taken-more : (next : Slots) → next ≡ slots.with_taken table seat.node (Some seat.slot) → IsTakenTo nodes st code s seats (i + 1) next
    taken-more next taken = record {
      table_is = taken ∙ ap (λ (t : Slots). slots.with_taken t seat.node (Some seat.slot)) p.table_is
          ∙ home-taken nodes now s f seat ∙ ap (kept_table nodes) next-is;
      chosen_are = subst (λ (x : State). AreChosen nodes x s (drop (i + 1) (fragments code)) (drop (i + 1) seats)) next-is rest.1;
      placing = subst (λ (x : State). IsPlacing nodes s x (drop (i + 1) (fragments code))) next-is
          (placing-some nodes known s now f (drop (i + 1) (fragments code)) seat
          (subst (IsPlacing nodes s now) (drop_more (fragments code) i d within) p.placing) rest.0);
      slots = subst (λ (xs : List Seat). All (λ x. has_slot nodes x ≡ true) xs) (sym (take_more seats i e there))
          (All-push (λ x. has_slot nodes x ≡ true) (take i seats) seat p.slots slot-there);
    }

-- at last all fragments are placed
pub placed-end : (st : State) (code : Code) (s : StripeNo) (seats : List Seat) (i : ℕ) → length (fragments code) ≤ i → length seats ≡ length (fragments code) → placed_to st code s seats i ≡ with_placed st code s seats
placed-end st code s seats i past all =
    ap (λ (fs : List Fragment). record (with_stripe st code s) { homes = st.homes ++ held_at s fs (take i seats) }) (take_all i (fragments code) past)
    ∙ ap (λ (xs : List Seat). record (with_stripe st code s) { homes = st.homes ++ held_at s (fragments code) xs }) (take_all i seats (omega (arith, past, all)))

-- With all slots taken, the stripe is added with its homes.
pub placed-kept : (st : State) (code : Code) (s : StripeNo) (seats : List Seat) (i : ℕ) (k : Store) (table : slot_tables.Table) (stripes : tables.Table) → length (fragments code) ≤ i
    → length seats ≡ length (fragments code) → IsOf st k → has_stripe st s ≡ false → IsTakenTo k.topology st code s seats i (slots_of table)
    → stored_in stripes ≡ stored.with_homes (stored_in k.stripes) code s seats
    → IsOf (with_placed st code s seats) (record k { table = table; stripes = stripes })
placed-kept st code s seats i k table stripes past sixteen kept absent p added =
    let all = placed-end st code s seats i past sixteen in record {
      known = kept.known;
      seated = subst (AreSeated k.topology) all p.placing.seated;
      table_is = p.table_is ∙ ap (kept_table k.topology) all;
      stripes_is = added ∙ ap (λ (x : Stored). stored.with_homes x code s seats) kept.stripes_is
          ∙ stored-placed k.topology st code s seats kept.seated absent sixteen;
      leases_is = kept.leases_is;
      apart = kept.apart;
      upgrading_is = kept.upgrading_is;
      domains_are = kept.domains_are;
      clock_is = kept.clock_is;
    }
