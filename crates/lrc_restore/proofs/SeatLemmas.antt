-- A seat that a fragment may hold: its slot is free, and the store with it is that of the state with one more home.
use Rattle.std.proofs.Common.{◌≡◌, ◌≢◌, ◌<◌, Bool, true, false, nat_lt, List, map, Option, Some, None, option_map, IsSomeAnd, IsTrue, refl, sym, ap, ap₂, ◌∙◌, subst}
use Rattle.std.specs.Option.{option_map_or}
use Rattle.std.specs.List.{Contains, list_any}
use Rattle.std.proofs.lemmas.Bool.{lt-ltb}
use Rattle.std.proofs.lemmas.List.Elements.{All-contains, Contains-append_left}
use Rattle.lrc_code.specs.declared.numbers.StripeNo.{StripeNo}
use Rattle.lrc_code.specs.declared.numbers.Fragment.{Fragment}
use Rattle.lrc_topology.specs.declared.NodeInfo.{NodeInfo}
use Rattle.lrc_topology.specs.declared.seat.Seat.{Seat}
use Rattle.lrc_topology.specs.declared.seat.Held.{Held}
use Rattle.lrc_topology.specs.Nodes.{node_at}
use Rattle.lrc_topology.specs.Seats.{is_taken}
use Rattle.lrc_terms.specs.Levels.{home_of, homes_of}
use Rattle.lrc_terms.specs.Modes.{is_gone}
use Rattle.lrc_terms.specs.declared.mode.Mode.TheVariants.{Gone}
use Rattle.lrc_slots.specs.Slots.{Slots, with_taken}
use Rattle.lrc_slots.specs.Tables as slot_tables
use Rattle.lrc_slots.specs.Tables.{slots_of}
use Rattle.lrc_nodes.specs.States.{infos_in}
use Rattle.lrc_stripes.specs.Stored as stored
use Rattle.lrc_stripes.specs.Stored.{Stored, has_slot, HasNoHome}
use Rattle.lrc_stripes.specs.Tables as tables
use Rattle.lrc_stripes.specs.Tables.{stored_in}
use Rattle.lrc_rules.specs.States.{State, held_by, mode_of, seats_of, taken_seats}
use Rattle.lrc_rules.specs.Placement.{bars, with_home}
use Rattle.lrc_rules.proofs.MemberLemmas.{All-members}
use Rattle.lrc_rules.proofs.LookUpLemmas.{stripe-there}
use Rattle.lrc_rules.proofs.StateLemmas.{held_on, none-home}
use Rattle.lrc_rules.proofs.SeatingLemmas.{MayStand, HasNone, inserted-seated}
use Rattle.lrc_images.specs.declared.cause.Cause.TheVariants as cause
use Rattle.lrc_images.specs.Causes.{cause_if, slot_cause, seat_cause}
use Rattle.lrc_images.proofs.SeatCauseLemmas.{seat-may}
use Rattle.lrc_store.specs.declared.store.Store.{Store}
use Rattle.lrc_store.specs.Stores.{IsOf}
use Rattle.lrc_store.proofs.NodeStateLemmas.{infos-kept}
use Rattle.lrc_store.proofs.PlacingLemmas.{home-taken}
use Rattle.lrc_store.proofs.StoredLemmas.{stored-home, stored-free}

-- ---- the cause of a slot

-- a slot of a node that is not gone
module _ (k : Store) (st : State) (kept : IsOf st k) (h : Held) (n : NodeInfo) (within : h.seat.slot < n.slots)
    (present : is_gone (mode_of st h.seat.node) ≡ false) where
  -- the table says whether it is taken
  taken-in : (b : Bool) → (slots_of k.table).taken h.seat.node h.seat.slot ≡ b → is_taken (taken_seats st) h.seat.node h.seat.slot ≡ b
  taken-in b e = ap (λ (t : Slots). t.taken h.seat.node h.seat.slot) (sym kept.table_is) ∙ e

  -- it is taken
  pub taken-cause : (slots_of k.table).taken h.seat.node h.seat.slot ≡ true → Some cause.SeatTaken ≡ slot_cause k.topology st h (Some n)
  taken-cause hit = rw (lt-ltb h.seat.slot n.slots within, present, taken-in true hit) refl

  -- it is free, and other seats of the stripe rule its node out, or none does
  pub free-cause : (slots_of k.table).taken h.seat.node h.seat.slot ≡ false → (b : Bool)
      → b ≡ list_any (bars k.topology st h.stripe h.fragment n) (seats_of st) → cause_if b cause.NotLawful None ≡ slot_cause k.topology st h (Some n)
  free-cause miss b barred = rw (lt-ltb h.seat.slot n.slots within, present, taken-in false miss, barred) refl

-- ---- one more home

-- a seat that may be held is a slot of its node
slot-in : (st : State) (seat : Seat) (o : Option NodeInfo) → IsSomeAnd o (λ n. (seat.slot < n.slots) × (mode_of st seat.node ≢ Gone))
    → option_map_or (λ n. nat_lt seat.slot n.slots) o false ≡ true
slot-in st seat None standing = absurd standing
slot-in st seat (Some n) standing = lt-ltb seat.slot n.slots standing.0

-- if no seat is found, no home is
none-of : (o : Option Held) → option_map (λ h. h.seat) o ≡ None → o ≡ None
none-of None is = refl
none-of (Some h) is = absurd (cc)

module _ (st : State) (k : Store) (kept : IsOf st k) (s : StripeNo) (f : Fragment) (seat : Seat)
    (none : seat_cause k.topology st (held_on s f seat) ≡ None) (there : IsTrue ((stored_in k.stripes).stripes s))
    (homeless : (stored_in k.stripes).homes s f.value ≡ None) where
  -- the fragment may hold the seat
  may : MayStand k.topology st (held_on s f seat)
  may = seat-may k.topology st (held_on s f seat) none (stripe-there st s (sym (ap (λ (t : Stored). t.stripes s) kept.stripes_is) ∙ there))

  -- it has no home
  bare : homes_of st.homes s f.value ≡ None
  bare = sym (ap (λ (t : Stored). t.homes s f.value) kept.stripes_is) ∙ homeless

  bare-list : HasNone s st.homes f
  bare-list = All-members (λ h. h.stripe ≡ s → h.fragment ≢ f) st.homes (λ h here stripe fragment.
      none-home st.homes s f bare h.seat
      (subst (Contains st.homes) (ap₂ (λ (r : StripeNo) (g : Fragment). held_on r g h.seat) stripe fragment) here))

  -- the seat is a slot of a node
  pub home-slot : IsTrue (has_slot (infos_in (stored_in k.stripes).nodes) seat)
  home-slot =
      ap (λ (t : Stored). has_slot (infos_in t.nodes) seat) kept.stripes_is
      ∙ (ap (λ (ns : List NodeInfo). has_slot ns seat) (infos-kept st k.topology) ∙ slot-in st seat (node_at k.topology seat.node) may.standing)

  -- and no other fragment's home
  pub home-unused : HasNoHome (stored_in k.stripes) seat
  home-unused = subst (λ (t : Stored). HasNoHome t seat) (sym kept.stripes_is)
      (stored-free k.topology st seat
      (λ h here. All-contains (λ (h : Held). h.seat ≢ seat) (seats_of st) h may.others (Contains-append_left st.homes (map held_by st.leases) h here)))

  -- with the slot taken and the home set, what is kept is that of the state with the home
  pub home-kept : (table : slot_tables.Table) (stripes : tables.Table) → slots_of table ≡ with_taken (slots_of k.table) seat.node (Some seat.slot)
      → stored_in stripes ≡ stored.with_home (stored_in k.stripes) s f (Some seat) → IsOf (with_home st s f seat) (record k { table = table; stripes = stripes })
  home-kept table stripes taken set = record {
    known = kept.known;
    seated = inserted-seated k.topology st kept.seated (held_on s f seat) may bare-list;
    apart = kept.apart;
    table_is = taken ∙ ap (λ (t : Slots). with_taken t seat.node (Some seat.slot)) kept.table_is ∙ home-taken k.topology st s f seat;
    stripes_is = set ∙ ap (λ (t : Stored). stored.with_home t s f (Some seat)) kept.stripes_is
        ∙ stored-home k.topology st s f seat (none-of (home_of st.homes s f.value) bare);
    leases_is = kept.leases_is;
    upgrading_is = kept.upgrading_is;
    domains_are = kept.domains_are;
    clock_is = kept.clock_is;
  }
