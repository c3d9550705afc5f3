-- A lease that is granted, and one that ends.
use Rattle.std.proofs.Common.{[], ◌≡◌, ◌≢◌, ℕ, is_some, IsSomeAnd, lt-ltb, ◌<◌, Bool, true, false, not, nat_lt, List, ◌∷◌, map, filter, find, Option, Some, None, IsTrue, refl, sym, ap, ◌∙◌, subst, inl, inr}
use Rattle.std.specs.List.{All, Contains}
use Rattle.std.specs.Option.{option_map_or}
use Rattle.std.proofs.lemmas.Bool.{cases_Bool, false_from_ne_true}
use Rattle.std.proofs.lemmas.List.Elements.{All-contains, Contains-append_left, Contains-push, Contains-push_cases}
use Rattle.lrc_code.specs.declared.numbers.StripeNo.{StripeNo}
use Rattle.lrc_code.specs.declared.numbers.NodeNo.{NodeNo}
use Rattle.lrc_code.specs.declared.numbers.Fragment.{Fragment}
use Rattle.lrc_code.specs.Codes.{has_fragment}
use Rattle.lrc_topology.specs.declared.NodeInfo.{NodeInfo}
use Rattle.lrc_topology.specs.declared.seat.Held.{Held}
use Rattle.lrc_topology.specs.Nodes.{node_at}
use Rattle.lrc_topology.specs.Seats.{is_taken}
use Rattle.lrc_slots.specs.Slots.{Slots, with_taken, with_free}
use Rattle.lrc_slots.specs.Tables.{slots_of}
use Rattle.lrc_nodes.specs.States.{infos_in}
use Rattle.lrc_stripes.specs.Stored.{Stored, has_slot, HasNoHome}
use Rattle.lrc_stripes.specs.Tables.{stored_in}
use Rattle.lrc_terms.specs.declared.lease.Lease.{Lease}
use Rattle.lrc_homes.specs.Domains.{AreDomainsKept}
use Rattle.lrc_terms.specs.Leased.{Leased, is_of, leased_of, leased_at}
use Rattle.std.proofs.lemmas.Nat.Bits.{bit_at-zero}
use Rattle.lrc_code.specs.Losses.{bits_set}
use Rattle.lrc_leases.specs.Tables.{leased_in}
use Rattle.lrc_terms.proofs.LeaseLemmas.{leased_of-less, leased_of-append}
use Rattle.lrc_store.specs.declared.store.Store.{Store}
use Rattle.lrc_rules.specs.States.{State, held_by, seats_of, taken_seats, lease_of}
use Rattle.lrc_rules.specs.Leases.{with_lease, without_lease, without_home, moved_in}
use Rattle.lrc_rules.specs.Goodness.{AreSeated, IsStanding}
use Rattle.lrc_bars.specs.Ties.{table_of, kept_table}
use Rattle.lrc_store.specs.Dropping.{unleased}
use Rattle.lrc_rules.specs.Steps.{without_upgrading}
use Rattle.lrc_store.specs.Stores.{IsOf, IsGrant, MayLease, targets_in}
use Rattle.lrc_store.proofs.NodeStateLemmas.{infos-kept}
use Rattle.lrc_store.proofs.TargetLemmas.{targets-without}
use Rattle.lrc_bars.proofs.ClosedLemmas.{settled-seated}
use Rattle.lrc_rules.proofs.MemberLemmas.{map-member, filter-member, member-filter}
use Rattle.lrc_rules.proofs.NodeLemmas.{member-taken, taken-member}
use Rattle.lrc_rules.proofs.PairLemmas.{pairs-across, pairs-right, pairs-members}
use Rattle.lrc_rules.proofs.SeatingLists.{pairs-unmap}
use Rattle.lrc_rules.proofs.SeatingLemmas.{MayStand, held-single, leased-seated, choice-stands}
use Rattle.lrc_rules.proofs.LeaseGoodLemmas.{ended-seated, moved-seated}
use Rattle.lrc_rules.proofs.TakenLemmas.{taken-cases, home-seat, target-seat, taken-same, member-map}
use Rattle.lrc_store.proofs.StoredLemmas.{stored-put, stored-free}
use Rattle.lrc_store.proofs.PlacingLemmas.{chosen-here}
use Rattle.lrc_bars.proofs.SlotTableLemmas.{table-more, table-less}
use Rattle.lrc_rules.proofs.LookUpLemmas.{lease-own, only-lease, stripe-there, there-lease}
use Rattle.lrc_slots.specs.Tables as slot_tables
use Rattle.lrc_stripes.specs.Stored as stored
use Rattle.lrc_stripes.specs.Tables as tables
use Rattle.lrc_terms.specs.Leased as leased

-- ---- the lease of a fragment

module _ (nodes : List NodeInfo) (st : State) (s : StripeNo) (f : Fragment) (l : Lease) (live : lease_of st s f ≡ Some l) (good : AreSeated nodes st) where
  abbrev pub stays : Lease → Bool
  stays k = not (is_of s f.value k)

  abbrev pub targets : List Held
  targets = map held_by st.leases

  left-other : (k : Lease) → stays k ≡ true → k ≢ l
  left-other k keeps same = (let both : true ≡ false = sym keeps ∙ ap stays same ∙ ap not (there-lease nodes st s f l live good).1 in cc)

  -- no home is on its target, and no other lease's target
  pub home-apart : (h : Held) → Contains st.homes h → h.seat ≢ l.target
  home-apart h here =
      All-contains (λ (y : Held). h.seat ≢ y.seat) targets (held_by l)
      (All-contains (λ (x : Held). All (λ (y : Held). x.seat ≢ y.seat) targets) st.homes h (pairs-across (λ (x y : Held). x.seat ≢ y.seat) st.homes targets (held-single nodes st good)) here)
      (map-member held_by st.leases l (there-lease nodes st s f l live good).0)

  pub target-apart : (k : Lease) → Contains st.leases k → stays k ≡ true → k.target ≢ l.target
  target-apart k here keeps =
      pairs-members (λ (x y : Lease). x.target ≢ y.target) (λ x y r same. r (sym same)) st.leases k l
      (pairs-unmap (λ (x y : Held). x.seat ≢ y.seat) held_by st.leases (pairs-right (λ (x y : Held). x.seat ≢ y.seat) st.homes targets (held-single nodes st good))) here (there-lease nodes st s f l live good).0 (left-other k keeps)

  abbrev pub ended : State
  ended = without_lease st s f

  -- its target given back
  pub end-table : with_free (table_of nodes st) l.target.node l.target.slot ≡ table_of nodes (without_lease st s f)
  end-table = table-less nodes st l.target (taken_seats ended)
      (λ b here other. elim (taken-cases st b here) [
        | inl (h, at, e) ↦ subst (Contains (taken_seats ended)) e (home-seat ended h at)
        | inr (k, at, e) ↦ elim (cases_Bool (is_of s f.value k)) [
          | inl hit ↦ absurd (other (sym e ∙ ap (λ (x : Lease). x.target) (only-lease nodes st s f l live good k at hit)))
          | inr miss ↦ subst (Contains (taken_seats ended)) e (target-seat ended k (member-filter stays st.leases k at (ap not miss)))
        ]
      ])
      (λ b here. elim (taken-cases ended b here) [
        | inl (h, at, e) ↦ (subst (Contains (taken_seats st)) e (home-seat st h at), λ same. home-apart h at (e ∙ same))
        | inr (k, at, e) ↦
            let m = filter-member stays st.leases k at in
            (subst (Contains (taken_seats st)) e (target-seat st k m.0), λ same. target-apart k m.0 m.1 (e ∙ same))
      ])

  abbrev pub own : Held
  own = record { stripe = s; fragment = f; seat = l.target }

  abbrev pub homeless : State
  homeless = without_home st s f

  abbrev pub settled : State
  settled = moved_in st s f l.target

  -- as a home its slot stays taken
  pub move-table : table_of nodes (without_home st s f) ≡ table_of nodes (moved_in st s f l.target)
  move-table = ap (λ (t : NodeNo → ℕ → Bool). record (table_of nodes st) { taken = t }) (taken-same (taken_seats homeless) (taken_seats settled)
      (λ b here. elim (taken-cases homeless b here) [
        | inl (h, at, e) ↦ subst (Contains (taken_seats settled)) e (home-seat settled h (Contains-append_left homeless.homes (own ∷ []) h at))
        | inr (k, at, e) ↦ subst (Contains (taken_seats settled)) e (elim (cases_Bool (is_of s f.value k)) [
          | inl hit ↦ subst (λ (x : Lease). Contains (taken_seats settled) x.target) (sym (only-lease nodes st s f l live good k at hit)) (home-seat settled own (Contains-push homeless.homes own))
          | inr miss ↦ target-seat settled k (member-filter stays st.leases k at (ap not miss))
        ])
      ])
      (λ b here. elim (taken-cases settled b here) [
        | inr (k, at, e) ↦ subst (Contains (taken_seats homeless)) e (target-seat homeless k (filter-member stays st.leases k at).0)
        | inl (h, at, e) ↦ subst (Contains (taken_seats homeless)) e (elim (Contains-push_cases homeless.homes own h at) [
          | inl old ↦ home-seat homeless h old
          | inr new ↦ subst (λ (x : Held). Contains (taken_seats homeless) x.seat) new (target-seat homeless l (there-lease nodes st s f l live good).0)
        ])
      ]))

  standing-slot : (o : Option NodeInfo) (P : Type 0) → IsSomeAnd o (λ n. (l.target.slot < n.slots) × P) → option_map_or (λ n. nat_lt l.target.slot n.slots) o false ≡ true
  standing-slot (Some n) P both = lt-ltb l.target.slot n.slots both.0
  standing-slot None P both = absurd both

  -- its target is a slot of a node
  pub target-slot : option_map_or (λ n. nat_lt l.target.slot n.slots) (node_at nodes l.target.node) false ≡ true
  target-slot = standing-slot (node_at nodes l.target.node) _ (All-contains (IsStanding nodes st) (taken_seats st) l.target good.standing (target-seat st l (there-lease nodes st s f l live good).0))

-- where there is no lease none is taken out
none-out : (ls : List Lease) (s : StripeNo) (f : ℕ) → find (is_of s f) ls ≡ None → filter (λ l. not (is_of s f l)) ls ≡ ls
none-out [] s f e = refl
none-out (l ∷ ls) s f e = elim (cases_Bool (is_of s f l)) [
  | inl hit ↦ absurd (let never : Some l ≡ None = rw hit at e in cc)
  | inr miss ↦ rw miss (ap (λ xs. l ∷ xs) (none-out ls s f (rw miss at e)))
]

module _ (st : State) (k : Store) (kept : IsOf st k) (s : StripeNo) (f : Fragment) where
  -- the lease that is kept is one of the state
  pub lease-kept : (leased_in k.leases).leases s f.value ≡ lease_of st s f
  lease-kept = ap (λ (t : Leased). t.leases s f.value) kept.leases_is

  -- the leases without it
  pub leases-out : (leases : List Lease) → leased_in leases ≡ leased.without_lease (leased_in k.leases) s f
      → leased_in leases ≡ leased_of (without_lease st s f).leases 0
  leases-out leases out =
      out ∙ ap (λ (t : Leased). leased.without_lease t s f) kept.leases_is ∙ sym (leased_of-less st.leases s f 0)

  -- its target's slot is taken
  pub end-taken : (l : Lease) → lease_of st s f ≡ Some l → (slots_of k.table).taken l.target.node l.target.slot ≡ true
  end-taken l live =
      ap (λ (t : Slots). t.taken l.target.node l.target.slot) kept.table_is
      ∙ member-taken (taken_seats st) l.target.node l.target.slot (target-seat st l (there-lease k.topology st s f l live kept.seated).0)

  -- with the lease out and its target given back, what is kept is that of the state without it
  pub end-kept : (l : Lease) → lease_of st s f ≡ Some l → (table : slot_tables.Table) (leases : List Lease) → slots_of table ≡ with_free (slots_of k.table) l.target.node l.target.slot
      → leased_in leases ≡ leased.without_lease (leased_in k.leases) s f → IsOf (without_lease st s f) (record k { table = table; leases = leases })
  end-kept l live table leases freed out = record {
    known = kept.known;
    seated = ended-seated k.topology st s f kept.seated;
    table_is = freed ∙ ap (λ (t : Slots). with_free t l.target.node l.target.slot) kept.table_is
        ∙ end-table k.topology (without_upgrading st) s f l live (settled-seated k.topology st kept.seated);
    stripes_is = kept.stripes_is;
    leases_is = leases-out leases out;
    apart = kept.apart;
    upgrading_is = kept.upgrading_is;
    domains_are = targets-without k.topology (leased_in k.leases) k.target_domains.items s f (leased_in leases) out kept.domains_are;
    clock_is = kept.clock_is;
  }

  -- a fragment without a lease has none to end
  pub end-none : lease_of st s f ≡ None → (leases : List Lease) → leased_in leases ≡ leased.without_lease (leased_in k.leases) s f
      → IsOf (without_lease st s f) (record k { leases = leases })
  end-none none leases out = record {
    known = kept.known;
    seated = ended-seated k.topology st s f kept.seated;
    table_is = kept.table_is ∙ ap (λ (ls : List Lease). kept_table k.topology (record st { leases = ls })) (sym (none-out st.leases s f.value none));
    stripes_is = kept.stripes_is;
    leases_is = leases-out leases out;
    apart = kept.apart;
    upgrading_is = kept.upgrading_is;
    domains_are = targets-without k.topology (leased_in k.leases) k.target_domains.items s f (leased_in leases) out kept.domains_are;
    clock_is = kept.clock_is;
  }

-- ---- what is kept when its target becomes the home

module _ (st : State) (k : Store) (kept : IsOf st k) (s : StripeNo) (f : Fragment) (l : Lease) (live : lease_of st s f ≡ Some l) where
  pub move-own : IsTrue (has_fragment ((stored_in k.stripes).code s) f.value)
  move-own = ap (λ (t : Stored). has_fragment (t.code s) f.value) kept.stripes_is ∙ lease-own k.topology st s f l live kept.seated

  pub move-slot : IsTrue (has_slot (infos_in (stored_in k.stripes).nodes) l.target)
  move-slot =
      ap (λ (t : Stored). has_slot (infos_in t.nodes) l.target) kept.stripes_is
      ∙ (ap (λ (ns : List NodeInfo). has_slot ns l.target) (infos-kept st k.topology) ∙ target-slot k.topology st s f l live kept.seated)

  pub move-unused : HasNoHome (stored_in k.stripes) l.target
  move-unused = subst (λ (t : Stored). HasNoHome t l.target) (sym kept.stripes_is)
      (stored-free k.topology st l.target (home-apart k.topology st s f l live kept.seated))

  -- the table is that without the former home
  pub move-kept : (table : slot_tables.Table) (stripes : tables.Table) (leases : List Lease)
      → slots_of table ≡ kept_table k.topology (without_home st s f) → stored_in stripes ≡ stored.with_home (stored_in k.stripes) s f (Some l.target)
      → leased_in leases ≡ leased.without_lease (leased_in k.leases) s f
      → IsOf (moved_in st s f l.target) (record k { table = table; stripes = stripes; leases = leases })
  move-kept table stripes leases freed set out = record {
    known = kept.known;
    seated = moved-seated k.topology st s f l live kept.seated;
    table_is = freed ∙ move-table k.topology (without_upgrading st) s f l live (settled-seated k.topology st kept.seated);
    stripes_is = set ∙ ap (λ (t : Stored). stored.with_home t s f (Some l.target)) kept.stripes_is ∙ stored-put k.topology st s f l.target;
    leases_is = leases-out st k kept s f leases out;
    apart = kept.apart;
    upgrading_is = kept.upgrading_is;
    domains_are = targets-without k.topology (leased_in k.leases) k.target_domains.items s f (leased_in leases) out kept.domains_are;
    clock_is = kept.clock_is;
  }

-- ---- what is kept when one is added

within-of : (slot : ℕ) (P : Type 0) (o : Option NodeInfo) → IsSomeAnd o (λ n. (slot < n.slots) × P) → IsSomeAnd o (λ n. slot < n.slots)
within-of slot P (Some n) both = both.0
within-of slot P None both = absurd both

module _ (st : State) (k : Store) (kept : IsOf st k) (l : Lease) (may : MayLease k.topology st l) where
  abbrev pub next : State
  next = with_lease st l

  -- its target is a slot of a node
  pub target-within : IsSomeAnd (node_at (slots_of k.table).nodes l.target.node) (λ n. l.target.slot < n.slots)
  target-within =
      subst (λ (t : Slots). IsSomeAnd (node_at t.nodes l.target.node) (λ n. l.target.slot < n.slots)) (sym kept.table_is)
      (within-of l.target.slot _ (node_at k.topology l.target.node) may.standing)

  -- and free
  pub target-free : (slots_of k.table).taken l.target.node l.target.slot ≡ false
  target-free =
      ap (λ (t : Slots). t.taken l.target.node l.target.slot) kept.table_is
      ∙ false_from_ne_true (is_taken (taken_seats st) l.target.node l.target.slot) (λ hit.
      let m = member-map (λ (h : Held). h.seat) (seats_of st) l.target (taken-member (taken_seats st) l.target.node l.target.slot hit) in
      All-contains (λ h. h.seat ≢ l.target) (seats_of st) m.0 may.others m.1 m.2)

  add-table : with_taken (kept_table k.topology st) l.target.node (Some l.target.slot) ≡ kept_table k.topology (with_lease st l)
  add-table = table-more k.topology (without_upgrading st) l.target (taken_seats next) (target-seat next l (Contains-push st.leases l))
      (λ b here. elim (taken-cases st b here) [
        | inl (h, at, e) ↦ subst (Contains (taken_seats next)) e (home-seat next h at)
        | inr (m, at, e) ↦ subst (Contains (taken_seats next)) e (target-seat next m (Contains-append_left st.leases (l ∷ []) m at))
      ])
      (λ b here. elim (taken-cases next b here) [
        | inl (h, at, e) ↦ inr (subst (Contains (taken_seats st)) e (home-seat st h at))
        | inr (m, at, e) ↦ elim (Contains-push_cases st.leases l m at) [
          | inl old ↦ inr (subst (Contains (taken_seats st)) e (target-seat st m old))
          | inr new ↦ inl (ap (λ (x : Lease). x.target) new ∙ e)
        ]
      ])

  may-stand : MayStand k.topology st (held_by l)
  may-stand = record {
    standing = may.standing;
    others = may.others;
    apart = may.apart;
    there = stripe-there st l.stripe may.there;
    within = may.own;
  }

  -- with the domains of its target stored, what is kept is that of the state with it
  pub add-kept : (table : slot_tables.Table) (leases : List Lease) (m : Store)
      → slots_of table ≡ with_taken (slots_of k.table) l.target.node (Some l.target.slot) → leased_in leases ≡ leased.with_lease (leased_in k.leases) l
      → (AreDomainsKept k.topology (targets_in (leased_in k.leases)) k.target_domains.items → AreDomainsKept k.topology (targets_in (leased.with_lease (leased_in k.leases) l)) m.target_domains.items)
      → IsOf (with_lease st l) (record k { table = table; leases = leases; target_domains = m.target_domains })
  add-kept table leases m taken added put = record {
    known = kept.known;
    seated = leased-seated k.topology st kept.seated l may-stand may.new;
    table_is = taken ∙ ap (λ (t : Slots). with_taken t l.target.node (Some l.target.slot)) kept.table_is ∙ add-table;
    stripes_is = kept.stripes_is;
    leases_is = added ∙ ap (λ (t : Leased). leased.with_lease t l) kept.leases_is ∙ sym (leased_of-append st.leases l 0 may.new);
    apart = kept.apart;
    upgrading_is = kept.upgrading_is;
    domains_are = subst (λ (t : Leased). AreDomainsKept k.topology (targets_in t) m.target_domains.items) (sym added) (put kept.domains_are);
    clock_is = kept.clock_is;
  }

-- a lease that is granted may be added
pub grant-may : (st : State) (k : Store) → IsOf st k → (l : Lease) → IsGrant k.topology st l → MayLease k.topology st l
grant-may st k kept l told =
    let may = choice-stands k.topology kept.known st l.stripe l.fragment l.target (chosen-here st k kept l.stripe l.fragment l.target told.chosen_is)
    (stripe-there st l.stripe told.there) told.own in
    record {
      there = told.there;
      own = told.own;
      new = told.new;
      standing = may.standing;
      others = may.others;
      apart = may.apart;
    }

-- ---- a stripe without leases

no-some : {X : Type 0} (o : Option X) → is_some o ≡ false → o ≡ None
no-some None e = refl
no-some (Some x) e = absurd (let never : true ≡ false = e in cc)

-- what the mask of a stripe's leased fragments leaves out has no lease
pub not-leased : (st : State) (k : Store) → IsOf st k → (s : StripeNo) (f : Fragment) → leased_at (leased_in k.leases) s f.value ≡ false → lease_of st s f ≡ None
not-leased st k kept s f out = sym (lease-kept st k kept s f) ∙ no-some ((leased_in k.leases).leases s f.value) out

-- so it has none to end
pub none-ended : (st : State) (s : StripeNo) (f : Fragment) → lease_of st s f ≡ None → without_lease st s f ≡ st
none-ended st s f none = ap (λ (ls : List Lease). record st { leases = ls }) (none-out st.leases s f.value none)

-- where the mask is empty, none of the fragments has a lease
pub none-leased : (st : State) (k : Store) → IsOf st k → (s : StripeNo) (leased : ℕ) → leased ≡ 0
    → ((f : ℕ) → bits_set leased f ≡ leased_at (leased_in k.leases) s f) → (f : Fragment) → lease_of st s f ≡ None
none-leased st k kept s leased none are f =
    not-leased st k kept s f (sym (are f.value) ∙ rw (none, bit_at-zero f.value) refl)

-- so none is to be ended
pub unleased-none : (st : State) (s : StripeNo) → ((f : Fragment) → lease_of st s f ≡ None) → (fs : List Fragment) → unleased st s fs ≡ st
unleased-none st s none [] = refl
unleased-none st s none (f ∷ fs) =
    ap (λ (now : State). unleased now s fs) (none-ended st s f (none f)) ∙ unleased-none st s none fs
