-- A node keeps its load if a command neither gives nor takes a seat on it.
use Rattle.std.proofs.Common.{[], ◌≡◌, ap₂, ℕ, ◌+◌, cond, Bool, true, false, not, ◌&&◌, eqb, List, ◌∷◌, ◌++◌, map, filter, Option, Some, None, refl, sym, ap, ◌∙◌, subst, inl, inr, zero-add, arith}
use Rattle.std.proofs.lemmas.List.{map-append}
use Rattle.std.specs.List.{list_any}
use Rattle.std.proofs.lemmas.Bool.{cases_Bool, or_parts}
use Rattle.std.proofs.lemmas.List.Sums.{sum_by-append, sum_by-cons}
use Rattle.lrc_code.specs.declared.codes.Code.{Code}
use Rattle.lrc_code.specs.declared.codes.Code.TheVariants.{Wide, Narrow}
use Rattle.lrc_code.specs.declared.numbers.StripeNo.{StripeNo}
use Rattle.lrc_code.specs.declared.numbers.NodeNo.{NodeNo}
use Rattle.lrc_code.specs.declared.numbers.SessionNo.{SessionNo}
use Rattle.lrc_code.specs.declared.numbers.Fragment.{Fragment}
use Rattle.lrc_code.specs.Codes.{fragments}
use Rattle.lrc_code.specs.Numbers.{same_stripe, same_node}
use Rattle.lrc_topology.specs.declared.NodeInfo.{NodeInfo}
use Rattle.lrc_topology.specs.declared.seat.Seat.{Seat}
use Rattle.lrc_topology.specs.declared.seat.Held.{Held}
use Rattle.lrc_topology.specs.Seats.{load_of}
use Rattle.lrc_terms.specs.declared.lease.Lease.{Lease as LeaseRecord}
use Rattle.lrc_terms.specs.Leased.{is_of, is_target_on}
use Rattle.lrc_rules.specs.Leases.{ticked}
use Rattle.lrc_terms.specs.Leased.{ends_at}
use Rattle.lrc_rules.specs.declared.reply.Reply.TheVariants.{Idle, Ticked}
use Rattle.lrc_rules.specs.declared.command.Command.{Command}
use Rattle.lrc_rules.specs.declared.command.Command.TheVariants.{Place, Place6, Drop, Lease, Next, Done, Abandon, Revoke, Fail, Tick}
use Rattle.lrc_rules.specs.declared.reply.Reply.{Reply}
use Rattle.lrc_rules.specs.declared.reply.Reply.TheVariants.{Placed, Placed6, Dropped, Granted, Ended, Changed}
use Rattle.lrc_rules.specs.declared.entry.Entry.{Entry}
use Rattle.lrc_rules.specs.States.{State, is_home_of, load, lease_of}
use Rattle.lrc_rules.specs.Steps.{step, stands_on, hangs_on, without_stripe, with_gone, emptied}
use Rattle.lrc_rules.specs.Leases.{with_lease, without_lease}
use Rattle.lrc_rules.specs.Changes.{held_at, with_placed, with_done, changed_by}
use Rattle.lrc_rules.specs.Touching.{has_home_there, has_target_there, can_change_load}
use Rattle.lrc_rules.proofs.MemberLemmas.{find-member, list_any-member}
use Rattle.lrc_rules.proofs.StepLemmas.{step-changed}
use Rattle.lrc_rules.proofs.TakenLemmas.{load-parts}

-- the number of seats, 0 or 1, that a seat adds to the load of a node
abbrev counts : NodeNo → Seat → ℕ
counts n seat = cond (eqb seat.node.value n.value) 1 0

-- one more seat on another node
load-other : (n : NodeNo) (seat : Seat) (seats : List Seat) → same_node seat.node n ≡ false → load_of (seat ∷ seats) n ≡ load_of seats n
load-other n seat seats other = sum_by-cons (counts n) seat seats ∙ (ap (λ (b : Bool). cond b 1 0 + load_of seats n) other ∙ zero-add (load_of seats n))

module _ {X : Type 0} (seat : X → Seat) (n : NodeNo) where
  -- removing seats, none of which is on the node
  load-unless : (bad : X → Bool) (xs : List X) → list_any (λ x. bad x && same_node (seat x).node n) xs ≡ false
      → load_of (map seat (filter (λ x. not (bad x)) xs)) n ≡ load_of (map seat xs) n
  load-unless bad [] none = refl
  load-unless bad (x ∷ xs) none =
      let parts = or_parts (bad x && same_node (seat x).node n) (list_any (λ x. bad x && same_node (seat x).node n) xs) none in
      let rest = load-unless bad xs parts.1 in
      elim (cases_Bool (bad x)) [
        | inr stays ↦ rw stays (
            sum_by-cons (counts n) (seat x) (map seat (filter (λ x. not (bad x)) xs))
            ∙ ap (λ (k : ℕ). counts n (seat x) + k) rest ∙ sym (sum_by-cons (counts n) (seat x) (map seat xs)))
        | inl goes ↦
            let other : same_node (seat x).node n ≡ false = ap (λ (b : Bool). b && same_node (seat x).node n) (sym goes) ∙ parts.0 in
            rw goes (rest ∙ sym (load-other n (seat x) (map seat xs) other))
      ]

  -- adding seats, none of which is on the node
  load-with : (xs ys : List X) → load_of (map seat ys) n ≡ 0 → load_of (map seat (xs ++ ys)) n ≡ load_of (map seat xs) n
  load-with xs ys none =
      ap (λ (seats : List Seat). load_of seats n) (map-append seat xs ys)
      ∙ sum_by-append (counts n) (map seat xs) (map seat ys) ∙ ap (λ (k : ℕ). load_of (map seat xs) n + k) none ∙ add-zero (load_of (map seat xs) n)
    where
      add-zero : (k : ℕ) → k + 0 ≡ k
      add-zero k = omega arith

-- the seats of a new stripe
held-none : (n : NodeNo) (s : StripeNo) (fs : List Fragment) (seats : List Seat) → list_any (λ seat. same_node seat.node n) seats ≡ false
    → load_of (map (λ (h : Held). h.seat) (held_at s fs seats)) n ≡ 0
held-none n s [] [] none = refl
held-none n s [] (x ∷ xs) none = refl
held-none n s (f ∷ fs) [] none = refl
held-none n s (f ∷ fs) (x ∷ xs) none =
    let parts = or_parts (same_node x.node n) (list_any (λ seat. same_node seat.node n) xs) none in
    load-other n x (map (λ (h : Held). h.seat) (held_at s fs xs)) parts.0 ∙ held-none n s fs xs parts.1

module _ (st : State) (n : NodeNo) where
  abbrev Keeps : State → Type 0
  Keeps next = load next n ≡ load st n

  -- given that the homes and the targets on the node are as many as before
  by-parts : (next : State) → load_of (map (λ (h : Held). h.seat) next.homes) n ≡ load_of (map (λ (h : Held). h.seat) st.homes) n
      → load_of (map (λ (l : LeaseRecord). l.target) next.leases) n ≡ load_of (map (λ (l : LeaseRecord). l.target) st.leases) n → Keeps next
  by-parts next homes targets = load-parts next n ∙ ap₂ (λ (a b : ℕ). a + b) homes targets ∙ sym (load-parts st n)

  lease-keeps : (l : LeaseRecord) → is_target_on n l ≡ false → Keeps (with_lease st l)
  lease-keeps l other = by-parts (with_lease st l) refl (load-with (λ (l : LeaseRecord). l.target) n st.leases (l ∷ []) (load-other n l.target [] other))

  end-keeps : (s : StripeNo) (f : Fragment) → has_target_there st n (is_of s f.value) ≡ false → Keeps (without_lease st s f)
  end-keeps s f none = by-parts (without_lease st s f) refl (load-unless (λ (l : LeaseRecord). l.target) n (is_of s f.value) st.leases none)

  -- the target of the lease that is found is on another node
  target-other : (s : StripeNo) (f : Fragment) (l : LeaseRecord) → lease_of st s f ≡ Some l → has_target_there st n (is_of s f.value) ≡ false
      → is_target_on n l ≡ false
  target-other s f l found none =
      let m = find-member (is_of s f.value) st.leases l found in
      elim (cases_Bool (is_target_on n l)) [
        | inr miss ↦ miss
        | inl hit ↦ absurd (
            let there : has_target_there st n (is_of s f.value) ≡ true =
            list_any-member (λ (k : LeaseRecord). is_of s f.value k && is_target_on n k) st.leases l m.0 (rw (m.1, hit) refl) in
            let both : true ≡ false = sym there ∙ none in cc)
      ]

  done-keeps : (s : StripeNo) (f : Fragment) (o : Option LeaseRecord) → lease_of st s f ≡ o
      → has_home_there st n (is_home_of s f) ≡ false → has_target_there st n (is_of s f.value) ≡ false → Keeps (with_done st s f o)
  done-keeps s f None found homes targets = refl
  done-keeps s f (Some l) found homes targets =
      by-parts (with_done st s f (Some l))
      (load-with (λ (h : Held). h.seat) n (filter (λ (h : Held). not (is_home_of s f h)) st.homes) (record { stripe = s; fragment = f; seat = l.target } ∷ [])
      (load-other n l.target [] (target-other s f l found targets))
      ∙ load-unless (λ (h : Held). h.seat) n (is_home_of s f) st.homes homes)
      (load-unless (λ (l : LeaseRecord). l.target) n (is_of s f.value) st.leases targets)

  placed-keeps : (code : Code) (s : StripeNo) (seats : List Seat) → list_any (λ seat. same_node seat.node n) seats ≡ false → load (with_placed st code s seats) n ≡ load st n
  placed-keeps code s seats other =
      by-parts (with_placed st code s seats) (load-with (λ (h : Held). h.seat) n st.homes (held_at s (fragments code) seats)
      (held-none n s (fragments code) seats other)) refl

  changed-keeps : (c : Command) (r : Reply) → can_change_load st n c r ≡ false → Keeps (changed_by st c r)
  changed-keeps (Place s) (Placed seats) other = placed-keeps Wide s seats other
  changed-keeps (Place6 s) (Placed6 seats) other = placed-keeps Narrow s seats other
  changed-keeps (Drop s) Dropped other =
      let parts = or_parts (has_home_there st n (λ h. same_stripe s h.stripe)) (has_target_there st n (λ l. same_stripe s l.stripe)) other in
      by-parts (without_stripe st s) (load-unless (λ (h : Held). h.seat) n (λ h. same_stripe s h.stripe) st.homes parts.0)
      (load-unless (λ (l : LeaseRecord). l.target) n (λ l. same_stripe s l.stripe) st.leases parts.1)
  changed-keeps (Lease s f) (Granted l k) other = lease-keeps l other
  changed-keeps Next (Granted l k) other = lease-keeps l other
  changed-keeps (Done s f e) Ended other =
      let parts = or_parts (has_home_there st n (is_home_of s f)) (has_target_there st n (is_of s f.value)) other in
      done-keeps s f (lease_of st s f) refl parts.0 parts.1
  changed-keeps (Abandon s f e) Ended other = end-keeps s f other
  changed-keeps (Revoke s f) Ended other = end-keeps s f other
  changed-keeps (Fail m) Changed other =
      let parts = or_parts (has_home_there st n (stands_on m)) (has_target_there st n (hangs_on st m)) other in
      by-parts (with_gone (emptied st m) m) (load-unless (λ (h : Held). h.seat) n (stands_on m) st.homes parts.0)
      (load-unless (λ (l : LeaseRecord). l.target) n (hangs_on st m) st.leases parts.1)
  changed-keeps Tick (Ticked clock ended) other = by-parts (ticked st) refl (load-unless (λ (l : LeaseRecord). l.target) n (ends_at (st.clock + 1)) st.leases other)
  changed-keeps _ Idle other = refl
  changed-keeps _ _ other = refl

-- a node keeps its load if the command cannot change it
pub load-keeps : (nodes : List NodeInfo) (past : List Entry) (st : State) (session : SessionNo) (n : NodeNo) (c : Command)
    → can_change_load st n c (step nodes past st session c).0 ≡ false → load (step nodes past st session c).1 n ≡ load st n
load-keeps nodes past st session n c other =
    subst (λ (next : State). load next n ≡ load st n) (sym (step-changed nodes past st session c)) (changed-keeps st n c (step nodes past st session c).0 other)
