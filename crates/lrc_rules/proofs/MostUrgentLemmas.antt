-- What Next does: it grants the lease of the first fragment in the order of repair that is owed one and may go to
-- some node.
use Rattle.std.proofs.Common.{◌≡◌, ◌≢◌, ◌↔◌, inl, inr, Bool, true, false, not, ◌&&◌, IsTrue, List, filter, Option, Some, None, is_none, is_some, refl, sym, ap, ap₂, ◌∙◌, subst}
use Rattle.std.specs.List.{Contains}
use Rattle.std.specs.Option.{option_and_then}
use Rattle.std.proofs.lemmas.Bool.{eqb-true, eq-eqb, ltb-true, lt-ltb, and_parts, and_from, or_cases, or_left, or_right}
use Rattle.std.proofs.lemmas.List.Elements.{All-contains}
use Rattle.lrc_code.specs.declared.numbers.StripeNo.{StripeNo}
use Rattle.lrc_code.specs.declared.numbers.SessionNo.{SessionNo}
use Rattle.lrc_code.specs.declared.numbers.Fragment.{Fragment}
use Rattle.lrc_code.specs.Numbers.{same_stripe}
use Rattle.lrc_code.proofs.NumbersLemmas.{equal_stripes}
use Rattle.lrc_code.proofs.OrderLemmas.{not_before-itself, least-none, least-listed, least-none_before, least-only}
use Rattle.lrc_topology.specs.declared.NodeInfo.{NodeInfo}
use Rattle.lrc_topology.specs.declared.seat.Seat.{Seat}
use Rattle.lrc_topology.specs.Seats.{free_seat}
use Rattle.lrc_terms.specs.Levels.{comes_first}
use Rattle.lrc_terms.specs.Stripes.{StripeFragment}
use Rattle.lrc_terms.proofs.NeedLemmas.{law_first}
use Rattle.lrc_terms.specs.declared.lease.Lease.{Lease as LeaseRecord}
use Rattle.lrc_rules.specs.declared.kind.Kind.{Kind}
use Rattle.lrc_rules.specs.declared.kind.Kind.TheVariants.{Local, Local3, Global, Move}
use Rattle.lrc_rules.specs.declared.reply.Reply.TheVariants.{Granted, Idle, Refused}
use Rattle.lrc_rules.specs.declared.refusal.Refusal.{Refusal}
use Rattle.lrc_rules.specs.declared.entry.Entry.{Entry}
use Rattle.lrc_rules.specs.States.{State, has_stripe, lease_of, taken_seats, rank}
use Rattle.lrc_rules.specs.Placement.{chosen_node, chosen}
use Rattle.lrc_rules.specs.Choices.{IsFitting}
use Rattle.lrc_rules.specs.Repairs.{needs, is_safe, kind, is_global, is_beyond_repair}
use Rattle.lrc_rules.specs.Urgency.{is_grantable, stripe_fragments, is_repaired_before, next_of}
use Rattle.lrc_rules.specs.Granting.{IsGrantable, ComesFirst, IsRepairedBefore, IsMostUrgent}
use Rattle.lrc_rules.specs.Outcomes.{Outcome}
use Rattle.lrc_rules.specs.Leases.{new_lease, lease_outcome, next_answer, next_outcome}
use Rattle.lrc_rules.proofs.MemberLemmas.{All-members, not-Contains-nil, no-member, filter-member, member-filter, list_any-member}
use Rattle.lrc_rules.proofs.ChoiceLemmas.{node-fits, none-fitting}
use Rattle.lrc_rules.proofs.LeaseLawLemmas.{lease-new}
use Rattle.lrc_rules.proofs.GrantingLemmas.{tell-granted}
use Rattle.lrc_rules.proofs.UrgencyLemmas.{fragment-order, fragment-ties, fragments-into, fragments-from, needs-own}
use Rattle.lrc_rules.proofs.LookUpLemmas.{stripe-there}

-- ---- the order in words

module _ (nodes : List NodeInfo) (st : State) where
  pub stripe-words : (s t : StripeNo) → IsTrue (comes_first (rank nodes st) s t) ↔ ComesFirst nodes st s t
  stripe-words s t = law_first (rank nodes st) s t

  before-words : (p q : StripeFragment) → is_repaired_before (rank nodes st) p q ≡ true → IsRepairedBefore nodes st p q
  before-words p q e = elim (or_cases (comes_first (rank nodes st) p.0 q.0) _ e) [
    | inl sooner ↦ inl ((stripe-words p.0 q.0).0 sooner)
    | inr same ↦ let parts = and_parts (same_stripe p.0 q.0) _ same in inr (equal_stripes p.0 q.0 (eqb-true _ _ parts.0), ltb-true _ _ parts.1)
  ]

  words-before : (p q : StripeFragment) → IsRepairedBefore nodes st p q → is_repaired_before (rank nodes st) p q ≡ true
  words-before p q (inl sooner) = or_left _ _ ((stripe-words p.0 q.0).1 sooner)
  words-before p q (inr same) = or_right _ _ (and_from _ _ (eq-eqb p.0.value q.0.value (ap (λ (s : StripeNo). s.value) same.0)) (lt-ltb _ _ same.1))

-- ---- what is grantable, in words

suffices-from : (safe : Bool) (k : Kind) → not (not safe && is_global k) ≡ true → k ≡ Global → safe ≡ true
suffices-from true k e from = refl
suffices-from false Global e from = absurd (cc)
suffices-from false (Local sources) e from = absurd (let never : Local sources ≡ Global = from in cc)
suffices-from false (Local3 sources) e from = absurd (let never : Local3 sources ≡ Global = from in cc)
suffices-from false Move e from = absurd (let never : Move ≡ Global = from in cc)

from-suffices : (safe : Bool) (k : Kind) → (k ≡ Global → safe ≡ true) → not (not safe && is_global k) ≡ true
from-suffices true k suffices = refl
from-suffices false Global suffices = absurd (let both : false ≡ true = suffices refl in cc)
from-suffices false (Local sources) suffices = refl
from-suffices false (Local3 sources) suffices = refl
from-suffices false Move suffices = refl

pub none-from : (o : Option LeaseRecord) → is_none o ≡ true → o ≡ None
none-from None e = refl
none-from (Some l) e = absurd (cc)

module _ (nodes : List NodeInfo) (st : State) (s : StripeNo) (f : Fragment) where
  node-by : (o : Option NodeInfo) → chosen_node nodes st s f ≡ o → is_some (option_and_then (free_seat (taken_seats st)) o) ≡ true
      → (n : NodeInfo) × IsFitting nodes st s f n
  node-by (Some n) is e = (n, node-fits nodes st s f n is)
  node-by None is e = absurd (cc)

  node-of : is_some (chosen nodes st s f) ≡ true → (n : NodeInfo) × IsFitting nodes st s f n
  unfolding chosen
  node-of e = node-by (chosen_node nodes st s f) refl e

  seat-by : (n : NodeInfo) → IsFitting nodes st s f n → (o : Option Seat) → chosen nodes st s f ≡ o
      → (seat : Seat) × (chosen nodes st s f ≡ Some seat)
  seat-by n fitting (Some seat) is = (seat, is)
  seat-by n fitting None is = absurd (none-fitting nodes st s f is n fitting)

module _ (nodes : List NodeInfo) (st : State) where
  abbrev candidates : List StripeFragment
  candidates = filter (is_grantable nodes st) (stripe_fragments st)

  pub grantable-words : (p : StripeFragment) → Contains candidates p → IsGrantable nodes st p
  grantable-words p here =
      let m = filter-member (is_grantable nodes st) (stripe_fragments st) p here in
      let free = and_parts (is_none (lease_of st p.0 p.1)) _ m.1 in
      let need = and_parts (needs nodes st p.0 p.1) _ free.1 in
      let rest = and_parts (not (is_beyond_repair nodes st p.0 p.1)) _ need.1 in
      let found = node-of nodes st p.0 p.1 rest.1 in
      let there : has_stripe st p.0 ≡ true = list_any-member (same_stripe p.0) st.stripes p.0 (fragments-into st st.stripes p m.0)
      (eq-eqb p.0.value p.0.value refl) in
      record {
        owed =
            record {
              there = there;
              none = none-from (lease_of st p.0 p.1) free.0;
              needed = need.0;
              suffices = suffices-from (is_safe nodes st p.0)
                  (kind nodes st p.0 p.1) rest.0;
            };
        node = found.0;
        fitting = found.1;
      }

  words-grantable : (p : StripeFragment) → IsGrantable nodes st p → Contains candidates p
  words-grantable p so =
      let seat = seat-by nodes st p.0 p.1 so.node so.fitting (chosen nodes st p.0 p.1) refl in
      member-filter (is_grantable nodes st) (stripe_fragments st) p (fragments-from st st.stripes p (needs-own nodes st p.0 p.1 so.owed.needed) (stripe-there st p.0 so.owed.there))
      (and_from (is_none (lease_of st p.0 p.1)) _ (ap (λ (o : Option LeaseRecord). is_none o) so.owed.none)
      (and_from (needs nodes st p.0 p.1) _ so.owed.needed
      (and_from (not (is_beyond_repair nodes st p.0 p.1)) _ (from-suffices (is_safe nodes st p.0) (kind nodes st p.0 p.1) so.owed.suffices)
      (ap (λ (o : Option Seat). is_some o) seat.1))))

  -- ---- the first grantable fragment

  abbrev before : StripeFragment → StripeFragment → Bool
  before = is_repaired_before (rank nodes st)

  first-by : (p q : StripeFragment) → before q p ≡ false → q ≢ p → (b : Bool) → before p q ≡ b → b ≡ true
  first-by p q behind other true is = refl
  first-by p q behind other false is = absurd (other (fragment-ties (rank nodes st) q p behind is))

  next-urgent : (p : StripeFragment) → next_of nodes st ≡ Some p → IsMostUrgent nodes st p
  unfolding next_of
  next-urgent p e = record {
    grantable = grantable-words p (least-listed before p candidates e);
    first = λ q so other.
        let behind = All-contains (λ (z : StripeFragment). before z p ≡ false) candidates q
        (least-none_before before (fragment-order (rank nodes st)) p candidates e) (words-grantable q so) in
        before-words nodes st p q (first-by p q behind other (before p q) refl);
  }

  behind-by : (p : StripeFragment) → IsMostUrgent nodes st p → (q : StripeFragment) → Contains candidates q → (b : Bool) → before q p ≡ b → b ≡ false
  behind-by p most q here false is = refl
  behind-by p most q here true is =
      let order = fragment-order (rank nodes st) in
      let other : q ≢ p = λ same.
      (let both : true ≡ false = sym is ∙ ap (λ (z : StripeFragment). before z p) same ∙ not_before-itself before order p in cc) in
      let ahead = words-before nodes st p q (most.first q (grantable-words q here) other) in
      absurd (let both : true ≡ false = sym is ∙ order.one_way p q ahead in cc)

  urgent-next : (p : StripeFragment) → IsMostUrgent nodes st p → next_of nodes st ≡ Some p
  unfolding next_of
  urgent-next p most =
      least-only before (fragment-order (rank nodes st)) p candidates (λ a b in_a in_b x y. fragment-ties (rank nodes st) a b x y)
      (words-grantable p most.grantable)
      (All-members (λ (z : StripeFragment). before z p ≡ false) candidates (λ q here. behind-by p most q here (before q p) refl))

  none-next : next_of nodes st ≡ None → (p : StripeFragment) → ¬ (IsGrantable nodes st p)
  unfolding next_of
  none-next e p so =
      not-Contains-nil p (subst (λ (xs : List StripeFragment). Contains xs p) ((least-none before candidates).0 e) (words-grantable p so))

  next-none : ((p : StripeFragment) → ¬ (IsGrantable nodes st p)) → next_of nodes st ≡ None
  unfolding next_of
  next-none none = (least-none before candidates).1 (no-member candidates (λ p here. none p (grantable-words p here)))

-- ---- what Next does

module _ (nodes : List NodeInfo) (past : List Entry) (st : State) (session : SessionNo) where
  next-is : (o : Option StripeFragment) → next_of nodes st ≡ o → next_outcome nodes past st session ≡ next_answer nodes past st session o
  unfolding next_outcome
  next-is o is = ap (next_answer nodes past st session) is

  -- Lease of a grantable fragment is granted
  grantable-granted : (p : StripeFragment) → IsGrantable nodes st p
      → (l : LeaseRecord) × ((lease_outcome nodes past st session p.0 p.1).0 ≡ Granted l (kind nodes st p.0 p.1))
  grantable-granted p so =
      let seat = seat-by nodes st p.0 p.1 so.node so.fitting (chosen nodes st p.0 p.1) refl in
      let l = new_lease past st session p.0 p.1 seat.0 in
      (l, tell-granted nodes past st session p.0 p.1 l (kind nodes st p.0 p.1) (so.owed, seat.1, refl, refl))

  -- if a fragment is the most urgent, Next does what Lease of it does
  pub urgent-leased : (s : StripeNo) (f : Fragment) → IsMostUrgent nodes st (s, f)
      → next_outcome nodes past st session ≡ lease_outcome nodes past st session s f
  urgent-leased s f most = next-is (Some (s, f)) (urgent-next nodes st (s, f) most)

  no-grant : (l : LeaseRecord) (k : Kind) → Idle ≢ Granted l k
  no-grant l k e = cc

  urgent-by : (l : LeaseRecord) (k : Kind) (o : Option StripeFragment) → next_of nodes st ≡ o → (next_answer nodes past st session o).0 ≡ Granted l k
      → IsMostUrgent nodes st (l.stripe, l.fragment)
  urgent-by l k None is e = absurd (no-grant l k e)
  urgent-by l k (Some p) is e =
      let own = (lease-new nodes past st session p.0 p.1 l k e).own in
      let same : p ≡ (l.stripe, l.fragment) =
      ap₂ (λ (s : StripeNo) (f : Fragment). (s, f)) (sym (ap (λ (x : LeaseRecord). x.stripe) own)) (sym (ap (λ (x : LeaseRecord). x.fragment) own)) in
      subst (IsMostUrgent nodes st) same (next-urgent nodes st p is)

  -- the lease that Next grants is of the most urgent fragment
  pub granted-urgent : (l : LeaseRecord) (k : Kind) → (next_outcome nodes past st session).0 ≡ Granted l k
      → IsMostUrgent nodes st (l.stripe, l.fragment)
  granted-urgent l k told = urgent-by l k (next_of nodes st) refl (sym (ap (λ (o : Outcome). o.0) (next-is (next_of nodes st) refl)) ∙ told)

  no-idle : (l : LeaseRecord) (k : Kind) → Granted l k ≢ Idle
  no-idle l k e = cc

  idle-by : (o : Option StripeFragment) → next_of nodes st ≡ o → (next_answer nodes past st session o).0 ≡ Idle → o ≡ None
  idle-by None is e = refl
  idle-by (Some p) is e =
      let given = grantable-granted p (next-urgent nodes st p is).grantable in absurd (no-idle given.0 (kind nodes st p.0 p.1) (sym given.1 ∙ e))

  next-idle : (next_outcome nodes past st session).0 ≡ Idle → next_of nodes st ≡ None
  next-idle told = idle-by (next_of nodes st) refl (sym (ap (λ (o : Outcome). o.0) (next-is (next_of nodes st) refl)) ∙ told)

  -- Next is Idle only if no fragment is grantable
  pub idle-none : (next_outcome nodes past st session).0 ≡ Idle → (p : StripeFragment) → ¬ (IsGrantable nodes st p)
  idle-none told = none-next nodes st (next-idle told)

  pub none-idle : ((p : StripeFragment) → ¬ (IsGrantable nodes st p)) → (next_outcome nodes past st session).0 ≡ Idle
  none-idle none = ap (λ (o : Outcome). o.0) (next-is None (next-none nodes st none))

  pub idle-same : (next_outcome nodes past st session).0 ≡ Idle → (next_outcome nodes past st session).1 ≡ st
  idle-same told = ap (λ (o : Outcome). o.1) (next-is None (next-idle told))

  idle_not_refused : (r : Refusal) → Idle ≢ Refused r
  idle_not_refused r e = cc

  granted_not_refused : (l : LeaseRecord) (k : Kind) (r : Refusal) → Granted l k ≢ Refused r
  granted_not_refused l k r e = cc

  never-by : (r : Refusal) (o : Option StripeFragment) → next_of nodes st ≡ o → (next_answer nodes past st session o).0 ≢ Refused r
  never-by r None is e = idle_not_refused r e
  never-by r (Some p) is e =
      let given = grantable-granted p (next-urgent nodes st p is).grantable in granted_not_refused given.0 (kind nodes st p.0 p.1) r (sym given.1 ∙ e)

  -- Next is never refused
  pub never-refused : (r : Refusal) → (next_outcome nodes past st session).0 ≢ Refused r
  never-refused r told = never-by r (next_of nodes st) refl (sym (ap (λ (o : Outcome). o.0) (next-is (next_of nodes st) refl)) ∙ told)

  granted-if : (o : Option StripeFragment) → next_of nodes st ≡ o → (next_answer nodes past st session o).0 ≢ Idle
      → (l : LeaseRecord) × (k : Kind) × ((next_answer nodes past st session o).0 ≡ Granted l k)
  granted-if None is busy = absurd (busy refl)
  granted-if (Some p) is busy =
      let given = grantable-granted p (next-urgent nodes st p is).grantable in (given.0, kind nodes st p.0 p.1, given.1)

  -- Next grants a lease if it is not Idle
  pub busy-granted : (next_outcome nodes past st session).0 ≢ Idle
      → (l : LeaseRecord) × (k : Kind) × ((next_outcome nodes past st session).0 ≡ Granted l k)
  busy-granted busy =
      let same = ap (λ (o : Outcome). o.0) (next-is (next_of nodes st) refl) in
      let given = granted-if (next_of nodes st) refl (λ idle. busy (same ∙ idle)) in
      (given.0, given.1, same ∙ given.2)
