-- The repair that the next lease is granted for.
use Rattle.std.proofs.Common.{◌≡◌, ℕ, zero, suc, ◌+◌, ◌<◌, ◌≤◌, Bool, true, false, not, ◌&&◌, if◌then◌else◌, List, drop, get_or, length, find, Option, Some, None, is_none, is_some, Ok, Err, refl, sym, ap, ap₂, subst, ◌∙◌, arith, inl, inr, eqb}
use Rattle.std.specs.Result.{is_ok, result_ok}
use Rattle.std.proofs.lemmas.Bool.{and_parts, cases_eq, ne_eqb}
use Rattle.std.proofs.lemmas.Option.{same_Some}
use Rattle.std.proofs.lemmas.List.{drop_more}
use Rattle.std.proofs.lemmas.Nat.Bits.{bit_at-zero}
use Rattle.lrc_code.specs.Codes.{fragments, has_fragment, all_fragments}
use Rattle.lrc_code.specs.declared.numbers.StripeNo.{StripeNo}
use Rattle.lrc_code.specs.declared.numbers.SessionNo.{SessionNo}
use Rattle.lrc_code.specs.declared.numbers.Fragment.{Fragment}
use Rattle.lrc_code.specs.Losses.{bits_set}
use Rattle.lrc_code.proofs.NumbersLemmas.{equal_fragments}
use Rattle.lrc_topology.specs.declared.NodeInfo.{NodeInfo}
use Rattle.lrc_topology.specs.declared.seat.Seat.{Seat}
use Rattle.lrc_terms.specs.declared.lease.Lease.{Lease}
use Rattle.lrc_terms.proofs.LeaseLemmas.{none-find}
use Rattle.lrc_rules.specs.declared.entry.Entry.{Entry}
use Rattle.lrc_rules.specs.declared.kind.Kind.{Kind}
use Rattle.lrc_store.specs.declared.repair.Repair.{Repair}
use Rattle.lrc_rules.specs.declared.refusal.Refusal.TheVariants as refusal
use Rattle.lrc_rules.specs.declared.reply.Reply.TheVariants.{Granted}
use Rattle.lrc_terms.specs.Stripes.{StripeFragment}
use Rattle.lrc_rules.specs.States.{State, has_stripe, code_of, lease_of}
use Rattle.lrc_rules.specs.Placement.{chosen}
use Rattle.lrc_rules.specs.Repairs.{needs, kind, is_beyond_repair}
use Rattle.lrc_rules.specs.Leases.{new_lease, lease_outcome}
use Rattle.lrc_rules.specs.Urgency.{is_grantable}
use Rattle.lrc_store.specs.Repairing.{is_waiting, repair_by, repair_or_refusal, fragment_of, IsRepair}
use Rattle.lrc_bars.proofs.FragmentListLemmas.{fragment-at, number-at}
use Rattle.lrc_rules.proofs.MostUrgentLemmas.{none-from}
use Rattle.lrc_store.proofs.LeaseReplyLemmas.{answer-by, lease-decided}
use Rattle.lrc_rules.proofs.UrgencyLemmas.{needs-own}

-- ---- the fragments that wait: those that need a lease, but for those that have one

pub left-out : (lease : Option Lease) (needed : Bool) → (if is_some lease then false else needed) ≡ (needed && is_none lease)
left-out None true = refl
left-out None false = refl
left-out (Some l) true = refl
left-out (Some l) false = refl

-- ---- whether a lease of a fragment would be granted, found in three steps

module _ (nodes : List NodeInfo) (st : State) (s : StripeNo) (f : Fragment) where
  -- a fragment that waits is one of the stripe's code
  pub waiting-own : is_waiting nodes st s f ≡ true → has_fragment (code_of st s) f.value ≡ true
  waiting-own waits = needs-own nodes st s f (and_parts (needs nodes st s f) (is_none (lease_of st s f)) waits).0

  regrouped : (a b c : Bool) → (a && (b && c)) ≡ ((b && a) && c)
  regrouped true true c = refl
  regrouped true false c = refl
  regrouped false true c = refl
  regrouped false false c = refl

  grantable-is : (waiting beyond : Bool) (seat : Option Seat) → is_waiting nodes st s f ≡ waiting → is_beyond_repair nodes st s f ≡ beyond
      → chosen nodes st s f ≡ seat → is_grantable nodes st (s, f) ≡ (waiting && (not beyond && is_some seat))
  grantable-is waiting beyond seat waits lost found =
      regrouped (is_none (lease_of st s f)) (needs nodes st s f) _
      ∙ ap (λ b. b && (not (is_beyond_repair nodes st s f) && is_some (chosen nodes st s f))) waits
      ∙ ap₂ (λ (b : Bool) (o : Option Seat). waiting && (not b && is_some o)) lost found

  pub not-waiting : is_waiting nodes st s f ≡ false → false ≡ is_grantable nodes st (s, f)
  not-waiting waits = sym (grantable-is false (is_beyond_repair nodes st s f) (chosen nodes st s f) waits refl refl)

  found-by : (k : Kind) (beyond : Bool) (seat : Option Seat) → is_ok (repair_by s f (if beyond then None else Some k) seat) ≡ (not beyond && is_some seat)
  found-by k true seat = refl
  found-by k false None = refl
  found-by k false (Some seat) = refl

  -- a lease of a fragment that waits would be granted where its repair is found
  pub waiting-found : is_waiting nodes st s f ≡ true → is_ok (repair_or_refusal nodes st s f) ≡ is_grantable nodes st (s, f)
  waiting-found waits =
      found-by (kind nodes st s f) (is_beyond_repair nodes st s f) (chosen nodes st s f)
      ∙ sym (grantable-is true (is_beyond_repair nodes st s f) (chosen nodes st s f) waits refl refl)

-- a repair that is found is one of the fragment
pub found-own : (s : StripeNo) (f : Fragment) (kind : Option Kind) (seat : Option Seat) (r : Repair) → repair_by s f kind seat ≡ Ok r → fragment_of r ≡ (s, f)
found-own s f None seat r is = absurd (let never : Err refusal.Unrecoverable ≡ Ok r = is in cc)
found-own s f (Some kind) None r is = absurd (let never : Err (refusal.NoLawfulNode f) ≡ Ok r = is in cc)
found-own s f (Some kind) (Some seat) r is =
    let found : Repair = record { stripe = s; fragment = f; kind = kind; target = seat } in
    ap fragment_of (sym (same_Some found r (ap result_ok is)))

-- the repair that is found of a fragment that waits is one for which its lease would be granted
pub found-repair : (nodes : List NodeInfo) (st : State) (p : StripeFragment) (r : Repair) → fragment_of r ≡ p → has_stripe st p.0 ≡ true
    → is_waiting nodes st p.0 p.1 ≡ true → repair_or_refusal nodes st p.0 p.1 ≡ Ok r → IsRepair nodes st r
found-repair nodes st p r same there waits found = record {
  there = subst (λ (q : StripeFragment). has_stripe st q.0 ≡ true) (sym same) there;
  waiting = subst (λ (q : StripeFragment). is_waiting nodes st q.0 q.1 ≡ true) (sym same) waits;
  found = subst (λ (q : StripeFragment). repair_or_refusal nodes st q.0 q.1 ≡ Ok r) (sym same) found;
}

-- ---- the first of a list that passes a test

module _ {X : Type 0} (test : X → Bool) (xs : List X) (i : ℕ) (d : X) (within : i < length xs) where
  pub find-later : test (get_or xs i d) ≡ false → find test (drop i xs) ≡ find test (drop (i + 1) xs)
  find-later miss = rw (drop_more xs i d within, miss) refl

  pub find-at : test (get_or xs i d) ≡ true → find test (drop i xs) ≡ Some (get_or xs i d)
  find-at hit = rw (drop_more xs i d within, hit) refl

-- what none of the first passes is looked for behind them
find-past : {X : Type 0} (test : X → Bool) (xs : List X) (k : ℕ) (d : X) → k ≤ length xs → ((i : ℕ) → i < k → test (get_or xs i d) ≡ false)
    → find test xs ≡ find test (drop k xs)
find-past test xs zero d few miss = refl
find-past test xs (suc k) d few miss =
    find-past test xs k d (omega (arith, few)) (λ i below. miss i (omega (arith, below))) ∙ find-later test xs k d (omega (arith, few)) (miss k (omega arith))
    ∙ (let next : k + 1 ≡ suc k = omega arith in ap (λ n. find test (drop n xs)) next)

module _ (nodes : List NodeInfo) (st : State) (s : StripeNo) (left : ℕ)
    (past : (g : Fragment) → bits_set left g.value ≡ false → is_grantable nodes st (s, g) ≡ false) where
  -- none is grantable, where none is left
  pub none-left : left ≡ 0 → find (λ (f : Fragment). is_grantable nodes st (s, f)) all_fragments ≡ None
  none-left none =
      none-find (λ (f : Fragment). is_grantable nodes st (s, f)) all_fragments (λ f here. past f (rw (none, bit_at-zero f.value) refl))

  -- the first that is left is the first that is grantable, if it is
  pub first-grantable : (f : Fragment) → ((g : ℕ) → g < f.value → bits_set left g ≡ false) → is_grantable nodes st (s, f) ≡ true
      → find (λ (g : Fragment). is_grantable nodes st (s, g)) all_fragments ≡ Some f
  first-grantable f low hit =
      let test = λ (g : Fragment). is_grantable nodes st (s, g) in
      let within = f.in_range in
      let here = fragment-at f in
      find-past test all_fragments f.value f (omega (arith, within)) (λ i below.
      past (get_or all_fragments i f) (ap (bits_set left) (number-at i f (omega (arith, below, within))) ∙ low i below))
      ∙ find-at test all_fragments f.value f within (ap test here ∙ hit) ∙ ap (λ (g : Fragment). Some g) here

  -- one more is past
  pub grantable-past : (next : ℕ) (f : Fragment) → ((g : ℕ) → bits_set next g ≡ (not (eqb g f.value) && bits_set left g)) → is_grantable nodes st (s, f) ≡ false
      → (g : Fragment) → bits_set next g.value ≡ false → is_grantable nodes st (s, g) ≡ false
  grantable-past next f less miss g out = elim (cases_eq g.value f.value) [
    | inl same ↦ ap (λ (h : Fragment). is_grantable nodes st (s, h)) (equal_fragments g f same) ∙ miss
    | inr away ↦ past g (sym (ap (λ (b : Bool). not b && bits_set left g.value) (ne_eqb g.value f.value away)) ∙ (sym (less g.value) ∙ out))
  ]

-- ---- the lease of such a repair is granted

pub repair-granted : (nodes : List NodeInfo) (past : List Entry) (st : State) (session : SessionNo) (r : Repair) → IsRepair nodes st r
    → (lease_outcome nodes past st session r.stripe r.fragment).0 ≡ Granted (new_lease past st session r.stripe r.fragment r.target) r.kind
repair-granted nodes past st session r is =
    let waits = and_parts (needs nodes st r.stripe r.fragment) (is_none (lease_of st r.stripe r.fragment)) is.waiting in
    lease-decided nodes past st session r.stripe r.fragment is.there (none-from (lease_of st r.stripe r.fragment) waits.1) waits.0
    ∙ ap (answer-by nodes past st session r.stripe r.fragment) is.found
