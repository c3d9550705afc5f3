-- Which leases are live after a command, and how many it grants.
use Rattle.std.proofs.Common.{[], ◌≡◌, ◌⊎◌, ℕ, ◌+◌, inl, inr, Bool, true, false, not, cond, List, ◌∷◌, ◌++◌, filter, Option, Some, None, refl, sym, ap, ◌∙◌, subst, arith}
use Rattle.std.specs.List.{Contains}
use Rattle.std.proofs.lemmas.List.Sums.{sum_by-append, sum_by-cons}
use Rattle.lrc_code.specs.declared.numbers.StripeNo.{StripeNo}
use Rattle.lrc_code.specs.declared.numbers.SessionNo.{SessionNo}
use Rattle.lrc_code.specs.declared.numbers.Fragment.{Fragment}
use Rattle.lrc_topology.specs.declared.NodeInfo.{NodeInfo}
use Rattle.lrc_topology.specs.declared.seat.Seat.{Seat}
use Rattle.lrc_terms.specs.declared.lease.Lease.{Lease as LeaseRecord}
use Rattle.lrc_terms.specs.Leased.{is_of, ends_at}
use Rattle.lrc_rules.specs.declared.kind.Kind.{Kind}
use Rattle.lrc_rules.specs.declared.command.Command.{Command}
use Rattle.lrc_rules.specs.declared.command.Command.TheVariants.{Drop, Lease, Next, Done, Abandon, Revoke, Fail, Tick}
use Rattle.lrc_rules.specs.declared.reply.Reply.{Reply}
use Rattle.lrc_rules.specs.declared.reply.Reply.TheVariants.{Dropped, Granted, Idle, Ended, Changed, Refused, Ticked}
use Rattle.lrc_rules.specs.declared.refusal.Refusal.{Refusal}
use Rattle.lrc_rules.specs.declared.refusal.Refusal.TheVariants as refusal
use Rattle.lrc_rules.specs.declared.entry.Entry.{Entry}
use Rattle.lrc_rules.specs.States.{State, has_stripe, lease_of}
use Rattle.lrc_rules.specs.Urgency.{next_of}
use Rattle.lrc_terms.specs.Stripes.{StripeFragment}
use Rattle.lrc_rules.specs.Placement.{chosen}
use Rattle.lrc_rules.specs.Repairs.{needs, kind, is_beyond_repair}
use Rattle.lrc_rules.specs.Outcomes.{Outcome, refuse_if}
use Rattle.lrc_rules.specs.Leases.{is_grant, grants, term, new_lease, granted, lease_answer, lease_outcome, next_answer, next_outcome}
use Rattle.lrc_rules.specs.Steps.{is_other, hangs_on, step}
use Rattle.lrc_rules.specs.Changes.{with_done, changed_by, asks_for_lease, can_get}
use Rattle.lrc_rules.proofs.MemberLemmas.{filter-member}
use Rattle.lrc_rules.proofs.StepLemmas.{step-changed}
use Rattle.lrc_rules.proofs.ReplyLemmas.{step-gets}

-- ---- how many grants

-- one more entry adds one grant or none
pub grants-push : (past : List Entry) (e : Entry) (s : StripeNo) (f : Fragment)
    → grants (past ++ e ∷ []) s f ≡ grants past s f + cond (is_grant s f e.reply) 1 0
grants-push past e s f =
    let one = λ (x : Entry). cond (is_grant s f x.reply) 1 0 in
    sum_by-append one past (e ∷ []) ∙ ap (λ (n : ℕ). grants past s f + n) (sum_by-cons one e [] ∙ omega arith)

-- ---- what is left of the leases

-- the reply grants a lease of a fragment that had none, and the lease is the last of the live ones
pub record IsGranted (past : List Entry) (st : State) (r : Reply) (next : State) : Type 0 where
  pub lease : LeaseRecord
  pub from : Kind
  pub told : r ≡ Granted lease from
  pub leases : next.leases ≡ st.leases ++ lease ∷ []
  pub none : lease_of st lease.stripe lease.fragment ≡ None
  pub epoch : lease.epoch ≡ grants past lease.stripe lease.fragment + 1
  pub expiry : lease.expiry ≡ st.clock + term

-- the reply grants nothing, and each live lease was live before
pub record GrantsNone (st : State) (r : Reply) (next : State) : Type 0 where
  pub none : (s : StripeNo) (f : Fragment) → is_grant s f r ≡ false
  pub fewer : (l : LeaseRecord) → Contains next.leases l → Contains st.leases l

abbrev pub Follows : List Entry → State → Outcome → Type 0
Follows past st o = IsGranted past st o.0 o.1 ⊎ GrantsNone st o.0 o.1

module _ (past : List Entry) (st : State) where
  -- nothing is granted and nothing changed
  same : (r : Reply) → ((s : StripeNo) (f : Fragment) → is_grant s f r ≡ false) → Follows past st (r, st)
  same r none = inr (record { none = none; fewer = λ l here. here })

  refused-follows : (met : Bool) (r : Refusal) (other : Outcome) → Follows past st other → Follows past st (refuse_if met r st other)
  refused-follows true r other next = same (Refused r) (λ s f. refl)
  refused-follows false r other next = next

-- ---- leases

module _ (nodes : List NodeInfo) (past : List Entry) (st : State) (session : SessionNo) (s : StripeNo) (f : Fragment) where
  granted-follows : lease_of st s f ≡ None → (o : Option Seat) → Follows past st (granted nodes past st session s f o)
  granted-follows none None = same past st _ (λ r g. refl)
  granted-follows none (Some seat) =
      inl (record { lease = new_lease past st session s f seat; from = kind nodes st s f; told = refl; leases = refl; none = none; epoch = refl; expiry = refl })

  leased-follows : (o : Option LeaseRecord) → lease_of st s f ≡ o → Follows past st (lease_answer nodes past st session s f o)
  leased-follows (Some l) e = same past st _ (λ r g. refl)
  leased-follows None e =
      refused-follows past st (not (needs nodes st s f)) refusal.NotNeeded _
      (refused-follows past st (is_beyond_repair nodes st s f) refusal.Unrecoverable _ (granted-follows e (chosen nodes st s f)))

  lease-follows : Follows past st (lease_outcome nodes past st session s f)
  unfolding lease_outcome
  lease-follows = refused-follows past st (not (has_stripe st s)) refusal.UnknownStripe _ (leased-follows (lease_of st s f) refl)

-- Next
module _ (nodes : List NodeInfo) (past : List Entry) (st : State) (session : SessionNo) where
  next-by : (o : Option StripeFragment) → Follows past st (next_answer nodes past st session o)
  next-by (Some p) = lease-follows nodes past st session p.0 p.1
  next-by None = same past st Idle (λ s f. refl)

  next-follows : Follows past st (next_outcome nodes past st session)
  unfolding next_outcome
  next-follows = next-by (next_of nodes st)

-- ---- commands that ask for no lease

none-granted : (c : Command) (r : Reply) → asks_for_lease c ≡ false → can_get c r ≡ true → (s : StripeNo) (f : Fragment) → is_grant s f r ≡ false
none-granted c (Granted l k) other can s f = absurd (let both : true ≡ false = sym can ∙ other in cc)
none-granted c _ other can s f = refl

module _ (st : State) where
  left : (keep : LeaseRecord → Bool) (l : LeaseRecord) → Contains (filter keep st.leases) l → Contains st.leases l
  left keep l here = (filter-member keep st.leases l here).0

  done-left : (s : StripeNo) (f : Fragment) (o : Option LeaseRecord) (l : LeaseRecord) → Contains (with_done st s f o).leases l → Contains st.leases l
  done-left s f None l here = here
  done-left s f (Some m) l here = left (λ k. not (is_of s f.value k)) l here

  none-new : (c : Command) (r : Reply) → asks_for_lease c ≡ false → (l : LeaseRecord) → Contains (changed_by st c r).leases l → Contains st.leases l
  none-new (Lease s f) r other l here = absurd (cc)
  none-new Next r other l here = absurd (cc)
  none-new (Drop s) Dropped other l here = left (λ k. is_other s k.stripe) l here
  none-new (Done s f e) Ended other l here = done-left s f (lease_of st s f) l here
  none-new (Abandon s f e) Ended other l here = left (λ k. not (is_of s f.value k)) l here
  none-new (Revoke s f) Ended other l here = left (λ k. not (is_of s f.value k)) l here
  none-new (Fail n) Changed other l here = left (λ k. not (hangs_on st n k)) l here
  none-new Tick (Ticked clock ended) other l here = left (λ k. not (ends_at (st.clock + 1) k)) l here
  none-new _ Idle other l here = here
  none-new _ _ other l here = here

other-follows : (nodes : List NodeInfo) (past : List Entry) (st : State) (session : SessionNo) (c : Command) → asks_for_lease c ≡ false
    → Follows past st (step nodes past st session c)
other-follows nodes past st session c other = inr (record {
  none = none-granted c (step nodes past st session c).0 other (step-gets nodes past st session c);
  fewer = λ l here. none-new st c (step nodes past st session c).0 other l
      (subst (λ (next : State). Contains next.leases l) (step-changed nodes past st session c) here);
})

-- Each command grants at most one lease, of a fragment that had none; all other live leases were live before.
pub step-follows : (nodes : List NodeInfo) (past : List Entry) (st : State) (session : SessionNo) (c : Command)
    → Follows past st (step nodes past st session c)
step-follows nodes past st session (Lease s f) = lease-follows nodes past st session s f
step-follows nodes past st session Next = next-follows nodes past st session
step-follows nodes past st session c = other-follows nodes past st session c refl
