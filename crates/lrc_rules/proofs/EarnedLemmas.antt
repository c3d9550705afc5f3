-- Each live lease was granted to its holder.
use Rattle.std.proofs.Common.{[], ◌≡◌, ◌⊎◌, inl, inr, true, List, ◌∷◌, Option, Some, None, refl, sym, ap, ◌∙◌, subst}
use Rattle.std.specs.List.{Contains}
use Rattle.std.proofs.lemmas.List.Elements.{Contains-push_cases}
use Rattle.lrc_code.specs.declared.numbers.SessionNo.{SessionNo}
use Rattle.lrc_topology.specs.declared.NodeInfo.{NodeInfo}
use Rattle.lrc_terms.specs.declared.lease.Lease.{Lease as LeaseRecord}
use Rattle.lrc_rules.specs.declared.kind.Kind.{Kind}
use Rattle.lrc_rules.specs.declared.command.Command.{Command}
use Rattle.lrc_rules.specs.declared.command.Command.TheVariants.{Lease, Next}
use Rattle.lrc_rules.specs.declared.reply.Reply.{Reply}
use Rattle.lrc_rules.specs.declared.reply.Reply.TheVariants.{Granted, Idle}
use Rattle.lrc_rules.specs.declared.entry.Entry.{Entry}
use Rattle.lrc_rules.specs.States.{State}
use Rattle.lrc_rules.specs.Urgency.{next_of}
use Rattle.lrc_rules.specs.Granting.{AsksFor}
use Rattle.lrc_terms.specs.Stripes.{StripeFragment}
use Rattle.lrc_rules.specs.Leases.{next_answer, next_outcome}
use Rattle.lrc_rules.specs.Steps.{step}
use Rattle.lrc_rules.specs.Changes.{asks_for_lease, can_get}
use Rattle.lrc_rules.specs.Histories.{World, first_world, outcome_in, next_world, state_from, state_after, IsLegalFrom, IsLegal}
use Rattle.lrc_rules.proofs.MemberLemmas.{not-Contains-nil, Contains-here, Contains-later}
use Rattle.lrc_rules.proofs.LeaseLawLemmas.{lease-new}
use Rattle.lrc_rules.proofs.ReplyLemmas.{step-gets}
use Rattle.lrc_rules.proofs.LeaseCountLemmas.{step-follows}

-- ---- only Lease and Next grant

module _ (l : LeaseRecord) (k : Kind) where
  -- the entry in which the holder asked by this command and got the lease
  abbrev grant_of : Command → Entry
  grant_of c = record { session = l.holder; command = c; reply = Granted l k }

  no-idle : Idle ≡ Granted l k → ⊥
  no-idle e = cc

  next-by : (nodes : List NodeInfo) (past : List Entry) (st : State) (session : SessionNo) (o : Option StripeFragment)
      → (next_answer nodes past st session o).0 ≡ Granted l k → session ≡ l.holder
  next-by nodes past st session (Some p) e = sym (ap (λ (x : LeaseRecord). x.holder) (lease-new nodes past st session p.0 p.1 l k e).own)
  next-by nodes past st session None e = absurd (no-idle e)

  next-asked : (nodes : List NodeInfo) (past : List Entry) (st : State) (session : SessionNo) → (next_outcome nodes past st session).0 ≡ Granted l k
      → session ≡ l.holder
  unfolding next_outcome
  next-asked nodes past st session e = next-by nodes past st session (next_of nodes st) e

  -- a lease is granted to the session that asks, by Lease or by Next
  pub asked : (nodes : List NodeInfo) (past : List Entry) (st : State) (session : SessionNo) (c : Command)
      → (step nodes past st session c).0 ≡ Granted l k → AsksFor l c × (session ≡ l.holder)
  asked nodes past st session (Lease s f) e =
      let new = lease-new nodes past st session s f l k e in
      (inl (sym (ap (λ (x : LeaseRecord). Lease x.stripe x.fragment) new.own)), sym (ap (λ (x : LeaseRecord). x.holder) new.own))
  asked nodes past st session Next e = (inr refl, next-asked nodes past st session e)
  asked nodes past st session c e =
      absurd (let asks : asks_for_lease c ≡ true = subst (λ (r : Reply). can_get c r ≡ true) e (step-gets nodes past st session c) in cc)

  entry-is : (nodes : List NodeInfo) (w : World) (x : Entry) → (outcome_in nodes w x.session x.command).0 ≡ x.reply → x.reply ≡ Granted l k
      → AsksFor l x.command × (x ≡ grant_of x.command)
  entry-is nodes w x told reply =
      let parts = asked nodes w.past w.state x.session x.command (told ∙ reply) in (
        parts.0,
        ap (λ (a : SessionNo). record { session = a; command = x.command; reply = x.reply }) parts.1
            ∙ ap (λ (r : Reply). record { session = l.holder; command = x.command; reply = r }) reply,
      )

-- ---- histories

-- the lease was granted in one of the entries
abbrev Earned : List Entry → LeaseRecord → Type 0
Earned history l = (c : Command) × (k : Kind) × AsksFor l c × Contains history (grant_of l k c)

-- a lease that is live after an entry was live before it, or is granted by it
first-earned : (nodes : List NodeInfo) (w : World) (x : Entry) (xs : List Entry) (l : LeaseRecord) → (outcome_in nodes w x.session x.command).0 ≡ x.reply
    → Contains (next_world nodes w x).state.leases l → Contains w.state.leases l ⊎ Earned (x ∷ xs) l
first-earned nodes w x xs l told here = elim (step-follows nodes w.past w.state x.session x.command) [
  | inr none ↦ inl (none.fewer l here)
  | inl grant ↦ elim (Contains-push_cases w.state.leases grant.lease l (subst (λ (ls : List LeaseRecord). Contains ls l) grant.leases here)) [
    | inl before ↦ inl before
    | inr new ↦
        let reply = sym told ∙ grant.told ∙ ap (λ (m : LeaseRecord). Granted m grant.from) new in
        let own = entry-is l grant.from nodes w x told reply in
        inr (x.command, grant.from, own.0, subst (Contains (x ∷ xs)) own.1 (Contains-here x xs))
  ]
]

-- a lease that is live after a history was live before it, or is granted in it
pub earned-since : (nodes : List NodeInfo) (w : World) (history : List Entry) → IsLegalFrom nodes w history → (l : LeaseRecord)
    → Contains (state_from nodes w history).leases l → Contains w.state.leases l ⊎ Earned history l
earned-since nodes w [] legal l here = inl here
earned-since nodes w (x ∷ xs) legal l here = elim (earned-since nodes (next_world nodes w x) xs legal.1 l here) [
  | inl there ↦ first-earned nodes w x xs l legal.0 there
  | inr later ↦ inr (later.0, later.1, later.2, Contains-later x (grant_of l later.1 later.0) xs later.3)
]

-- after a legal history from the start each live lease was granted in it to its holder
pub history-earned : (nodes : List NodeInfo) (history : List Entry) → IsLegal nodes history → (l : LeaseRecord)
    → Contains (state_after nodes history).leases l → Earned history l
history-earned nodes history legal l here = elim (earned-since nodes first_world history legal l here) [
  | inl before ↦ absurd (not-Contains-nil l before)
  | inr earned ↦ earned
]
