-- What is so of a step that grants a lease, by whichever command it was asked for.
use Rattle.std.proofs.Common.{[], ◌≡◌, ℕ, ◌<◌, inl, inr, List, ◌∷◌, ◌++◌, length, sym, ap, ◌∙◌, subst}
use Rattle.lrc_code.specs.declared.numbers.SessionNo.{SessionNo}
use Rattle.lrc_topology.specs.declared.NodeInfo.{NodeInfo}
use Rattle.lrc_terms.specs.declared.lease.Lease.{Lease as LeaseRecord}
use Rattle.lrc_rules.specs.declared.kind.Kind.{Kind}
use Rattle.lrc_rules.specs.declared.command.Command.{Command}
use Rattle.lrc_rules.specs.declared.reply.Reply.TheVariants.{Granted}
use Rattle.lrc_rules.specs.declared.entry.Entry.{Entry}
use Rattle.lrc_store.specs.declared.store.Store.{Store}
use Rattle.lrc_rules.specs.States.{State}
use Rattle.lrc_rules.specs.Leases.{with_lease}
use Rattle.lrc_rules.specs.Changes.{changed_by}
use Rattle.lrc_rules.specs.Steps.{step}
use Rattle.lrc_rules.specs.Histories.{World, outcome_in, world_from, state_from}
use Rattle.lrc_store.specs.Stores.{IsOf, IsGrant, AreGrantsOf}
use Rattle.lrc_store.specs.declared.cursor.RepairCursor.{RepairCursor}
use Rattle.lrc_store.specs.Repairing.{IsRepairCursor}
use Rattle.lrc_book.specs.Kept.{IsKept}
use Rattle.lrc_rules.proofs.EarnedLemmas.{asked}
use Rattle.lrc_store.proofs.LeaseToldLemmas.{lease-told, next-told}
use Rattle.lrc_book.proofs.WorldLemmas.{kept_push}

module _ (nodes : List NodeInfo) (past : List Entry) (st : State) (session : SessionNo) (c : Command) (l : LeaseRecord) (k : Kind) (told : (step nodes past st session c).0 ≡ Granted l k) where
  pub granted-told : IsGrant nodes st l
  granted-told = elim (asked l k nodes past st session c told).0 [
    | inl is ↦ lease-told nodes past st session l.stripe l.fragment l k (subst (λ (d : Command). (step nodes past st session d).0 ≡ Granted l k) is told)
    | inr is ↦ next-told nodes past st session l k (subst (λ (d : Command). (step nodes past st session d).0 ≡ Granted l k) is told)
  ]

  pub granted-change : (was : State) → changed_by was c (Granted l k) ≡ with_lease was l
  granted-change was = elim (asked l k nodes past st session c told).0 [
    | inl is ↦ ap (λ (d : Command). changed_by was d (Granted l k)) is
    | inr is ↦ ap (λ (d : Command). changed_by was d (Granted l k)) is
  ]

-- a grant that is made and recorded keeps what is kept, where the new cursor is one of the state with the lease
pub kept-granted : (k next : Store) (counts counts_next : List ℕ) (cursor cursor_next : RepairCursor) (limit : ℕ) (base : World) (h : List Entry) (e : Entry) (l : LeaseRecord) (kind : Kind)
    → e.reply ≡ Granted l kind → IsKept k counts cursor limit base h → length h < limit → (outcome_in k.topology (world_from k.topology base h) e.session e.command).0 ≡ e.reply
    → next.topology ≡ k.topology → IsOf (with_lease (state_from k.topology base h) l) next → AreGrantsOf ((base.past ++ h) ++ e ∷ []) counts_next
    → IsRepairCursor k.topology (with_lease (state_from k.topology base h) l) cursor_next → IsKept next counts_next cursor_next limit base (h ++ e ∷ [])
kept-granted k next counts counts_next cursor cursor_next limit base h e l kind reply kept room told same now counted ahead =
    let w = world_from k.topology base h in
    let change : changed_by w.state e.command e.reply ≡ with_lease w.state l =
    ap (changed_by w.state e.command) reply ∙ granted-change k.topology w.past w.state e.session e.command l kind (told ∙ reply) w.state in
    kept_push k next counts counts_next cursor cursor_next limit base h e kept room told same
    (subst (λ (st : State). IsOf st next) (sym change) now) counted (subst (λ (st : State). IsRepairCursor k.topology st cursor_next) (sym change) ahead)
