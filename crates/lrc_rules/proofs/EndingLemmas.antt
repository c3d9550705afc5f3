-- A live lease stays live after each command that cannot end it.
use Rattle.std.proofs.Common.{[], ◌+◌, ◌≡◌, ◌≢◌, inl, inr, Bool, true, not, List, ◌∷◌, filter, find, Option, Some, None, sym, ap, ◌∙◌, subst}
use Rattle.std.specs.Option.{option_or}
use Rattle.std.proofs.lemmas.Bool.{cases_Bool, ne_eqb}
use Rattle.std.proofs.lemmas.Option.{same_Some}
use Rattle.std.proofs.lemmas.List.Folds.{find-append}
use Rattle.lrc_code.specs.declared.numbers.StripeNo.{StripeNo}
use Rattle.lrc_code.specs.declared.numbers.SessionNo.{SessionNo}
use Rattle.lrc_code.specs.declared.numbers.Fragment.{Fragment}
use Rattle.lrc_code.proofs.NumbersLemmas.{equal_stripes, equal_fragments}
use Rattle.lrc_topology.specs.declared.NodeInfo.{NodeInfo}
use Rattle.lrc_terms.specs.declared.lease.Lease.{Lease as LeaseRecord}
use Rattle.lrc_terms.specs.Leased.{is_of, ends_at}
use Rattle.lrc_terms.proofs.LeaseLemmas.{is_of-parts}
use Rattle.lrc_rules.specs.declared.command.Command.{Command}
use Rattle.lrc_rules.specs.declared.command.Command.TheVariants.{Drop, Lease, Next, Done, Abandon, Revoke, Fail, Tick}
use Rattle.lrc_rules.specs.declared.reply.Reply.{Reply}
use Rattle.lrc_rules.specs.declared.reply.Reply.TheVariants.{Dropped, Granted, Idle, Ended, Changed, Ticked}
use Rattle.lrc_rules.specs.declared.entry.Entry.{Entry}
use Rattle.lrc_rules.specs.States.{State, lease_of}
use Rattle.lrc_rules.specs.Leases.{with_lease, without_lease}
use Rattle.lrc_rules.specs.Steps.{is_other, hangs_on, step}
use Rattle.lrc_rules.specs.Changes.{with_done, changed_by}
use Rattle.lrc_rules.specs.Endings.{CanEnd}
use Rattle.lrc_rules.proofs.StepLemmas.{step-changed}

-- the first element that passes is also the first after a filter, if the filter keeps it
pub find-filter : {X : Type 0} (p keep : X → Bool) (xs : List X) (x : X) → find p xs ≡ Some x → keep x ≡ true → find p (filter keep xs) ≡ Some x
find-filter p keep [] x e kept = e
find-filter {X} p keep (y ∷ ys) x e kept = elim (cases_Bool (p y)) [
  | inl hit ↦
      let same : Some y ≡ Some x = rw hit at e in
      let own : keep y ≡ true = ap keep (same_Some y x same) ∙ kept in
      rw own (rw hit same)
  | inr miss ↦
      let later : find p ys ≡ Some x = rw miss at e in
      elim (cases_Bool (keep y)) [
        | inl stays ↦ rw stays (rw miss (find-filter p keep ys x later kept))
        | inr goes ↦ rw goes (find-filter p keep ys x later kept)
      ]
]

pub not-true : (b : Bool) → b ≢ true → not b ≡ true
not-true b other = elim (cases_Bool b) [ inl hit ↦ absurd (other hit) | inr miss ↦ ap not miss ]

module _ (st : State) (s : StripeNo) (f : Fragment) (l : LeaseRecord) (live : lease_of st s f ≡ Some l) where
  abbrev Lasts : State → Type 0
  Lasts next = lease_of next s f ≡ Some l

  kept-lasts : (keep : LeaseRecord → Bool) → keep l ≡ true → find (is_of s f.value) (filter keep st.leases) ≡ Some l
  kept-lasts keep stays = find-filter (is_of s f.value) keep st.leases l live stays

  grown-lasts : (m : LeaseRecord) → Lasts (with_lease st m)
  grown-lasts m =
      find-append (is_of s f.value) st.leases (m ∷ [])
      ∙ ap (λ (o : Option LeaseRecord). option_or o (find (is_of s f.value) (m ∷ []))) live

  other-stripe : (r : StripeNo) → l.stripe ≢ r → is_other r l.stripe ≡ true
  other-stripe r other = ap not (ne_eqb r.value l.stripe.value (λ same. other (sym (equal_stripes r l.stripe same))))

  other-fragment : (r : StripeNo) (g : Fragment) → ¬ ((l.stripe ≡ r) × (l.fragment ≡ g)) → not (is_of r g.value l) ≡ true
  other-fragment r g other = not-true (is_of r g.value l) (λ own.
      let parts = is_of-parts r g.value l own in other (equal_stripes l.stripe r parts.0, equal_fragments l.fragment g parts.1))

  ended-lasts : (r : StripeNo) (g : Fragment) → ¬ ((l.stripe ≡ r) × (l.fragment ≡ g)) → Lasts (without_lease st r g)
  ended-lasts r g other = kept-lasts (λ k. not (is_of r g.value k)) (other-fragment r g other)

  done-lasts : (r : StripeNo) (g : Fragment) → ¬ ((l.stripe ≡ r) × (l.fragment ≡ g)) → (o : Option LeaseRecord) → Lasts (with_done st r g o)
  done-lasts r g other None = live
  done-lasts r g other (Some m) = ended-lasts r g other

  changed-lasts : (c : Command) (r : Reply) → ¬ (CanEnd st l c) → Lasts (changed_by st c r)
  changed-lasts (Drop r) Dropped other = kept-lasts (λ k. is_other r k.stripe) (other-stripe r other)
  changed-lasts (Lease r g) (Granted m k) other = grown-lasts m
  changed-lasts Next (Granted m k) other = grown-lasts m
  changed-lasts (Done r g e) Ended other = done-lasts r g other (lease_of st r g)
  changed-lasts (Abandon r g e) Ended other = ended-lasts r g other
  changed-lasts (Revoke r g) Ended other = ended-lasts r g other
  changed-lasts (Fail n) Changed other = kept-lasts (λ k. not (hangs_on st n k)) (not-true (hangs_on st n l) other)
  changed-lasts Tick (Ticked clock ended) other = kept-lasts (λ k. not (ends_at (st.clock + 1) k)) (not-true (ends_at (st.clock + 1) l) other)
  changed-lasts _ Idle other = live
  changed-lasts _ _ other = live

  -- a live lease stays live after each command that cannot end it
  pub lease-lasts-by : (nodes : List NodeInfo) (past : List Entry) (session : SessionNo) (c : Command) → ¬ (CanEnd st l c) → Lasts (step nodes past st session c).1
  lease-lasts-by nodes past session c other =
      subst Lasts (sym (step-changed nodes past st session c)) (changed-lasts c (step nodes past st session c).0 other)
