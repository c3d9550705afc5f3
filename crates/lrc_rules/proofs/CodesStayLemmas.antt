-- Only Place, Place6 and Drop of a stripe change its code.
use Rattle.std.proofs.Common.{[], ◌≡◌, ◌≢◌, Bool, true, false, ◌||◌, if◌then◌else◌, eqb, inl, inr, List, ◌∷◌, Option, Some, None, refl, sym, ap, ap₂, ◌∙◌, subst}
use Rattle.std.proofs.lemmas.Bool.{cases_Bool, eq-eqb, eqb-true, eqb-false, ne_eqb}
use Rattle.std.proofs.lemmas.List.Elements.{Contains-push}
use Rattle.std.proofs.lemmas.List.Folds.{list_any-append}
use Rattle.lrc_code.specs.declared.codes.Code.{Code}
use Rattle.lrc_code.specs.declared.codes.Code.TheVariants.{Wide, Narrow}
use Rattle.lrc_code.specs.declared.numbers.StripeNo.{StripeNo}
use Rattle.lrc_code.specs.declared.numbers.SessionNo.{SessionNo}
use Rattle.lrc_code.specs.declared.numbers.Fragment.{Fragment}
use Rattle.lrc_code.specs.Numbers.{same_stripe}
use Rattle.lrc_code.proofs.NumbersLemmas.{equal_stripes}
use Rattle.lrc_topology.specs.declared.NodeInfo.{NodeInfo}
use Rattle.lrc_topology.specs.declared.seat.Seat.{Seat}
use Rattle.lrc_terms.specs.declared.lease.Lease.{Lease as LeaseRecord}
use Rattle.lrc_rules.specs.declared.command.Command.{Command}
use Rattle.lrc_rules.specs.declared.command.Command.TheVariants.{Place, Place6, Drop, Done}
use Rattle.lrc_rules.specs.declared.reply.Reply.{Reply}
use Rattle.lrc_rules.specs.declared.reply.Reply.TheVariants.{Placed, Placed6, Dropped, Idle, Ended}
use Rattle.lrc_rules.specs.declared.entry.Entry.{Entry}
use Rattle.lrc_rules.specs.States.{State, has_stripe, code_of, code_shown, lease_of}
use Rattle.lrc_rules.specs.Changes.{with_placed, with_done, changed_by}
use Rattle.lrc_rules.specs.Outcomes.{Outcome}
use Rattle.lrc_rules.specs.Steps.{without_stripe, placed_reply, place_command, place_outcome, drop_outcome, step}
use Rattle.lrc_rules.proofs.MemberLemmas.{list_any-member}
use Rattle.lrc_rules.proofs.CodedLemmas.{code-own, code-other, code-without, narrow-left}
use Rattle.lrc_rules.proofs.StepLemmas.{place-step, place-there, place-left, step-changed}
use Rattle.lrc_rules.proofs.ThereLemmas.{there-dropped}

abbrev shown : Bool → Code → Option Code
shown there code = if there then Some code else None

-- right after it is placed
pub placed-code : (nodes : List NodeInfo) (past : List Entry) (st : State) (session : SessionNo) (code : Code) (s : StripeNo) (seats : List Seat)
    → (step nodes past st session (place_command code s)).0 ≡ placed_reply code seats
    → code_shown (step nodes past st session (place_command code s)).1 s ≡ Some code
placed-code nodes past st session code s seats told =
    let same = place-step nodes past st session code s in
    let left = ap (λ (o : Outcome). o.1) same ∙ place-left nodes st code s seats (sym (ap (λ (o : Outcome). o.0) same) ∙ told) in
    let there : has_stripe (with_placed st code s seats) s ≡ true = list_any-member (same_stripe s) _ s (Contains-push st.stripes s) (eq-eqb s.value s.value refl) in
    ap (λ (next : State). code_shown next s) left ∙ ap₂ shown there (code-own st code s)

module _ (st : State) (s : StripeNo) where
  abbrev Keeps : State → Type 0
  Keeps next = code_shown next s ≡ code_shown st s

  -- another stripe is placed
  other-placed : (code : Code) (r : StripeNo) (seats : List Seat) → r ≢ s → Keeps (with_placed st code r seats)
  other-placed code r seats other =
      let apart = ne_eqb r.value s.value (λ e. other (equal_stripes r s e)) in
      let turned = ne_eqb s.value r.value (λ e. other (equal_stripes r s (sym e))) in
      ap₂ shown (list_any-append (same_stripe s) st.stripes (r ∷ []) ∙ rw turned (or_none (has_stripe st s))) (code-other st code r s apart)
    where
      or_none : (b : Bool) → (b || false) ≡ b
      or_none true = refl
      or_none false = refl

  -- another stripe is dropped
  other-dropped : (r : StripeNo) → r ≢ s → Keeps (without_stripe st r)
  other-dropped r other =
      let apart = ne_eqb r.value s.value (λ e. other (equal_stripes r s e)) in
      ap₂ shown (narrow-left r s st.stripes ∙ rw apart refl) (code-without st r s ∙ ap (λ (b : Bool). if b then Wide else code_of st s) apart)

  done-kept : (r : StripeNo) (f : Fragment) (o : Option LeaseRecord) → Keeps (with_done st r f o)
  done-kept r f None = refl
  done-kept r f (Some l) = refl

  changed-kept : (c : Command) (r : Reply) → c ≢ Place s → c ≢ Place6 s → c ≢ Drop s → Keeps (changed_by st c r)
  changed-kept (Place t) (Placed seats) p q d = other-placed Wide t seats (λ e. p (ap Place e))
  changed-kept (Place6 t) (Placed6 seats) p q d = other-placed Narrow t seats (λ e. q (ap Place6 e))
  changed-kept (Drop t) Dropped p q d = other-dropped t (λ e. d (ap Drop e))
  changed-kept (Done t f e) Ended p q d = done-kept t f (lease_of st t f)
  changed-kept _ Idle p q d = refl
  changed-kept _ _ p q d = refl

module _ (nodes : List NodeInfo) (past : List Entry) (st : State) (session : SessionNo) (s : StripeNo) where
  -- every command except its Place, Place6 and Drop keeps its code
  pub other-code : (c : Command) → c ≢ Place s → c ≢ Place6 s → c ≢ Drop s → code_shown (step nodes past st session c).1 s ≡ code_shown st s
  other-code c p q d = ap (λ (next : State). code_shown next s) (step-changed nodes past st session c) ∙ changed-kept st s c (step nodes past st session c).0 p q d

  same_shown : (was st : State) → has_stripe was s ≡ true → has_stripe st s ≡ true → code_shown st s ≡ code_shown was s → code_of st s ≡ code_of was s
  same_shown was st before there e = let same : Some (code_of st s) ≡ Some (code_of was s) = rw (there, before) at e in cc

  abbrev Stays : Command → Type 0
  Stays c = has_stripe st s ≡ true → has_stripe (step nodes past st session c).1 s ≡ true → code_of (step nodes past st session c).1 s ≡ code_of st s

  by-other : (c : Command) → c ≢ Place s → c ≢ Place6 s → c ≢ Drop s → Stays c
  by-other c p q d before after = same_shown st (step nodes past st session c).1 before after (other-code c p q d)

  -- a stripe of the store is not placed again
  by-place : (code : Code) → has_stripe st s ≡ true → code_of (place_outcome nodes st code s).1 s ≡ code_of st s
  by-place code before = ap (λ (o : Outcome). code_of o.1 s) (place-there nodes st code s before)

  -- a stripe that was dropped is not in the store
  by-drop : has_stripe st s ≡ true → has_stripe (drop_outcome st s).1 s ≡ true → ⊥
  by-drop before after =
      let gone : has_stripe (without_stripe st s) s ≡ false = narrow-left s s st.stripes ∙ rw (eq-eqb s.value s.value refl) refl in
      let both : true ≡ false = sym after ∙ ap (λ (o : Outcome). has_stripe o.1 s) (there-dropped st s before) ∙ gone in cc

  equal-by : (t : StripeNo) → eqb t.value s.value ≡ true → t ≡ s
  equal-by t same = equal_stripes t s (eqb-true t.value s.value same)

  apart-by : (t : StripeNo) → eqb t.value s.value ≡ false → t ≢ s
  apart-by t other same = eqb-false t.value s.value other (ap (λ (x : StripeNo). x.value) same)

  -- no command changes the code of a stripe that stays
  pub code-stays : (c : Command) → Stays c
  code-stays (Place t) before after = elim (cases_Bool (eqb t.value s.value)) [
    | inl same ↦ subst (λ (r : StripeNo). code_of (place_outcome nodes st Wide r).1 s ≡ code_of st s) (sym (equal-by t same)) (by-place Wide before)
    | inr other ↦ by-other (Place t) (λ e. apart-by t other (let same : t ≡ s = cc in same)) (λ e. cc) (λ e. cc) before after
  ]
  code-stays (Place6 t) before after = elim (cases_Bool (eqb t.value s.value)) [
    | inl same ↦ subst (λ (r : StripeNo). code_of (place_outcome nodes st Narrow r).1 s ≡ code_of st s) (sym (equal-by t same)) (by-place Narrow before)
    | inr other ↦ by-other (Place6 t) (λ e. cc) (λ e. apart-by t other (let same : t ≡ s = cc in same)) (λ e. cc) before after
  ]
  code-stays (Drop t) before after = elim (cases_Bool (eqb t.value s.value)) [
    | inl same ↦ absurd (by-drop before (subst (λ (r : StripeNo). has_stripe (drop_outcome st r).1 s ≡ true) (equal-by t same) after))
    | inr other ↦ by-other (Drop t) (λ e. cc) (λ e. cc) (λ e. apart-by t other (let same : t ≡ s = cc in same)) before after
  ]
  code-stays c before after = by-other c (λ e. cc) (λ e. cc) (λ e. cc) before after
