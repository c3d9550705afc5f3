-- At most one Done of each epoch of a fragment is accepted, in a legal history from any good world.
use Rattle.std.proofs.Common.{[], ◌≡◌, ◌≢◌, ◌⊎◌, ℕ, ◌+◌, ◌≤◌, inl, inr, Bool, true, ◌&&◌, cond, List, ◌∷◌, refl, sym, ap, ◌∙◌, subst, arith, None}
use Rattle.std.specs.List.{Contains}
use Rattle.std.proofs.lemmas.Bool.{cases_Bool, true≢false, eqb-true, and_parts}
use Rattle.std.proofs.lemmas.List.Elements.{Contains-push_cases}
use Rattle.std.proofs.lemmas.List.Sums.{sum_by-cons}
use Rattle.lrc_code.specs.declared.numbers.StripeNo.{StripeNo}
use Rattle.lrc_code.specs.declared.numbers.Fragment.{Fragment}
use Rattle.lrc_code.proofs.NumbersLemmas.{equal_stripes, equal_fragments}
use Rattle.lrc_topology.specs.declared.NodeInfo.{NodeInfo}
use Rattle.lrc_topology.specs.Nodes.{AreNodes}
use Rattle.lrc_terms.specs.declared.lease.Lease.{Lease as LeaseRecord}
use Rattle.lrc_terms.specs.Leased.{is_of}
use Rattle.lrc_terms.proofs.LeaseLemmas.{is_of-parts, find-some, find-none}
use Rattle.lrc_rules.specs.declared.command.Command.{Command}
use Rattle.lrc_rules.specs.declared.command.Command.TheVariants.{Done}
use Rattle.lrc_rules.specs.declared.reply.Reply.{Reply}
use Rattle.lrc_rules.specs.declared.reply.Reply.TheVariants.{Ended}
use Rattle.lrc_rules.specs.declared.entry.Entry.{Entry}
use Rattle.lrc_rules.specs.States.{lease_of}
use Rattle.lrc_rules.specs.Leases.{grants, done_outcome, is_report, is_ended, reports_taken}
use Rattle.lrc_rules.specs.Reporting.{IsReported}
use Rattle.lrc_rules.specs.Steps.{step}
use Rattle.lrc_rules.specs.Histories.{World, first_world, outcome_in, next_world, IsLegalFrom, IsLegal}
use Rattle.lrc_rules.proofs.GoodLemmas.{IsGoodIn, opening-good, next-good}
use Rattle.lrc_rules.proofs.LeaseCountLemmas.{grants-push, step-follows}
use Rattle.lrc_rules.proofs.LeaseLawLemmas.{live-epoch}
use Rattle.lrc_rules.proofs.MovedLemmas.{moved-lease}
use Rattle.lrc_rules.proofs.ReportedLemmas.{done-told}

-- ---- accepted Done commands

report-is : (s : StripeNo) (f : Fragment) (e : ℕ) (c : Command) → is_report s f e c ≡ true → c ≡ Done s f e
report-is s f e (Done t g d) hit =
    let parts = and_parts _ _ hit in
    let pair = and_parts _ _ parts.0 in
    ap (λ (r : StripeNo). Done r g d) (equal_stripes t s (eqb-true _ _ pair.0)) ∙ ap (λ (h : Fragment). Done s h d)
    (equal_fragments g f (eqb-true _ _ pair.1)) ∙ ap (Done s f) (eqb-true _ _ parts.1)
report-is s f e _ hit = absurd (cc)

ended-is : (r : Reply) → is_ended r ≡ true → r ≡ Ended
ended-is Ended hit = refl
ended-is _ hit = absurd (cc)

module _ (nodes : List NodeInfo) (s : StripeNo) (f : Fragment) (e : ℕ) where
  -- the entry is an accepted Done of the fragment with this epoch
  abbrev is_taken_report : Entry → Bool
  is_taken_report x = is_report s f e x.command && is_ended x.reply

  reports-cons : (x : Entry) (xs : List Entry) → reports_taken (x ∷ xs) s f e ≡ cond (is_taken_report x) 1 0 + reports_taken xs s f e
  reports-cons x xs = sum_by-cons (λ (y : Entry). cond (is_taken_report y) 1 0) x xs

  -- the epoch was granted, and no live lease of the fragment has it
  record IsOver (w : World) : Type 0 where
    pub granted : e ≤ grants w.past s f
    pub none : (l : LeaseRecord) → Contains w.state.leases l → is_of s f.value l ≡ true → l.epoch ≢ e

  -- later grants have other epochs
  next-over : (w : World) (x : Entry) → IsOver w → IsOver (next_world nodes w x)
  next-over w x over = record {
    granted = let push = grants-push w.past x s f in let low = over.granted in omega (arith, low, push);
    none = λ l here own. elim (step-follows nodes w.past w.state x.session x.command) [
      | inr same ↦ over.none l (same.fewer l here) own
      | inl grant ↦ elim (Contains-push_cases w.state.leases grant.lease l (subst (λ (ls : List LeaseRecord). Contains ls l) grant.leases here)) [
        | inl old ↦ over.none l old own
        | inr new ↦ λ same.
            let parts = is_of-parts s f.value l own in
            let epoch : l.epoch ≡ grants w.past l.stripe l.fragment + 1 = subst
            (λ (k : LeaseRecord). k.epoch ≡ grants w.past k.stripe k.fragment + 1) new grant.epoch in
            let pair : grants w.past l.stripe l.fragment ≡ grants w.past s f =
            ap (λ (r : StripeNo). grants w.past r l.fragment) (equal_stripes l.stripe s parts.0) ∙ ap (grants w.past s)
            (equal_fragments l.fragment f parts.1) in
            let low = over.granted in absurd (omega (arith, low, epoch, pair, same))
      ]
    ];
  }

  module _ (w : World) (x : Entry) (told : (outcome_in nodes w x.session x.command).0 ≡ x.reply) (hit : is_taken_report x ≡ true) where
    command-is : x.command ≡ Done s f e
    command-is = report-is s f e x.command (and_parts (is_report s f e x.command) (is_ended x.reply) hit).0

    done-ended : (done_outcome nodes w.state x.session s f e).0 ≡ Ended
    done-ended =
        subst (λ (c : Command). (step nodes w.past w.state x.session c).0 ≡ Ended) command-is
        (told ∙ ended-is x.reply (and_parts (is_report s f e x.command) (is_ended x.reply) hit).1)

    -- an accepted Done names the live lease of the fragment,
    taken-lease : (l : LeaseRecord) × IsReported w.state s f e l
    taken-lease = let says = done-told nodes w.state x.session s f e Ended done-ended in (says.0, says.1)

    -- which is over then
    taken-over : IsGoodIn nodes w → IsOver (next_world nodes w x)
    taken-over good =
        let l = taken-lease.0 in
        let own = taken-lease.1 in
        let none = subst (λ (c : Command). lease_of (step nodes w.past w.state x.session c).1 s f ≡ None) (sym command-is)
        (moved-lease nodes w.state x.session s f e l own.live done-ended) in
        record {
          granted =
              let last = live-epoch nodes w.past w.state s f l good own.live in
              let epoch = own.epoch in let push = grants-push w.past x s f in omega (arith, last, epoch, push);
          none = λ k here is same. true≢false (sym is ∙ find-none (is_of s f.value) (next_world nodes w x).state.leases k none here);
        }

  none-later : (w : World) (history : List Entry) → IsLegalFrom nodes w history → IsOver w → reports_taken history s f e ≡ 0
  none-later w [] legal over = refl
  none-later w (x ∷ xs) legal over = elim (cases_Bool (is_taken_report x)) [
    | inl hit ↦
        let l = taken-lease w x legal.0 hit in
        let found = find-some (is_of s f.value) w.state.leases l.0 l.1.live in absurd (over.none l.0 found.0 found.1 l.1.epoch)
    | inr miss ↦
        let parts = reports-cons x xs in
        let own : ◌≡◌ {A = ℕ} (cond (is_taken_report x) 1 0) 0 = rw miss refl in
        let rest = none-later (next_world nodes w x) xs legal.1 (next-over w x over) in omega (arith, parts, own, rest)
  ]

  -- of the entries of the history, at most one is an accepted Done with this epoch
  pub most-reports : AreNodes nodes → (w : World) (history : List Entry) → IsLegalFrom nodes w history → IsGoodIn nodes w
      → reports_taken history s f e ≤ 1
  most-reports known w [] legal good = omega arith
  most-reports known w (x ∷ xs) legal good =
      let parts = reports-cons x xs in elim (cases_Bool (is_taken_report x)) [
        | inl hit ↦
            let own : ◌≡◌ {A = ℕ} (cond (is_taken_report x) 1 0) 1 = rw hit refl in
            let rest = none-later (next_world nodes w x) xs legal.1 (taken-over w x legal.0 hit good) in omega (arith, parts, own, rest)
        | inr miss ↦
            let own : ◌≡◌ {A = ℕ} (cond (is_taken_report x) 1 0) 0 = rw miss refl in
            let rest = most-reports known (next_world nodes w x) xs legal.1 (next-good nodes known w x legal.0 good) in
            omega (arith, parts, own, rest)
      ]

  -- and so of those of a legal history from the start
  pub one_report : AreNodes nodes → (history : List Entry) → IsLegal nodes history → reports_taken history s f e ≤ 1
  one_report known history legal = most-reports known first_world history legal (opening-good nodes)
