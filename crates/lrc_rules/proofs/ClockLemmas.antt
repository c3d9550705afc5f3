-- The clock is the number of ticks, so it is at most the number of entries.
use Rattle.std.proofs.Common.{[], ◌≡◌, ◌+◌, inl, inr, true, false, cond, List, ◌∷◌, fold, Option, Some, None, refl, sym, ap, ◌∙◌, subst, arith}
use Rattle.std.proofs.lemmas.Bool.{cases_Bool}
use Rattle.std.proofs.lemmas.List.Sums.{sum_by-cons}
use Rattle.lrc_code.specs.declared.numbers.StripeNo.{StripeNo}
use Rattle.lrc_code.specs.declared.numbers.SessionNo.{SessionNo}
use Rattle.lrc_code.specs.declared.numbers.Fragment.{Fragment}
use Rattle.lrc_topology.specs.declared.NodeInfo.{NodeInfo}
use Rattle.lrc_terms.specs.declared.lease.Lease.{Lease as LeaseRecord}
use Rattle.lrc_rules.specs.declared.command.Command.{Command}
use Rattle.lrc_rules.specs.declared.command.Command.TheVariants.{Done, Tick}
use Rattle.lrc_rules.specs.declared.reply.Reply.{Reply}
use Rattle.lrc_rules.specs.declared.reply.Reply.TheVariants.{Idle, Ended}
use Rattle.lrc_rules.specs.declared.entry.Entry.{Entry}
use Rattle.lrc_rules.specs.States.{State, lease_of}
use Rattle.lrc_rules.specs.Leases.{is_tick, ticks, tick_outcome}
use Rattle.lrc_rules.specs.Changes.{changed_by, with_done}
use Rattle.lrc_rules.specs.Steps.{step}
use Rattle.lrc_rules.specs.Histories.{World, first_world, next_world, state_after}
use Rattle.lrc_rules.proofs.StepLemmas.{step-changed}

-- ---- one step

done-clock : (st : State) (s : StripeNo) (f : Fragment) (o : Option LeaseRecord) → (with_done st s f o).clock ≡ st.clock
done-clock st s f None = refl
done-clock st s f (Some l) = refl

-- only a tick changes the clock
changed-clock : (st : State) (c : Command) (r : Reply) → is_tick c ≡ false → (changed_by st c r).clock ≡ st.clock
changed-clock st (Done s f e) Ended other = done-clock st s f (lease_of st s f)
changed-clock st Tick r other = absurd (cc)
changed-clock st _ Idle other = refl
changed-clock st _ _ other = refl

pub tick-is : (c : Command) → is_tick c ≡ true → c ≡ Tick
tick-is Tick hit = refl
tick-is _ hit = absurd (cc)

pub tick-clock : (st : State) → (tick_outcome st).1.clock ≡ st.clock + 1
unfolding tick_outcome
tick-clock st = refl

module _ (nodes : List NodeInfo) (past : List Entry) (st : State) (session : SessionNo) where
  pub other-clock : (c : Command) → is_tick c ≡ false → (step nodes past st session c).1.clock ≡ st.clock
  other-clock c other =
      ap (λ (next : State). next.clock) (step-changed nodes past st session c) ∙ changed-clock st c (step nodes past st session c).0 other

  pub step-clock : (c : Command) → (step nodes past st session c).1.clock ≡ st.clock + cond (is_tick c) 1 0
  step-clock c = elim (cases_Bool (is_tick c)) [
    | inl hit ↦ subst (λ (d : Command). (step nodes past st session d).1.clock ≡ st.clock + cond (is_tick d) 1 0) (sym (tick-is c hit)) (tick-clock st)
    | inr miss ↦ rw miss (omega (arith, other-clock c miss))
  ]

-- ---- histories

pub worlds-clock : (nodes : List NodeInfo) (w : World) (h : List Entry) → (fold (next_world nodes) w h).state.clock ≡ w.state.clock + ticks h
worlds-clock nodes w [] = omega arith
worlds-clock nodes w (e ∷ es) =
    let more = sum_by-cons (λ (x : Entry). cond (is_tick x.command) 1 0) e es in
    omega (arith, more, worlds-clock nodes (next_world nodes w e) es, step-clock nodes w.past w.state e.session e.command)

-- the clock after a history is the number of ticks in it
pub ticks-counted : (nodes : List NodeInfo) (h : List Entry) → (state_after nodes h).clock ≡ ticks h
ticks-counted nodes h = let counted = worlds-clock nodes first_world h in omega (arith, counted)
