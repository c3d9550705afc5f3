-- A lease is live for the ticks of its term.
use Rattle.std.proofs.Common.{[], ◌≡◌, ◌≢◌, ◌↔◌, ◌⊎◌, ℕ, ◌+◌, ◌<◌, inl, inr, Bool, true, false, cond, List, ◌∷◌, ◌++◌, fold, Some, refl, sym, ap, ◌∙◌, subst, arith}
use Rattle.std.specs.Prelude.{IsTrue}
use Rattle.std.proofs.lemmas.Bool.{cases_Bool, eqb-true}
use Rattle.std.proofs.lemmas.List.Elements.{All-contains}
use Rattle.std.proofs.lemmas.List.Sums.{fold-append}
use Rattle.lrc_code.specs.declared.numbers.SessionNo.{SessionNo}
use Rattle.lrc_topology.specs.declared.NodeInfo.{NodeInfo}
use Rattle.lrc_topology.specs.Nodes.{AreNodes}
use Rattle.lrc_terms.specs.declared.lease.Lease.{Lease as LeaseRecord}
use Rattle.lrc_terms.specs.Leased.{Leased, ends_at}
use Rattle.lrc_terms.proofs.LeaseLemmas.{is_of-own, leases_in-contains, leased_of-append}
use Rattle.lrc_rules.specs.declared.kind.Kind.{Kind}
use Rattle.lrc_rules.specs.declared.command.Command.{Command}
use Rattle.lrc_rules.specs.declared.command.Command.TheVariants.{Tick}
use Rattle.lrc_rules.specs.declared.reply.Reply.TheVariants.{Granted}
use Rattle.lrc_rules.specs.declared.entry.Entry.{Entry}
use Rattle.lrc_rules.specs.States.{State, lease_of}
use Rattle.lrc_rules.specs.Outcomes.{Outcome}
use Rattle.lrc_rules.specs.Leases.{is_grant, is_tick, ticks, term, tick_outcome}
use Rattle.lrc_rules.specs.Steps.{step}
use Rattle.lrc_rules.specs.Histories.{World, first_world, outcome_in, next_world, world_from, state_from, world_after, state_after, IsLegalFrom, IsLegal}
use Rattle.lrc_rules.specs.Endings.{CanEnd, IsRefusedIn, IsLeftAlone}
use Rattle.lrc_rules.proofs.StepLemmas.{refused-keeps}
use Rattle.lrc_rules.proofs.ClockLemmas.{tick-is, step-clock, other-clock, worlds-clock}
use Rattle.lrc_rules.proofs.EndingLemmas.{lease-lasts-by}
use Rattle.lrc_rules.proofs.LeaseCountLemmas.{Follows, step-follows}
use Rattle.lrc_rules.proofs.GoodLemmas.{IsGoodIn, opening-good, state_from-good}

-- ---- a grant

granted-same : (l m : LeaseRecord) (k j : Kind) → Granted l k ≡ Granted m j → l ≡ m
granted-same l m k j e = cc

-- the lease in the reply is live, and expires a term later
pub record IsFresh (st : State) (l : LeaseRecord) (o : Outcome) : Type 0 where
  pub live : lease_of o.1 l.stripe l.fragment ≡ Some l
  pub expiry : l.expiry ≡ st.clock + term

fresh-by : (past : List Entry) (st : State) (l : LeaseRecord) (k : Kind) (o : Outcome) → Follows past st o → o.0 ≡ Granted l k → IsFresh st l o
fresh-by past st l k o (inr none) told =
    absurd (let never : true ≡ false = sym (is_of-own l) ∙ sym (ap (is_grant l.stripe l.fragment) told) ∙ none.none l.stripe l.fragment in cc)
fresh-by past st l k o (inl grant) told =
    let same : grant.lease ≡ l = granted-same grant.lease l grant.from k (sym grant.told ∙ told) in
    subst (λ (m : LeaseRecord). IsFresh st m o) same
    (record {
      live = ap (λ (ls : List LeaseRecord). lease_of (record st { leases = ls }) grant.lease.stripe grant.lease.fragment) grant.leases
          ∙ ap (λ (t : Leased). t.leases grant.lease.stripe grant.lease.fragment.value) (leased_of-append st.leases grant.lease 0 grant.none) ∙ rw (is_of-own grant.lease) refl;
      expiry = grant.expiry;
    })

pub granted-fresh : (nodes : List NodeInfo) (past : List Entry) (st : State) (session : SessionNo) (c : Command) (l : LeaseRecord) (k : Kind)
    → (step nodes past st session c).0 ≡ Granted l k → IsFresh st l (step nodes past st session c)
granted-fresh nodes past st session c l k told = fresh-by past st l k (step nodes past st session c) (step-follows nodes past st session c) told

-- ---- the entries after the grant

module _ (nodes : List NodeInfo) (l : LeaseRecord) where
  abbrev IsLive : World → Type 0
  IsLive w = lease_of w.state l.stripe l.fragment ≡ Some l

  -- an entry that does not end the lease keeps it, if the clock does not reach its expiry
  step-lives : (w : World) (e : Entry) → IsTrue (is_tick e.command) ⊎ (¬ (CanEnd w.state l e.command)) ⊎ IsRefusedIn nodes w e
      → (next_world nodes w e).state.clock < l.expiry → IsLive w → IsLive (next_world nodes w e)
  step-lives w e (inr (inr late)) before live =
      subst (λ (st : State). lease_of st l.stripe l.fragment ≡ Some l) (sym (refused-keeps nodes w.past w.state e.session e.command late.0 late.1)) live
  step-lives w e (inr (inl other)) before live = lease-lasts-by w.state l.stripe l.fragment l live nodes w.past e.session e.command other
  step-lives w e (inl tick) before live =
      let moved = step-clock nodes w.past w.state e.session e.command in
      let other : ends_at (w.state.clock + 1) l ≢ true = λ hit. absurd (omega (arith, eqb-true l.expiry (w.state.clock + 1) hit, before, moved, ap (λ (b : Bool). cond {A = ℕ} b 1 0) tick)) in
      lease-lasts-by w.state l.stripe l.fragment l live nodes w.past e.session e.command
      (subst (λ (c : Command). ¬ (CanEnd w.state l c)) (sym (tick-is e.command tick)) other)

  lives : (w : World) (es : List Entry) → IsLeftAlone nodes l w es → (fold (next_world nodes) w es).state.clock < l.expiry → IsLive w
      → IsLive (fold (next_world nodes) w es)
  lives w [] alone before live = live
  lives w (e ∷ es) alone before live =
      let now = next_world nodes w e in
      lives now es alone.1 before (step-lives w e alone.0 (omega (arith, before, worlds-clock nodes now es)) live)

-- ---- histories

-- a lease that is live in a good world is live as long as the clock is below its expiry
pub live-from : (nodes : List NodeInfo) → AreNodes nodes → (base : World) → IsGoodIn nodes base → (es : List Entry) → IsLegalFrom nodes base es
    → (l : LeaseRecord) → lease_of base.state l.stripe l.fragment ≡ Some l → IsLeftAlone nodes l base es
    → (lease_of (state_from nodes base es) l.stripe l.fragment ≡ Some l) ↔ (base.state.clock + ticks es < l.expiry)
live-from nodes known base good es legal l live alone =
    let ok = state_from-good nodes known base es legal good in
    let now = state_from nodes base es in
    let moved = worlds-clock nodes base es in (
      (λ still.
          let here = leases_in-contains now.leases l.stripe l.fragment.value l still in
          let runs = All-contains (λ (m : LeaseRecord). now.clock < m.expiry) now.leases l ok.running here in
          omega (arith, moved, runs)),
      (λ few. lives nodes l base es alone (omega (arith, moved, few)) live),
    )

-- an entry of a legal history has the reply that the rules give
legal-at : (nodes : List NodeInfo) (w : World) (es : List Entry) (e : Entry) (fs : List Entry) → IsLegalFrom nodes w (es ++ e ∷ fs)
    → (outcome_in nodes (fold (next_world nodes) w es) e.session e.command).0 ≡ e.reply
legal-at nodes w [] e fs legal = legal.0
legal-at nodes w (x ∷ es) e fs legal = legal-at nodes (next_world nodes w x) es e fs legal.1

no-tick-grants : (nodes : List NodeInfo) (past : List Entry) (st : State) (session : SessionNo) (l : LeaseRecord) (k : Kind)
    → (step nodes past st session Tick).0 ≢ Granted l k
unfolding tick_outcome
no-tick-grants nodes past st session l k told = absurd (cc)

module _ (nodes : List NodeInfo) (known : AreNodes nodes) (base : World) (good : IsGoodIn nodes base) (history : List Entry) (e : Entry) (es : List Entry)
    (legal : IsLegalFrom nodes base (history ++ e ∷ es)) (l : LeaseRecord) (k : Kind) (told : e.reply ≡ Granted l k) where
  abbrev before : World
  before = world_from nodes base history

  abbrev after : World
  after = next_world nodes before e

  reply : (outcome_in nodes before e.session e.command).0 ≡ Granted l k
  reply = legal-at nodes base history e es legal ∙ told

  fresh : IsFresh before.state l (outcome_in nodes before e.session e.command)
  fresh = granted-fresh nodes before.past before.state e.session e.command l k reply

  no-tick : is_tick e.command ≡ false
  no-tick = elim (cases_Bool (is_tick e.command)) [
    | inr miss ↦ miss
    | inl hit ↦ absurd (no-tick-grants nodes before.past before.state e.session l k
        (subst (λ (c : Command). (step nodes before.past before.state e.session c).0 ≡ Granted l k) (tick-is e.command hit) reply))
  ]

  ended : world_from nodes base (history ++ e ∷ es) ≡ fold (next_world nodes) after es
  ended = fold-append (next_world nodes) base history (e ∷ es)

  -- the lease expires after its term less the ticks since the grant
  left : (state_from nodes base (history ++ e ∷ es)).clock + term ≡ l.expiry + ticks es
  left =
      let there = ap (λ (w : World). w.state.clock) ended in
      let moved = worlds-clock nodes after es in
      let own = other-clock nodes before.past before.state e.session e.command no-tick in
      let end = fresh.expiry in
      omega (arith, there, moved, own, end)

  pub live-since : IsLeftAlone nodes l (world_from nodes base (history ++ e ∷ [])) es
      → (lease_of (state_from nodes base (history ++ e ∷ es)) l.stripe l.fragment ≡ Some l) ↔ (ticks es < 3)
  live-since alone =
      let ok = state_from-good nodes known base (history ++ e ∷ es) legal good in
      let now = state_from nodes base (history ++ e ∷ es) in
      let own : IsLeftAlone nodes l after es = subst (λ (w : World). IsLeftAlone nodes l w es) (fold-append (next_world nodes) base history (e ∷ [])) alone in (
        (λ live.
            let here = leases_in-contains now.leases l.stripe l.fragment.value l live in
            let runs = All-contains (λ (m : LeaseRecord). now.clock < m.expiry) now.leases l ok.running here in
            omega (arith, left, runs)),
        (λ few.
            let clock = ap (λ (w : World). w.state.clock) ended in
            subst (λ (w : World). IsLive nodes l w) (sym ended)
            (lives nodes l after es own (omega (arith, left, clock, few)) fresh.live)),
      )

-- in a history from the start
pub live-in-term : (nodes : List NodeInfo) → AreNodes nodes → (history : List Entry) (e : Entry) (es : List Entry) → IsLegal nodes (history ++ e ∷ es)
    → (l : LeaseRecord) (k : Kind) → e.reply ≡ Granted l k → IsLeftAlone nodes l (world_after nodes (history ++ e ∷ [])) es
    → (lease_of (state_after nodes (history ++ e ∷ es)) l.stripe l.fragment ≡ Some l) ↔ (ticks es < 3)
live-in-term nodes known history e es legal l k told alone = live-since nodes known first_world (opening-good nodes) history e es legal l k told alone
