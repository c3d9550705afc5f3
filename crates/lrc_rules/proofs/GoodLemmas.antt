-- After each legal history the state is good.
use Rattle.std.proofs.Common.{[], ◌≡◌, ◌≢◌, ℕ, ◌+◌, ◌<◌, ◌≤◌, inl, inr, Bool, true, false, not, cond, List, ◌∷◌, ◌++◌, None, sym, ap, ◌∙◌, subst, append_assoc, append-nil, arith}
use Rattle.std.specs.List.{All, Contains}
use Rattle.std.proofs.lemmas.Bool.{cases_Bool, eq-eqb}
use Rattle.std.proofs.lemmas.List.Elements.{All-nil, All-contains, Contains-push_cases}
use Rattle.lrc_code.specs.declared.numbers.StripeNo.{StripeNo}
use Rattle.lrc_code.specs.declared.numbers.SessionNo.{SessionNo}
use Rattle.lrc_code.specs.declared.numbers.Fragment.{Fragment}
use Rattle.lrc_topology.specs.declared.NodeInfo.{NodeInfo}
use Rattle.lrc_topology.specs.Nodes.{AreNodes}
use Rattle.lrc_terms.specs.declared.lease.Lease.{Lease}
use Rattle.lrc_terms.specs.Leased.{is_of, ends_at}
use Rattle.lrc_terms.proofs.LeaseLemmas.{is_of-own, is_of-parts, is_of-from, find-none}
use Rattle.lrc_rules.specs.declared.command.Command.{Command}
use Rattle.lrc_rules.specs.declared.reply.Reply.{Reply}
use Rattle.lrc_rules.specs.declared.reply.Reply.TheVariants.{Granted}
use Rattle.lrc_rules.specs.declared.entry.Entry.{Entry}
use Rattle.lrc_rules.specs.States.{State, opening, lease_of}
use Rattle.lrc_rules.specs.Outcomes.{Outcome}
use Rattle.lrc_rules.specs.Leases.{is_grant, grants, term, is_tick, tick_outcome}
use Rattle.lrc_rules.specs.Steps.{step}
use Rattle.lrc_rules.specs.Histories.{World, first_world, outcome_in, next_world, world_from, state_from, world_after, state_after, IsLegalFrom, IsLegal}
use Rattle.lrc_rules.specs.Goodness.{IsGood}
use Rattle.lrc_rules.proofs.MemberLemmas.{All-members, filter-member}
use Rattle.lrc_rules.proofs.StepSeatedLemmas.{opening-seated, step-seated}
use Rattle.lrc_rules.proofs.LeaseCountLemmas.{Follows, grants-push, step-follows}
use Rattle.lrc_rules.proofs.ClockLemmas.{tick-is, other-clock}

abbrev AreCurrent : List Entry → List Lease → Type 0
AreCurrent past leases = All (λ l. l.epoch ≡ grants past l.stripe l.fragment) leases

-- if a fragment has no live lease, no live lease is of that fragment
apart-from : (st : State) (s : StripeNo) (f : Fragment) (k : Lease) → lease_of st s f ≡ None → Contains st.leases k → is_of s f.value k ≡ false
apart-from st s f k none here = find-none (is_of s f.value) st.leases k none here

turn-false : (k l : Lease) → is_of l.stripe l.fragment.value k ≡ false → is_of k.stripe k.fragment.value l ≡ false
turn-false k l miss = elim (cases_Bool (is_of k.stripe k.fragment.value l)) [
  | inr other ↦ other
  | inl hit ↦ absurd (
      let parts = is_of-parts k.stripe k.fragment.value l hit in
      let both : true ≡ false = sym (is_of-from l.stripe l.fragment.value k (sym parts.0) (sym parts.1)) ∙ miss in cc)
]

-- with one more entry, the epoch of each live lease is still that of the last grant
current-push : (past : List Entry) (st : State) (e : Entry) (o : Outcome) → o.0 ≡ e.reply → Follows past st o → AreCurrent past st.leases
    → AreCurrent (past ++ e ∷ []) o.1.leases
current-push past st e o told (inr none) current = All-members (λ l. l.epoch ≡ grants (past ++ e ∷ []) l.stripe l.fragment) o.1.leases (λ l here.
    let before = All-contains (λ k. k.epoch ≡ grants past k.stripe k.fragment) st.leases l current (none.fewer l here) in
    let no : is_grant l.stripe l.fragment e.reply ≡ false = subst (λ (r : Reply). is_grant l.stripe l.fragment r ≡ false) told
    (none.none l.stripe l.fragment) in
    before ∙ sym (grants-push past e l.stripe l.fragment ∙ ap (λ (b : Bool). grants past l.stripe l.fragment + cond b 1 0) no ∙ omega arith))
current-push past st e o told (inl grant) current = All-members (λ l. l.epoch ≡ grants (past ++ e ∷ []) l.stripe l.fragment) o.1.leases (λ l here.
    let reply : e.reply ≡ Granted grant.lease grant.from = sym told ∙ grant.told in
    elim (Contains-push_cases st.leases grant.lease l (subst (λ (ls : List Lease). Contains ls l) grant.leases here)) [
      | inl old ↦
          let before = All-contains (λ k. k.epoch ≡ grants past k.stripe k.fragment) st.leases l current old in
          let miss = turn-false l grant.lease (apart-from st grant.lease.stripe grant.lease.fragment l grant.none old) in
          let no : is_grant l.stripe l.fragment e.reply ≡ false = ap (is_grant l.stripe l.fragment) reply ∙ miss in
          before ∙ sym (grants-push past e l.stripe l.fragment ∙ ap (λ (b : Bool). grants past l.stripe l.fragment + cond b 1 0) no ∙ omega arith)
      | inr new ↦ subst (λ (k : Lease). k.epoch ≡ grants (past ++ e ∷ []) k.stripe k.fragment) new (
          let own : is_grant grant.lease.stripe grant.lease.fragment e.reply ≡ true = ap (is_grant grant.lease.stripe grant.lease.fragment) reply
          ∙ is_of-own grant.lease in
          grant.epoch ∙ sym (grants-push past e grant.lease.stripe grant.lease.fragment
          ∙ ap (λ (b : Bool). grants past grant.lease.stripe grant.lease.fragment + cond b 1 0) own))
    ])

-- ---- the terms of leases

-- the lease has not expired, and expires within a term
abbrev IsRunning : ℕ → Lease → Type 0
IsRunning clock l = (clock < l.expiry) × (l.expiry ≤ clock + term)

module _ (st : State) (running : (l : Lease) → Contains st.leases l → IsRunning st.clock l) where
  -- after a tick
  tick-running : (l : Lease) → Contains (tick_outcome st).1.leases l → IsRunning (tick_outcome st).1.clock l
  unfolding tick_outcome
  tick-running l here =
      let both = filter-member (λ (k : Lease). not (ends_at (st.clock + 1) k)) st.leases l here in
      let was = running l both.0 in
      let other : l.expiry ≢ st.clock + 1 = λ same. absurd (let off : not true ≡ true = rw (eq-eqb l.expiry (st.clock + 1) same) at both.1 in cc) in
      (omega (arith, was.0, other), omega (arith, was.1))

  -- after a command that leaves the clock as it is
  still-running : (past : List Entry) (o : Outcome) → o.1.clock ≡ st.clock → Follows past st o → (l : Lease) → Contains o.1.leases l → IsRunning o.1.clock l
  still-running past o still (inr none) l here = rw still (running l (none.fewer l here))
  still-running past o still (inl grant) l here =
      elim (Contains-push_cases st.leases grant.lease l (subst (λ (ls : List Lease). Contains ls l) grant.leases here)) [
        | inl old ↦ rw still (running l old)
        | inr new ↦ rw still (subst (λ (k : Lease). IsRunning st.clock k) new (rw grant.expiry (omega arith, omega arith)))
      ]

  step-running : (nodes : List NodeInfo) (past : List Entry) (session : SessionNo) (c : Command) (l : Lease)
      → Contains (step nodes past st session c).1.leases l → IsRunning (step nodes past st session c).1.clock l
  step-running nodes past session c = elim (cases_Bool (is_tick c)) [
    | inl hit ↦ subst (λ (d : Command). (l : Lease) → Contains (step nodes past st session d).1.leases l → IsRunning (step nodes past st session d).1.clock l)
        (sym (tick-is c hit)) tick-running
    | inr miss ↦ still-running past (step nodes past st session c) (other-clock nodes past st session c miss) (step-follows nodes past st session c)
  ]

-- ---- histories

-- the entries of a world are the ones that it started with, followed by the history
pub past-from : (nodes : List NodeInfo) (w : World) (history : List Entry) → (world_from nodes w history).past ≡ w.past ++ history
past-from nodes w [] = sym (append-nil w.past)
past-from nodes w (e ∷ es) = past-from nodes (next_world nodes w e) es ∙ append_assoc w.past (e ∷ []) es

-- the world after a history has exactly this history
pub past-after : (nodes : List NodeInfo) (history : List Entry) → (world_after nodes history).past ≡ history
past-after nodes history = past-from nodes first_world history

-- all is good in this world
abbrev pub IsGoodIn : List NodeInfo → World → Type 0
IsGoodIn nodes w = IsGood nodes w.past w.state

pub opening-good : (nodes : List NodeInfo) → IsGood nodes [] opening
opening-good nodes = record {
  seated = opening-seated nodes;
  current = All-nil (λ l. l.epoch ≡ grants [] l.stripe l.fragment);
  running = All-nil (λ l. 0 < l.expiry);
  termed = All-nil (λ l. l.expiry ≤ 0 + term);
}

-- An entry with the reply that the rules give keeps all good,
pub next-good : (nodes : List NodeInfo) → AreNodes nodes → (w : World) (e : Entry) → (outcome_in nodes w e.session e.command).0 ≡ e.reply
    → IsGoodIn nodes w → IsGoodIn nodes (next_world nodes w e)
next-good nodes known w e told good =
    let next = (next_world nodes w e).state in
    let runs = step-running w.state (λ l here. (All-contains (λ k. w.state.clock < k.expiry) w.state.leases l good.running here, All-contains (λ k. k.expiry ≤ w.state.clock + term) w.state.leases l good.termed here))
    nodes w.past e.session e.command in
    record {
      seated = step-seated nodes known w.past w.state e.session e.command good.seated;
      current =
          current-push w.past w.state e (outcome_in nodes w e.session e.command) told
          (step-follows nodes w.past w.state e.session e.command) good.current;
      running = All-members (λ l. next.clock < l.expiry) next.leases (λ l here. (runs l here).0);
      termed = All-members (λ l. l.expiry ≤ next.clock + term) next.leases (λ l here. (runs l here).1);
    }

-- and so does a legal history.
worlds-good : (nodes : List NodeInfo) → AreNodes nodes → (w : World) (history : List Entry) → IsLegalFrom nodes w history → IsGoodIn nodes w
    → IsGoodIn nodes (world_from nodes w history)
worlds-good nodes known w [] legal good = good
worlds-good nodes known w (e ∷ es) legal good = worlds-good nodes known (next_world nodes w e) es legal.1 (next-good nodes known w e legal.0 good)

pub state_from-good : (nodes : List NodeInfo) → AreNodes nodes → (w : World) (history : List Entry) → IsLegalFrom nodes w history → IsGoodIn nodes w
    → IsGood nodes (w.past ++ history) (state_from nodes w history)
state_from-good nodes known w history legal good =
    subst (λ past. IsGood nodes past (state_from nodes w history)) (past-from nodes w history) (worlds-good nodes known w history legal good)

pub state_after-good : (nodes : List NodeInfo) → AreNodes nodes → (history : List Entry) → IsLegal nodes history
    → IsGood nodes history (state_after nodes history)
state_after-good nodes known history legal = state_from-good nodes known first_world history legal (opening-good nodes)
