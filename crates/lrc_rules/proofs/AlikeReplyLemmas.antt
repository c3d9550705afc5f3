-- In alike states each command gets the same reply.
use Rattle.std.proofs.Common.{◌≡◌, ◌≢◌, ◌+◌, ℕ, Bool, true, false, not, ◌||◌, nat_lt, List, [], ◌∷◌, Option, Some, None, is_none, Result, Ok, Err, refl, sym, ap, ap₂, ◌∙◌}
use Rattle.std.specs.List.{AllPairs, count_by}
use Rattle.lrc_code.specs.declared.codes.Code.{Code}
use Rattle.lrc_code.specs.declared.codes.Code.TheVariants.{Wide, Narrow}
use Rattle.lrc_code.specs.declared.numbers.StripeNo.{StripeNo}
use Rattle.lrc_code.specs.declared.numbers.NodeNo.{NodeNo}
use Rattle.lrc_code.specs.declared.numbers.UpgradeNo.{UpgradeNo}
use Rattle.lrc_code.specs.declared.numbers.SessionNo.{SessionNo}
use Rattle.lrc_code.specs.declared.numbers.Fragment.{Fragment}
use Rattle.lrc_code.specs.Codes.{fragments}
use Rattle.lrc_topology.specs.declared.NodeInfo.{NodeInfo}
use Rattle.lrc_topology.specs.declared.seat.Seat.{Seat}
use Rattle.lrc_topology.specs.Nodes.{AreNodes, node_at, has_domain}
use Rattle.lrc_terms.specs.declared.lease.Lease.{Lease as LeaseRecord}
use Rattle.lrc_terms.specs.Leased.{AreOneEach, ends_at}
use Rattle.lrc_terms.specs.Stripes.{StripeFragment}
use Rattle.lrc_rules.specs.declared.command.Command.{Command}
use Rattle.lrc_rules.specs.declared.command.Command.TheVariants.{Place, Place6, Drop, Lease, Next, Done, Abandon, Revoke, Fail, Down, Up, Drain, Undrain, Retire, Join, Upgrade, Upgraded, Tick}
use Rattle.lrc_rules.specs.declared.node_command.NodeCommand.{NodeCommand}
use Rattle.lrc_rules.specs.declared.node_command.NodeCommand.TheVariants as node
use Rattle.lrc_rules.specs.declared.reply.Reply.TheVariants.{Granted, Ended, Ticked, Dropped, Changed, Refused}
use Rattle.lrc_rules.specs.declared.refusal.Refusal.{Refusal}
use Rattle.lrc_rules.specs.declared.refusal.Refusal.TheVariants as refusal
use Rattle.lrc_rules.specs.declared.entry.Entry.{Entry}
use Rattle.lrc_terms.specs.declared.mode.Mode.{Mode}
use Rattle.lrc_rules.specs.States.{State, has_stripe, lease_of, online_at, load}
use Rattle.lrc_terms.specs.Modes.{is_active, is_draining, is_gone}
use Rattle.lrc_rules.specs.Placement.{chosen, placed}
use Rattle.lrc_rules.specs.Repairs.{needs, is_beyond_repair}
use Rattle.lrc_rules.specs.Urgency.{next_of}
use Rattle.lrc_rules.specs.Outcomes.{Outcome, refuse_if}
use Rattle.lrc_rules.specs.Leases.{term, granted, lease_answer, lease_outcome, next_answer, next_outcome, at_epoch, is_held_by, moved_in, without_lease, done_answer, done_outcome, abandon_answer, abandon_outcome, revoke_outcome, tick_outcome}
use Rattle.lrc_rules.specs.Steps.{is_other, with_code, with_stripe, without_stripe, place_answer, place_outcome, drop_outcome, is_wrong_on, changed_on, is_kept_by_load, node_outcome, without_upgrading, would_lose, upgrade_answer, upgrade_outcome, is_the_domain, upgraded_outcome, step}
use Rattle.lrc_rules.specs.Alike.{HaveSame, AreAlike}
use Rattle.lrc_rules.specs.Futures.{HaveSameGrants}
use Rattle.lrc_rules.specs.Goodness.{AreSeated}
use Rattle.lrc_rules.proofs.StepLemmas.{place-there, place-passed, placed-grown}
use Rattle.lrc_rules.proofs.LawLemmas.{chosen-told, none-told, told-none}
use Rattle.lrc_rules.proofs.SeatedLemmas.{stripe-placing}
use Rattle.lrc_rules.proofs.AlikeListLemmas.{same-filter, same-more, same-count}
use Rattle.lrc_rules.proofs.AlikeReadLemmas.{alike-there, alike-mode, alike-down, alike-online_at, alike-lease, alike-load, alike-needs, alike-kind, alike-beyond}
use Rattle.lrc_rules.proofs.AlikeChoiceLemmas.{alike-chosen, alike-next, alike-loses, alike-seats_chosen, alike-first_without}

-- if one state is refused if and only if the other is, the replies are the same
same-if : (w v : State) (met met' : Bool) (r r' : Refusal) (o p : Outcome) → met ≡ met' → r ≡ r' → o.0 ≡ p.0
    → (refuse_if met r w o).0 ≡ (refuse_if met' r' v p).0
same-if w v true true r r' o p both same other = ap (λ (x : Refusal). Refused x) same
same-if w v false false r r' o p both same other = other
same-if w v true false r r' o p both same other = absurd (let never : true ≡ false = both in cc)
same-if w v false true r r' o p both same other = absurd (let never : false ≡ true = both in cc)

-- the new stripe
pub stripe-alike : (w v : State) (code : Code) (s : StripeNo) → AreAlike w v → AreAlike (with_stripe w code s) (with_stripe v code s)
stripe-alike w v code s alike = record {
  stripes = same-more w.stripes v.stripes (s ∷ []) alike.stripes;
  narrow = by code;
  homes = alike.homes;
  leases = alike.leases;
  gone = alike.gone;
  draining = alike.draining;
  down = alike.down;
  upgrading = alike.upgrading;
  clock = alike.clock;
} where
  by : (code : Code) → HaveSame (with_code code s w.narrow) (with_code code s v.narrow)
  by Wide = same-filter (is_other s) w.narrow v.narrow alike.narrow
  by Narrow = same-more w.narrow v.narrow (s ∷ []) alike.narrow

-- at most one lease of each fragment: no lease twice
one-each : (leases : List LeaseRecord) → AreOneEach leases → AllPairs (λ k l. k ≢ l) leases
one-each leases single = λ i j d below within same.
    single i j d below within (ap (λ (l : LeaseRecord). l.stripe) same) (ap (λ (l : LeaseRecord). l.fragment) same)

module _ (nodes : List NodeInfo) (known : AreNodes nodes) (w v : State) (alike : AreAlike w v) (seated : AreSeated nodes w) (seated' : AreSeated nodes v) where
  same-there : (s : StripeNo) → has_stripe w s ≡ has_stripe v s
  same-there s = ap (λ (there : StripeNo → Bool). there s) (alike-there w v alike)

  absent-same : (s : StripeNo) → not (has_stripe w s) ≡ not (has_stripe v s)
  absent-same s = ap not (same-there s)

  -- ---- stripes

  module _ (code : Code) (s : StripeNo) where
    abbrev SameReply : Type 0
    SameReply = (place_outcome nodes w code s).0 ≡ (place_outcome nodes v code s).0

    place-by : (r : Result State Fragment) → has_stripe w s ≡ false → has_stripe v s ≡ false → placed nodes (with_stripe w code s) s ≡ r → SameReply
    place-by (Ok done) absent absent' is =
        let g = placed-grown nodes w code s done is in
        chosen-told nodes w code s g.seats absent g.chosen_are
        ∙ sym (chosen-told nodes v code s g.seats absent'
        (alike-seats_chosen nodes known s (with_stripe w code s) (with_stripe v code s) (fragments code) g.seats (stripe-alike w v code s alike)
        (stripe-placing nodes known w s code seated absent) (stripe-placing nodes known v s code seated' absent') g.chosen_are))
    place-by (Err f) absent absent' is =
        let told : (place_outcome nodes w code s).0 ≡ Refused (refusal.NoLawfulNode f) =
        ap (λ (o : Outcome). o.0) (place-passed nodes w code s absent ∙ ap (place_answer w code) is) in
        told
        ∙ sym (none-told nodes v code s f absent'
        (alike-first_without nodes known s (with_stripe w code s) (with_stripe v code s) (fragments code) f (stripe-alike w v code s alike)
        (stripe-placing nodes known w s code seated absent) (stripe-placing nodes known v s code seated' absent') (told-none nodes w code s f told).1))

    place-if : (there : Bool) → has_stripe w s ≡ there → SameReply
    place-if true hit =
        ap (λ (o : Outcome). o.0) (place-there nodes w code s hit) ∙ sym (ap (λ (o : Outcome). o.0) (place-there nodes v code s (sym (same-there s) ∙ hit)))
    place-if false miss = place-by (placed nodes (with_stripe w code s) s) miss (sym (same-there s) ∙ miss) refl

    place-reply : SameReply
    place-reply = place-if (has_stripe w s) refl

  drop-reply : (s : StripeNo) → (drop_outcome w s).0 ≡ (drop_outcome v s).0
  unfolding drop_outcome
  drop-reply s =
      same-if w v (not (has_stripe w s)) (not (has_stripe v s)) refusal.UnknownStripe refusal.UnknownStripe (Dropped, without_stripe w s)
      (Dropped, without_stripe v s) (absent-same s) refl refl

  -- ---- the end of a lease

  module _ (session : SessionNo) (s : StripeNo) (f : Fragment) where
    same-lease : lease_of w s f ≡ lease_of v s f
    same-lease = alike-lease nodes w v alike seated seated' s f

    same-online : (n : NodeNo) → online_at nodes w n ≡ online_at nodes v n
    same-online n = ap (λ (online : NodeNo → Bool). online n) (alike-online_at w v alike nodes)

    done-by : (o : Option LeaseRecord) → (done_answer nodes w session s f o).0 ≡ (done_answer nodes v session s f o).0
    done-by None = refl
    done-by (Some l) =
        same-if w v (not (is_held_by session l)) (not (is_held_by session l)) (refusal.NotHolder l.holder) (refusal.NotHolder l.holder) _ _ refl refl
        (same-if w v (not (online_at nodes w l.target.node)) (not (online_at nodes v l.target.node))
        (refusal.TargetOffline l.target.node) (refusal.TargetOffline l.target.node)
        (Ended, moved_in w s f l.target) (Ended, moved_in v s f l.target) (ap not (same-online l.target.node)) refl refl)

    done-reply : (e : ℕ) → (done_outcome nodes w session s f e).0 ≡ (done_outcome nodes v session s f e).0
    unfolding done_outcome
    done-reply e =
        same-if w v (not (has_stripe w s)) (not (has_stripe v s)) refusal.UnknownStripe refusal.UnknownStripe _ _ (absent-same s) refl
        (done-by (at_epoch e (lease_of w s f)) ∙ ap (λ (o : Option LeaseRecord). (done_answer nodes v session s f (at_epoch e o)).0) same-lease)

    abandon-by : (o : Option LeaseRecord) → (abandon_answer w session s f o).0 ≡ (abandon_answer v session s f o).0
    abandon-by None = refl
    abandon-by (Some l) =
        same-if w v (not (is_held_by session l)) (not (is_held_by session l)) (refusal.NotHolder l.holder) (refusal.NotHolder l.holder)
        (Ended, without_lease w s f) (Ended, without_lease v s f) refl refl refl

    abandon-reply : (e : ℕ) → (abandon_outcome w session s f e).0 ≡ (abandon_outcome v session s f e).0
    unfolding abandon_outcome
    abandon-reply e =
        same-if w v (not (has_stripe w s)) (not (has_stripe v s)) refusal.UnknownStripe refusal.UnknownStripe _ _ (absent-same s) refl
        (abandon-by (at_epoch e (lease_of w s f)) ∙ ap (λ (o : Option LeaseRecord). (abandon_answer v session s f (at_epoch e o)).0) same-lease)

    revoke-reply : (revoke_outcome w s f).0 ≡ (revoke_outcome v s f).0
    unfolding revoke_outcome
    revoke-reply =
        same-if w v (not (has_stripe w s)) (not (has_stripe v s)) refusal.UnknownStripe refusal.UnknownStripe _ _ (absent-same s) refl
        (same-if w v (is_none (lease_of w s f)) (is_none (lease_of v s f)) refusal.NoLease refusal.NoLease (Ended, without_lease w s f)
        (Ended, without_lease v s f) (ap (λ (o : Option LeaseRecord). is_none o) same-lease) refl refl)

  -- ---- nodes

  same-wrong : (command : NodeCommand) (n : NodeNo) → is_wrong_on command w n ≡ is_wrong_on command v n
  same-wrong node.Fail n = ap is_gone (alike-mode w v alike n)
  same-wrong node.Down n = let mode = alike-mode w v alike n in let down = alike-down w v alike n in λ i. is_gone (mode i) || down i
  same-wrong node.Up n = ap not (alike-down w v alike n)
  same-wrong node.Drain n = ap (λ (m : Mode). not (is_active m)) (alike-mode w v alike n)
  same-wrong node.Undrain n = ap (λ (m : Mode). not (is_draining m)) (alike-mode w v alike n)
  same-wrong node.Retire n = ap (λ (m : Mode). not (is_draining m)) (alike-mode w v alike n)
  same-wrong node.Join n = ap (λ (m : Mode). not (is_gone m)) (alike-mode w v alike n)

  same-load : (n : NodeNo) → load w n ≡ load v n
  same-load n = ap (λ (loads : NodeNo → ℕ). loads n) (alike-load nodes w v alike seated seated')

  same-kept : (command : NodeCommand) (n : NodeNo) → is_kept_by_load command w n ≡ is_kept_by_load command v n
  same-kept node.Retire n = ap (nat_lt 0) (same-load n)
  same-kept _ n = refl

  node-reply : (command : NodeCommand) (n : NodeNo) → (node_outcome nodes w command n).0 ≡ (node_outcome nodes v command n).0
  unfolding node_outcome
  node-reply command n =
      same-if w v (is_none (node_at nodes n)) (is_none (node_at nodes n)) refusal.UnknownNode refusal.UnknownNode _ _ refl refl
      (same-if w v (is_wrong_on command w n) (is_wrong_on command v n) refusal.WrongMode refusal.WrongMode _ _ (same-wrong command n) refl
      (same-if w v (is_kept_by_load command w n) (is_kept_by_load command v n) (refusal.NotEmpty (load w n)) (refusal.NotEmpty (load v n))
      (Changed, changed_on command w n) (Changed, changed_on command v n) (same-kept command n) (ap (λ (k : ℕ). refusal.NotEmpty k) (same-load n)) refl))

  -- ---- upgrades

  upgrade-by : (u : UpgradeNo) (o : Option UpgradeNo) (lost : Option StripeNo) → (upgrade_answer w u o lost).0 ≡ (upgrade_answer v u o lost).0
  upgrade-by u (Some running) lost = refl
  upgrade-by u None (Some s) = refl
  upgrade-by u None None = refl

  upgrade-reply : (u : UpgradeNo) → (upgrade_outcome nodes w u).0 ≡ (upgrade_outcome nodes v u).0
  unfolding upgrade_outcome
  upgrade-reply u =
      same-if w v (not (has_domain nodes u)) (not (has_domain nodes u)) refusal.UnknownDomain refusal.UnknownDomain _ _ refl refl
      (upgrade-by u w.upgrading (would_lose nodes w u)
      ∙ ap₂ (λ (o : Option UpgradeNo) (lost : Option StripeNo). (upgrade_answer v u o lost).0) alike.upgrading (alike-loses nodes w v alike seated seated' u))

  upgraded-reply : (u : UpgradeNo) → (upgraded_outcome nodes w u).0 ≡ (upgraded_outcome nodes v u).0
  unfolding upgraded_outcome
  upgraded-reply u =
      same-if w v (not (has_domain nodes u)) (not (has_domain nodes u)) refusal.UnknownDomain refusal.UnknownDomain _ _ refl refl
      (same-if w v (not (is_the_domain u w.upgrading)) (not (is_the_domain u v.upgrading)) refusal.NotUpgrading refusal.NotUpgrading
      (Changed, without_upgrading w) (Changed, without_upgrading v) (ap (λ (o : Option UpgradeNo). not (is_the_domain u o)) alike.upgrading) refl refl)

  -- ---- the clock

  tick-reply : (tick_outcome w).0 ≡ (tick_outcome v).0
  unfolding tick_outcome
  tick-reply =
      let count = same-count (ends_at (w.clock + 1)) w.leases v.leases alike.leases (one-each w.leases seated.one_lease) (one-each v.leases seated'.one_lease) in
      ap (λ (k : ℕ). Ticked (w.clock + 1) k) count
      ∙ ap (λ (clock : ℕ). Ticked (clock + 1) (count_by (ends_at (clock + 1)) v.leases)) alike.clock

  -- ---- leases, after entries that grant the same

  module _ (past past' : List Entry) (same : HaveSameGrants past past') (session : SessionNo) where
    granted-reply : (s : StripeNo) (f : Fragment) (o : Option Seat) → (granted nodes past w session s f o).0 ≡ (granted nodes past' v session s f o).0
    granted-reply s f None = refl
    granted-reply s f (Some seat) =
        let count = same s f in
        let clock = alike.clock in
        let kind = alike-kind nodes w v alike seated seated' in
        λ i. Granted (record { stripe = s; fragment = f; holder = session; target = seat; epoch = count i + 1; expiry = clock i + term }) (kind i s f)

    lease-by : (s : StripeNo) (f : Fragment) (o : Option LeaseRecord)
        → (lease_answer nodes past w session s f o).0 ≡ (lease_answer nodes past' v session s f o).0
    lease-by s f (Some l) = refl
    lease-by s f None =
        let need = alike-needs nodes w v alike seated seated' in
        let beyond = alike-beyond nodes w v alike seated seated' in
        let choice = alike-chosen nodes w v alike seated seated' in
        same-if w v (not (needs nodes w s f)) (not (needs nodes v s f)) refusal.NotNeeded refusal.NotNeeded _ _ (λ i. not (need i s f)) refl
        (same-if w v (is_beyond_repair nodes w s f) (is_beyond_repair nodes v s f) refusal.Unrecoverable refusal.Unrecoverable _ _ (λ i. beyond i s f) refl
        (granted-reply s f (chosen nodes w s f) ∙ (λ i. (granted nodes past' v session s f (choice i s f)).0)))

    lease-reply : (s : StripeNo) (f : Fragment) → (lease_outcome nodes past w session s f).0 ≡ (lease_outcome nodes past' v session s f).0
    unfolding lease_outcome
    lease-reply s f =
        same-if w v (not (has_stripe w s)) (not (has_stripe v s)) refusal.UnknownStripe refusal.UnknownStripe _ _ (absent-same s) refl
        (lease-by s f (lease_of w s f) ∙ ap (λ (o : Option LeaseRecord). (lease_answer nodes past' v session s f o).0) (alike-lease nodes w v alike seated seated' s f))

    next-by : (o : Option StripeFragment) → (next_answer nodes past w session o).0 ≡ (next_answer nodes past' v session o).0
    next-by None = refl
    next-by (Some p) = lease-reply p.0 p.1

    next-reply : (next_outcome nodes past w session).0 ≡ (next_outcome nodes past' v session).0
    unfolding next_outcome
    next-reply =
        next-by (next_of nodes w)
        ∙ ap (λ (o : Option StripeFragment). (next_answer nodes past' v session o).0) (alike-next nodes w v alike seated seated')

    -- each command gets the same reply
    pub alike-reply : (c : Command) → (step nodes past w session c).0 ≡ (step nodes past' v session c).0
    alike-reply (Place s) = place-reply Wide s
    alike-reply (Place6 s) = place-reply Narrow s
    alike-reply (Drop s) = drop-reply s
    alike-reply (Lease s f) = lease-reply s f
    alike-reply Next = next-reply
    alike-reply (Done s f e) = done-reply session s f e
    alike-reply (Abandon s f e) = abandon-reply session s f e
    alike-reply (Revoke s f) = revoke-reply session s f
    alike-reply (Fail n) = node-reply node.Fail n
    alike-reply (Down n) = node-reply node.Down n
    alike-reply (Up n) = node-reply node.Up n
    alike-reply (Drain n) = node-reply node.Drain n
    alike-reply (Undrain n) = node-reply node.Undrain n
    alike-reply (Retire n) = node-reply node.Retire n
    alike-reply (Join n) = node-reply node.Join n
    alike-reply (Upgrade u) = upgrade-reply u
    alike-reply (Upgraded u) = upgraded-reply u
    alike-reply Tick = tick-reply
