-- A command with the same reply leaves alike states alike.
use Rattle.std.proofs.Common.{[], ◌≡◌, ◌+◌, ℕ, Bool, not, ◌&&◌, ◌||◌, List, ◌∷◌, ◌++◌, filter, Option, Some, None, refl, ap, subst}
use Rattle.std.proofs.Math.Path.{fun_ext}
use Rattle.lrc_code.specs.declared.codes.Code.{Code}
use Rattle.lrc_code.specs.declared.codes.Code.TheVariants.{Wide, Narrow}
use Rattle.lrc_code.specs.declared.numbers.StripeNo.{StripeNo}
use Rattle.lrc_code.specs.declared.numbers.NodeNo.{NodeNo}
use Rattle.lrc_code.specs.declared.numbers.UpgradeNo.{UpgradeNo}
use Rattle.lrc_code.specs.declared.numbers.Fragment.{Fragment}
use Rattle.lrc_code.specs.Codes.{fragments}
use Rattle.lrc_code.specs.Numbers.{same_node}
use Rattle.lrc_topology.specs.declared.NodeInfo.{NodeInfo}
use Rattle.lrc_topology.specs.declared.seat.Seat.{Seat}
use Rattle.lrc_topology.specs.declared.seat.Held.{Held}
use Rattle.lrc_terms.specs.declared.lease.Lease.{Lease as LeaseRecord}
use Rattle.lrc_terms.specs.Leased.{is_of, is_target_on, ends_at}
use Rattle.lrc_rules.specs.declared.command.Command.{Command}
use Rattle.lrc_rules.specs.declared.command.Command.TheVariants.{Place, Place6, Drop, Lease, Next, Done, Abandon, Revoke, Upgrade, Upgraded, Tick}
use Rattle.lrc_rules.specs.declared.node_command.NodeCommand.{NodeCommand}
use Rattle.lrc_rules.specs.declared.node_command.NodeCommand.TheVariants as node
use Rattle.lrc_rules.specs.declared.reply.Reply.{Reply}
use Rattle.lrc_rules.specs.declared.reply.Reply.TheVariants.{Placed, Placed6, Dropped, Granted, Idle, Ended, Changed, Ticked}
use Rattle.lrc_rules.specs.States.{State, is_home_of, lease_of, without_number}
use Rattle.lrc_rules.specs.Leases.{with_lease, without_lease, ticked}
use Rattle.lrc_rules.specs.Steps.{is_other, with_stripe, without_stripe, stands_on, hangs_on, emptied, with_gone, changed_on, node_command}
use Rattle.lrc_rules.specs.Changes.{held_at, with_placed, with_done, changed_at, changed_by}
use Rattle.lrc_rules.specs.Alike.{HaveSame, AreAlike}
use Rattle.lrc_rules.specs.Goodness.{AreSeated}
use Rattle.lrc_rules.proofs.AlikeListLemmas.{same-any, same-filter, same-more}
use Rattle.lrc_rules.proofs.AlikeReadLemmas.{alike-lease}
use Rattle.lrc_rules.proofs.AlikeReplyLemmas.{stripe-alike}

module _ (w v : State) (alike : AreAlike w v) where
  -- other homes and other leases
  held-alike : (hs ks : List Held) (ls ms : List LeaseRecord) → HaveSame hs ks → HaveSame ls ms
      → AreAlike (record w { homes = hs; leases = ls }) (record v { homes = ks; leases = ms })
  held-alike hs ks ls ms homes leases = record {
    stripes = alike.stripes;
    narrow = alike.narrow;
    homes = homes;
    leases = leases;
    gone = alike.gone;
    draining = alike.draining;
    down = alike.down;
    upgrading = alike.upgrading;
    clock = alike.clock;
  }

  -- other modes
  modes-alike : (gone gone' draining draining' down down' : List NodeNo) (upgrading upgrading' : Option UpgradeNo)
      → HaveSame gone gone' → HaveSame draining draining' → HaveSame down down' → upgrading ≡ upgrading'
      → AreAlike (record w { gone = gone; draining = draining; down = down; upgrading = upgrading }) (record v { gone = gone'; draining = draining'; down = down'; upgrading = upgrading' })
  modes-alike gone gone' draining draining' down down' upgrading upgrading' g dr dn up = record {
    stripes = alike.stripes;
    narrow = alike.narrow;
    homes = alike.homes;
    leases = alike.leases;
    gone = g;
    draining = dr;
    down = dn;
    upgrading = up;
    clock = alike.clock;
  }

  -- ---- stripes and leases

  dropped-alike : (s : StripeNo) → AreAlike (without_stripe w s) (without_stripe v s)
  dropped-alike s = record {
    stripes = same-filter (is_other s) w.stripes v.stripes alike.stripes;
    narrow = same-filter (is_other s) w.narrow v.narrow alike.narrow;
    homes = same-filter (λ h. is_other s h.stripe) w.homes v.homes alike.homes;
    leases = same-filter (λ l. is_other s l.stripe) w.leases v.leases alike.leases;
    gone = alike.gone;
    draining = alike.draining;
    down = alike.down;
    upgrading = alike.upgrading;
    clock = alike.clock;
  }

  leased-alike : (l : LeaseRecord) → AreAlike (with_lease w l) (with_lease v l)
  leased-alike l = held-alike w.homes v.homes (w.leases ++ l ∷ []) (v.leases ++ l ∷ []) alike.homes (same-more w.leases v.leases (l ∷ []) alike.leases)

  ended-alike : (s : StripeNo) (f : Fragment) → AreAlike (without_lease w s f) (without_lease v s f)
  ended-alike s f =
      let keep = λ (l : LeaseRecord). not (is_of s f.value l) in
      held-alike w.homes v.homes (filter keep w.leases) (filter keep v.leases) alike.homes (same-filter keep w.leases v.leases alike.leases)

  done-alike : (s : StripeNo) (f : Fragment) (o : Option LeaseRecord) → AreAlike (with_done w s f o) (with_done v s f o)
  done-alike s f None = alike
  done-alike s f (Some l) =
      let own = record { stripe = s; fragment = f; seat = l.target } ∷ [] in
      let stays = λ (h : Held). not (is_home_of s f h) in
      let keep = λ (l : LeaseRecord). not (is_of s f.value l) in
      held-alike (filter stays w.homes ++ own) (filter stays v.homes ++ own) (filter keep w.leases) (filter keep v.leases)
      (same-more (filter stays w.homes) (filter stays v.homes) own (same-filter stays w.homes v.homes alike.homes))
      (same-filter keep w.leases v.leases alike.leases)

  tick-alike : AreAlike (ticked w) (ticked v)
  tick-alike =
      let left = λ (clock : ℕ) (leases : List LeaseRecord). filter (λ l. not (ends_at (clock + 1) l)) leases in
      record {
        stripes = alike.stripes;
        narrow = alike.narrow;
        homes = alike.homes;
        leases = subst (λ (clock : ℕ). HaveSame (left w.clock w.leases) (left clock v.leases)) alike.clock
            (same-filter (λ l. not (ends_at (w.clock + 1) l)) w.leases v.leases alike.leases);
        gone = alike.gone;
        draining = alike.draining;
        down = alike.down;
        upgrading = alike.upgrading;
        clock = ap (λ (clock : ℕ). clock + 1) alike.clock;
      }

  -- ---- nodes

  hangs-same : (n : NodeNo) → hangs_on w n ≡ hangs_on v n
  hangs-same n = fun_ext (λ l. ap (λ (b : Bool). is_target_on n l || b)
      (same-any (λ h. is_home_of l.stripe l.fragment h && stands_on n h) w.homes v.homes alike.homes))

  emptied-alike : (n : NodeNo) → AreAlike (emptied w n) (emptied v n)
  emptied-alike n =
      let stays = λ (h : Held). not (stands_on n h) in
      let left = λ (hangs : LeaseRecord → Bool) (leases : List LeaseRecord). filter (λ l. not (hangs l)) leases in
      held-alike (filter stays w.homes) (filter stays v.homes) (left (hangs_on w n) w.leases) (left (hangs_on v n) v.leases)
      (same-filter stays w.homes v.homes alike.homes)
      (subst (λ (hangs : LeaseRecord → Bool). HaveSame (left (hangs_on w n) w.leases) (left hangs v.leases)) (hangs-same n)
      (same-filter (λ l. not (hangs_on w n l)) w.leases v.leases alike.leases))

-- the list without a node
fewer : (numbers numbers' : List NodeNo) (n : NodeNo) → HaveSame numbers numbers' → HaveSame (without_number numbers n) (without_number numbers' n)
fewer numbers numbers' n same = same-filter (λ m. not (same_node n m)) numbers numbers' same

gone-alike : (w v : State) (n : NodeNo) → AreAlike w v → AreAlike (with_gone w n) (with_gone v n)
gone-alike w v n alike =
    modes-alike w v alike (w.gone ++ n ∷ []) (v.gone ++ n ∷ []) (without_number w.draining n) (without_number v.draining n)
    (without_number w.down n) (without_number v.down n) w.upgrading v.upgrading
    (same-more w.gone v.gone (n ∷ []) alike.gone) (fewer w.draining v.draining n alike.draining) (fewer w.down v.down n alike.down) alike.upgrading

module _ (w v : State) (alike : AreAlike w v) where
  node-alike : (command : NodeCommand) (n : NodeNo) → AreAlike (changed_on command w n) (changed_on command v n)
  node-alike node.Fail n = gone-alike (emptied w n) (emptied v n) n (emptied-alike w v alike n)
  node-alike node.Retire n = gone-alike w v n alike
  node-alike node.Down n =
      modes-alike w v alike w.gone v.gone w.draining v.draining (w.down ++ n ∷ []) (v.down ++ n ∷ []) w.upgrading v.upgrading
      alike.gone alike.draining (same-more w.down v.down (n ∷ []) alike.down) alike.upgrading
  node-alike node.Up n =
      modes-alike w v alike w.gone v.gone w.draining v.draining (without_number w.down n) (without_number v.down n) w.upgrading v.upgrading
      alike.gone alike.draining (fewer w.down v.down n alike.down) alike.upgrading
  node-alike node.Drain n =
      modes-alike w v alike w.gone v.gone (w.draining ++ n ∷ []) (v.draining ++ n ∷ []) w.down v.down w.upgrading v.upgrading
      alike.gone (same-more w.draining v.draining (n ∷ []) alike.draining) alike.down alike.upgrading
  node-alike node.Undrain n =
      modes-alike w v alike w.gone v.gone (without_number w.draining n) (without_number v.draining n) w.down v.down w.upgrading v.upgrading
      alike.gone (fewer w.draining v.draining n alike.draining) alike.down alike.upgrading
  node-alike node.Join n =
      modes-alike w v alike (without_number w.gone n) (without_number v.gone n) w.draining v.draining w.down v.down w.upgrading v.upgrading
      (fewer w.gone v.gone n alike.gone) alike.draining alike.down alike.upgrading

  at-alike : (on : Option (NodeCommand × NodeNo)) → AreAlike (changed_at w on) (changed_at v on)
  at-alike None = alike
  at-alike (Some on) = node-alike on.0 on.1

  upgrading-alike : (u : Option UpgradeNo) → AreAlike (record w { upgrading = u }) (record v { upgrading = u })
  upgrading-alike u = modes-alike w v alike w.gone v.gone w.draining v.draining w.down v.down u u alike.gone alike.draining alike.down refl

  placed-alike : (code : Code) (s : StripeNo) (seats : List Seat) → AreAlike (with_placed w code s seats) (with_placed v code s seats)
  placed-alike code s seats =
      let more = held_at s (fragments code) seats in
      held-alike (with_stripe w code s) (with_stripe v code s) (stripe-alike w v code s alike) (w.homes ++ more) (v.homes ++ more) w.leases v.leases
      (same-more w.homes v.homes more alike.homes) alike.leases

-- ---- the change that a command and its reply make

module _ (nodes : List NodeInfo) (w v : State) (alike : AreAlike w v) (seated : AreSeated nodes w) (seated' : AreSeated nodes v) where
  moved-alike : (s : StripeNo) (f : Fragment) → AreAlike (with_done w s f (lease_of w s f)) (with_done v s f (lease_of v s f))
  moved-alike s f =
      subst (λ (o : Option LeaseRecord). AreAlike (with_done w s f (lease_of w s f)) (with_done v s f o)) (alike-lease nodes w v alike seated seated' s f)
      (done-alike w v alike s f (lease_of w s f))

  pub alike-changed : (c : Command) (r : Reply) → AreAlike (changed_by w c r) (changed_by v c r)
  alike-changed (Place s) (Placed seats) = placed-alike w v alike Wide s seats
  alike-changed (Place6 s) (Placed6 seats) = placed-alike w v alike Narrow s seats
  alike-changed (Drop s) Dropped = dropped-alike w v alike s
  alike-changed (Lease s f) (Granted l kind) = leased-alike w v alike l
  alike-changed Next (Granted l kind) = leased-alike w v alike l
  alike-changed (Done s f e) Ended = moved-alike s f
  alike-changed (Abandon s f e) Ended = ended-alike w v alike s f
  alike-changed (Revoke s f) Ended = ended-alike w v alike s f
  alike-changed (Upgrade u) Changed = upgrading-alike w v alike (Some u)
  alike-changed (Upgraded u) Changed = upgrading-alike w v alike None
  alike-changed c Changed = at-alike w v alike (node_command c)
  alike-changed Tick (Ticked clock ended) = tick-alike w v alike
  alike-changed _ Idle = alike
  alike-changed _ _ = alike
