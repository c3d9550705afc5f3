-- Outages of nodes for which the store refuses the command.
use Rattle.std.proofs.Common.{◌≡◌, ◌≢◌, ◌⊎◌, ℕ, ◌<◌, ◌&&◌, ◌||◌, Bool, true, false, not, List, [], ◌∷◌, map, Option, Some, None, is_none, refl, sym, ap, ◌∙◌, inl, inr, subst}
use Rattle.std.specs.Prelude.{IsSomeAnd}
use Rattle.std.specs.Option.{option_map_or}
use Rattle.std.proofs.lemmas.Bool.{cases_Bool, eqb-true}
use Rattle.std.proofs.lemmas.List.Elements.{All-contains, Contains-append_left, Contains-append_right}
use Rattle.std.proofs.lemmas.Map.Entries.{option_filter}
use Rattle.lrc_code.specs.declared.codes.Code.{Code}
use Rattle.lrc_code.specs.declared.numbers.StripeNo.{StripeNo}
use Rattle.lrc_code.specs.declared.numbers.NodeNo.{NodeNo}
use Rattle.lrc_code.specs.declared.numbers.Fragment.{Fragment}
use Rattle.lrc_code.specs.Numbers.{same_node}
use Rattle.lrc_code.specs.Codes.{has_fragment}
use Rattle.lrc_code.proofs.NumbersLemmas.{equal_nodes}
use Rattle.lrc_topology.specs.declared.NodeInfo.{NodeInfo}
use Rattle.lrc_topology.specs.declared.seat.Seat.{Seat}
use Rattle.lrc_topology.specs.declared.seat.Held.{Held}
use Rattle.lrc_topology.specs.Nodes.{node_at}
use Rattle.lrc_terms.specs.declared.lease.Lease.{Lease}
use Rattle.lrc_terms.specs.Levels.{homes_of, home_of, level_by}
use Rattle.lrc_terms.proofs.LeaseLemmas.{leases_in-contains}
use Rattle.lrc_terms.specs.Modes.{is_gone}
use Rattle.lrc_terms.specs.declared.mode.Mode.{Mode}
use Rattle.lrc_terms.specs.declared.mode.Mode.TheVariants.{Active, Draining, Gone}
use Rattle.lrc_rules.specs.declared.node_command.NodeCommand.TheVariants as node
use Rattle.lrc_rules.specs.declared.reply.Reply.TheVariants.{Changed, Refused}
use Rattle.lrc_rules.specs.declared.refusal.Refusal.{Refusal}
use Rattle.lrc_rules.specs.declared.refusal.Refusal.TheVariants as refusal
use Rattle.lrc_rules.specs.States.{State, code_of, lease_of, held_by, seats_of, taken_seats, mode_of, is_down, is_upgrading, is_online, online_at, homeless, missing}
use Rattle.lrc_rules.specs.Outcomes.{refuse_if}
use Rattle.lrc_rules.specs.Steps.{node_outcome, changed_on}
use Rattle.lrc_rules.specs.Goodness.{AreSeated, IsStanding}
use Rattle.lrc_rules.proofs.LookUpLemmas.{found-home, seat_in}
use Rattle.lrc_rules.proofs.MemberLemmas.{map-member}
use Rattle.lrc_rules.proofs.NodeLemmas.{member-node_at}
use Rattle.lrc_forecast.specs.Forecasts.{state_with, is_on_any, HasSameLosses}
use Rattle.lrc_forecast.specs.declared.outlook.Outage.TheVariants.{Stop, Lose}
use Rattle.lrc_forecast.proofs.LeaseLemmas.{is_lease_hit, own-lease, kept-one, lease-stopped, lease-lost}
use Rattle.lrc_forecast.proofs.OutageLemmas.{code-after, missing-after, missing-stopped, homeless-stopped, homeless-lost}

-- the same level, from the same sets
same-level : (nodes : List NodeInfo) (st after : State) (s : StripeNo) → code_of after s ≡ code_of st s → ((f : ℕ) → homeless after s f ≡ homeless st s f)
    → ((f : ℕ) → missing nodes after s f ≡ missing nodes st s f) → ((f : Fragment) → lease_of after s f ≡ lease_of st s f) → HasSameLosses nodes st after s
same-level nodes st after s code bare lacks leased = record {
  level = ap (λ (c : Code). level_by c (homeless after s) (missing nodes after s)) code ∙ (λ i. level_by (code_of st s) (λ f. bare f i) (λ f. lacks f i));
  missing = lacks;
  leases = leased;
}

module _ (nodes : List NodeInfo) (st : State) (n : NodeNo) (s : StripeNo) (r : Refusal) where
  -- ---- Down

  gone-offline : (mode : Mode) (down upgrading : Bool) → (is_gone mode || down) ≡ true → (not (is_gone mode) && (not down && not upgrading)) ≡ false
  gone-offline Gone down upgrading hit = refl
  gone-offline Active true upgrading hit = refl
  gone-offline Active false upgrading hit = absurd (cc)
  gone-offline Draining true upgrading hit = refl
  gone-offline Draining false upgrading hit = absurd (cc)

  offline-by : (known : Option NodeInfo) → node_at nodes n ≡ known → (wrong : Bool) → (is_gone (mode_of st n) || is_down st n) ≡ wrong
      → (refuse_if (is_none known) refusal.UnknownNode st (refuse_if wrong refusal.WrongMode st (Changed, changed_on node.Down st n))).0 ≡ Refused r
      → option_map_or (is_online st) known false ≡ false
  offline-by None is wrong why told = refl
  offline-by (Some m) is false why told = absurd (cc)
  offline-by (Some m) is true why told =
      let number : n ≡ m.number = (member-node_at nodes n m is).1 in
      gone-offline (mode_of st m.number) (is_down st m.number) (is_upgrading st m)
      (subst (λ (k : NodeNo). (is_gone (mode_of st k) || is_down st k) ≡ true) number why)

  offline : (node_outcome nodes st node.Down n).0 ≡ Refused r → online_at nodes st n ≡ false
  unfolding node_outcome
  offline told = offline-by (node_at nodes n) refl (is_gone (mode_of st n) || is_down st n) refl told

  missing-anyway : (own online : Bool) → online ≡ false → ((own && not online) || (own && true)) ≡ (own && not online)
  missing-anyway true false off = refl
  missing-anyway false false off = refl
  missing-anyway own true off = absurd (cc)

  none-more : (own b : Bool) → ((own && b) || (own && false)) ≡ (own && b)
  none-more true true = refl
  none-more true false = refl
  none-more false b = refl

  absorbed : online_at nodes st n ≡ false → (f : ℕ) → (o : Option Seat)
      → ((has_fragment (code_of st s) f && option_map_or (λ seat. not (online_at nodes st seat.node)) o true) || (has_fragment (code_of st s) f && is_on_any (n ∷ []) o))
      ≡ (has_fragment (code_of st s) f && option_map_or (λ seat. not (online_at nodes st seat.node)) o true)
  absorbed off f None = none-more (has_fragment (code_of st s) f) true
  absorbed off f (Some seat) = elim (cases_Bool (same_node seat.node n)) [
    | inl on ↦
        rw on (missing-anyway (has_fragment (code_of st s) f) (online_at nodes st seat.node)
        (ap (online_at nodes st) (equal_nodes seat.node n (eqb-true seat.node.value n.value on)) ∙ off))
    | inr apart ↦ rw apart (none-more (has_fragment (code_of st s) f) (not (online_at nodes st seat.node)))
  ]

  -- the node is offline already
  pub stop-refused : (node_outcome nodes st node.Down n).0 ≡ Refused r → HasSameLosses nodes st (state_with Stop st (n ∷ [])) s
  stop-refused told =
      let off = offline told in
      same-level nodes st (state_with Stop st (n ∷ [])) s (code-after Stop st (n ∷ []) s) (homeless-stopped nodes st (n ∷ []) s)
      (λ f. missing-stopped nodes st (n ∷ []) s f ∙ absorbed off f (homes_of st.homes s f)) (lease-stopped st (n ∷ []) s)

  -- ---- Fail

  mode-gone : (mode : Mode) → is_gone mode ≡ true → mode ≡ Gone
  mode-gone Gone hit = refl
  mode-gone Active hit = absurd (cc)
  mode-gone Draining hit = absurd (cc)

  -- no seat can stand on the node
  no-seat-by : (known : Option NodeInfo) (wrong : Bool) → is_gone (mode_of st n) ≡ wrong
      → (refuse_if (is_none known) refusal.UnknownNode st (refuse_if wrong refusal.WrongMode st (Changed, changed_on node.Fail st n))).0 ≡ Refused r
      → (slot : ℕ) → IsSomeAnd known (λ m. (slot < m.slots) × (mode_of st n ≢ Gone)) → ⊥
  no-seat-by None wrong why told slot stands = stands
  no-seat-by (Some m) false why told slot stands = absurd (cc)
  no-seat-by (Some m) true why told slot stands = stands.1 (mode-gone (mode_of st n) why)

  no-seat : (node_outcome nodes st node.Fail n).0 ≡ Refused r → (seat : Seat) → seat.node ≡ n → IsStanding nodes st seat → ⊥
  unfolding node_outcome
  no-seat told seat on stands =
      no-seat-by (node_at nodes n) (is_gone (mode_of st n)) refl told seat.slot
      (subst (λ (k : NodeNo). IsSomeAnd (node_at nodes k) (λ m. (seat.slot < m.slots) × (mode_of st k ≢ Gone))) on stands)

  none-on : AreSeated nodes st → (node_outcome nodes st node.Fail n).0 ≡ Refused r → (f : ℕ) → is_on_any (n ∷ []) (homes_of st.homes s f) ≡ false
  none-on seated told f = by (home_of st.homes s f) refl where
    by : (o : Option Held) → home_of st.homes s f ≡ o → is_on_any (n ∷ []) (seat_in o) ≡ false
    by None is = refl
    by (Some h) is = elim (cases_Bool (same_node h.seat.node n)) [
      | inl on ↦
          let among = Contains-append_left st.homes (map held_by st.leases) h (found-home st s f h is).0 in
          absurd (no-seat told h.seat (equal_nodes h.seat.node n (eqb-true h.seat.node.value n.value on))
          (All-contains (IsStanding nodes st) (taken_seats st) h.seat seated.standing (map-member (λ (g : Held). g.seat) (seats_of st) h among)))
      | inr apart ↦ rw apart refl
    ]

  -- and no target
  lease-stays : AreSeated nodes st → (node_outcome nodes st node.Fail n).0 ≡ Refused r → (f : Fragment) → lease_of (state_with Lose st (n ∷ [])) s f ≡ lease_of st s f
  lease-stays seated told f = lease-lost st (n ∷ []) s f seated.one_home seated.one_lease ∙ by (lease_of st s f) refl where
    by : (o : Option Lease) → lease_of st s f ≡ o → option_filter (λ l. not (is_lease_hit (n ∷ []) st l)) o ≡ o
    by None is = refl
    by (Some l) is = kept-one (λ k. not (is_lease_hit (n ∷ []) st k)) l (ap not (off (cases_Bool (same_node l.target.node n)))) where
      homeless-there : is_on_any (n ∷ []) (homes_of st.homes l.stripe l.fragment.value) ≡ false
      homeless-there =
          subst (λ (t : StripeNo). is_on_any (n ∷ []) (homes_of st.homes t l.fragment.value) ≡ false) (sym (own-lease st s f l is).0) (none-on seated told l.fragment.value)

      off : (same_node l.target.node n ≡ true) ⊎ (same_node l.target.node n ≡ false) → is_lease_hit (n ∷ []) st l ≡ false
      off (inl on) =
          let among = Contains-append_right st.homes (map held_by st.leases) (held_by l) (map-member held_by st.leases l (leases_in-contains st.leases s f.value l is)) in
          absurd (no-seat told l.target (equal_nodes l.target.node n (eqb-true l.target.node.value n.value on))
          (All-contains (IsStanding nodes st) (taken_seats st) l.target seated.standing (map-member (λ (g : Held). g.seat) (seats_of st) (held_by l) among)))
      off (inr apart) = ap (λ (b : Bool). (b || false) || is_on_any (n ∷ []) (homes_of st.homes l.stripe l.fragment.value)) apart ∙ homeless-there

  same-more : (own b hit : Bool) → hit ≡ false → (b || (own && hit)) ≡ b
  same-more true true false none = refl
  same-more true false false none = refl
  same-more false true false none = refl
  same-more false false false none = refl
  same-more own b true none = absurd (cc)

  -- no home is on the node
  pub lose-refused : AreSeated nodes st → (node_outcome nodes st node.Fail n).0 ≡ Refused r → HasSameLosses nodes st (state_with Lose st (n ∷ [])) s
  lose-refused seated told =
      let none = none-on seated told in
      same-level nodes st (state_with Lose st (n ∷ [])) s (code-after Lose st (n ∷ []) s)
      (λ f. homeless-lost nodes st (n ∷ []) s f seated.one_home
      ∙ same-more (has_fragment (code_of st s) f) (homeless st s f) (is_on_any (n ∷ []) (homes_of st.homes s f)) (none f))
      (λ f. missing-after nodes st (n ∷ []) s f Lose seated.one_home
      ∙ same-more (has_fragment (code_of st s) f) (missing nodes st s f) (is_on_any (n ∷ []) (homes_of st.homes s f)) (none f))
      (lease-stays seated told)
