-- Alike states show the same: codes, homes, leases, modes, missing fragments, levels, loads and the risk list.
use Rattle.std.proofs.Common.{◌≡◌, ◌≢◌, ℕ, Bool, false, not, ◌&&◌, if◌then◌else◌, eqb, List, map, filter, Some, None, option_map, refl, ap, ◌∙◌, subst}
use Rattle.std.proofs.Math.Path.{fun_ext}
use Rattle.std.specs.List.{AllPairs, list_any}
use Rattle.std.specs.Option.{option_map_or}
use Rattle.std.proofs.lemmas.Bool.{eqb-true, and_parts}
use Rattle.std.proofs.lemmas.List.Kept.{AllPairs-filter}
use Rattle.lrc_code.specs.declared.codes.Code.TheVariants.{Wide, Narrow}
use Rattle.lrc_code.specs.declared.numbers.StripeNo.{StripeNo}
use Rattle.lrc_code.specs.declared.numbers.NodeNo.{NodeNo}
use Rattle.lrc_code.specs.declared.numbers.Fragment.{Fragment}
use Rattle.lrc_code.specs.Numbers.{same_stripe, same_node}
use Rattle.lrc_code.specs.Codes.{fragments, others, all_fragments}
use Rattle.lrc_code.specs.Losses.{is_recoverable, is_local}
use Rattle.lrc_code.specs.Order.{in_order}
use Rattle.lrc_code.proofs.NumbersLemmas.{equal_stripes}
use Rattle.lrc_topology.specs.declared.NodeInfo.{NodeInfo}
use Rattle.lrc_topology.specs.declared.seat.Seat.{Seat}
use Rattle.lrc_topology.specs.declared.seat.Held.{Held}
use Rattle.lrc_topology.specs.Nodes.{node_at}
use Rattle.lrc_terms.specs.declared.lease.Lease.{Lease}
use Rattle.lrc_terms.specs.declared.level.Level.{Level}
use Rattle.lrc_terms.specs.Leased.{LeaseMap, AreOneEach, leases_in}
use Rattle.lrc_terms.specs.Levels.{home_of, homes_of, homeless_in, missing_in, needs_in, level_by, level_if, missing_if, rank_by, comes_first, is_whole}
use Rattle.lrc_terms.proofs.LeaseLemmas.{same_answers, leases_in-own, leases_in-contains, contains-leases_in}
use Rattle.lrc_rules.specs.declared.kind.Kind.TheVariants.{Move, Global}
use Rattle.lrc_rules.specs.States.{State, has_stripe, code_of, held_by, seats_of, taken_seats, load, lease_of, has_number, mode_of, is_down, is_online, online_at, drains_at, missing, level, rank, code_shown, homes_shown, load_shown, level_shown, missing_shown, mode_shown}
use Rattle.lrc_terms.specs.Modes.{is_draining}
use Rattle.lrc_rules.specs.Repairs.{needs, is_at_home, is_safe, local_kind, kind, is_global, is_beyond_repair}
use Rattle.lrc_rules.specs.Urgency.{by_rank, has_work, work, risk}
use Rattle.lrc_rules.specs.Alike.{HaveSame, AreAlike}
use Rattle.lrc_rules.specs.Goodness.{AreSeated}
use Rattle.lrc_rules.proofs.MemberLemmas.{find-member}
use Rattle.lrc_rules.proofs.LookUpLemmas.{is_of, home-only}
use Rattle.lrc_rules.proofs.UrgencyLemmas.{stripe-order, stripe-ties}
use Rattle.lrc_rules.proofs.AlikeListLemmas.{IsWithinList, into, back, same-any, same-append, same-map, same-filter, same-count, same-in_order}

-- ---- stripes and nodes

module _ (w v : State) (alike : AreAlike w v) where
  pub alike-there : has_stripe w ≡ has_stripe v
  alike-there = fun_ext (λ s. same-any (same_stripe s) w.stripes v.stripes alike.stripes)

  pub alike-code : code_of w ≡ code_of v
  alike-code = fun_ext (λ s. ap (λ (b : Bool). if b then Narrow else Wide) (same-any (same_stripe s) w.narrow v.narrow alike.narrow))

  pub alike-gone : (n : NodeNo) → has_number w.gone n ≡ has_number v.gone n
  alike-gone n = same-any (same_node n) w.gone v.gone alike.gone

  pub alike-draining : (n : NodeNo) → has_number w.draining n ≡ has_number v.draining n
  alike-draining n = same-any (same_node n) w.draining v.draining alike.draining

  pub alike-mode : (n : NodeNo) → mode_of w n ≡ mode_of v n
  alike-mode n = rw (alike-gone n, alike-draining n) refl

  pub alike-down : (n : NodeNo) → is_down w n ≡ is_down v n
  alike-down n = same-any (same_node n) w.down v.down alike.down

  pub alike-online : is_online w ≡ is_online v
  alike-online = fun_ext (λ n. rw (alike-mode n.number, alike-down n.number, alike.upgrading) refl)

  pub alike-online_at : (nodes : List NodeInfo) → online_at nodes w ≡ online_at nodes v
  alike-online_at nodes = let online = alike-online in λ i n. option_map_or (online i) (node_at nodes n) false

  alike-drains_at : (nodes : List NodeInfo) → drains_at nodes w ≡ drains_at nodes v
  alike-drains_at nodes =
      let mode = fun_ext alike-mode in λ i n. option_map_or (λ (m : NodeInfo). is_draining (mode i m.number)) (node_at nodes n) false

  pub alike-seats : HaveSame (seats_of w) (seats_of v)
  alike-seats = same-append w.homes (map held_by w.leases) v.homes (map held_by v.leases) alike.homes (same-map held_by w.leases v.leases alike.leases)

  pub alike-taken : HaveSame (taken_seats w) (taken_seats v)
  alike-taken = same-map (λ (h : Held). h.seat) (seats_of w) (seats_of v) alike-seats

-- ---- the home and the lease of a fragment

home-within : (xs ys : List Held) → IsWithinList xs ys → AllPairs (λ h g. h.stripe ≡ g.stripe → h.fragment ≢ g.fragment) ys
    → (s : StripeNo) (f : ℕ) (h : Held) → home_of xs s f ≡ Some h → home_of ys s f ≡ Some h
home-within xs ys within single s f h found =
    let m = find-member (is_of s f) xs h found in
    let parts = and_parts (eqb h.stripe.value s.value) (eqb h.fragment.value f) m.1 in
    subst (λ (g : ℕ). home_of ys s g ≡ Some h) (eqb-true h.fragment.value f parts.1)
    (subst (λ (r : StripeNo). home_of ys r h.fragment.value ≡ Some h) (equal_stripes h.stripe s (eqb-true h.stripe.value s.value parts.0))
    (home-only ys single h (within h m.0)))

lease-within : (xs ys : List Lease) → IsWithinList xs ys → AreOneEach ys → (s : StripeNo) (f : ℕ) (l : Lease) → leases_in xs s f ≡ Some l
    → leases_in ys s f ≡ Some l
lease-within xs ys within single s f l found =
    let own = leases_in-own xs s f l found in
    subst (λ (g : ℕ). leases_in ys s g ≡ Some l) own.1
    (subst (λ (r : StripeNo). leases_in ys r l.fragment.value ≡ Some l) own.0
    (contains-leases_in ys l single (within l (leases_in-contains xs s f l found))))

-- lists with the same homes, at most one of each fragment
pub same-homes : (xs ys : List Held) → HaveSame xs ys → AllPairs (λ h g. h.stripe ≡ g.stripe → h.fragment ≢ g.fragment) xs
    → AllPairs (λ h g. h.stripe ≡ g.stripe → h.fragment ≢ g.fragment) ys → homes_of xs ≡ homes_of ys
same-homes xs ys same single single' = fun_ext (λ s. fun_ext (λ f. ap (option_map (λ (h : Held). h.seat)) (same_answers (home_of xs s f) (home_of ys s f)
    (home-within xs ys (into xs ys same) single' s f) (home-within ys xs (back xs ys same) single s f))))

-- ---- what the two states show

module _ (nodes : List NodeInfo) (w v : State) (alike : AreAlike w v) (seated : AreSeated nodes w) (seated' : AreSeated nodes v) where
  pub alike-homes : homes_of w.homes ≡ homes_of v.homes
  alike-homes = same-homes w.homes v.homes alike.homes seated.one_home seated'.one_home

  pub alike-leases : leases_in w.leases ≡ leases_in v.leases
  alike-leases = fun_ext (λ s. fun_ext (λ f. same_answers (leases_in w.leases s f) (leases_in v.leases s f)
      (lease-within w.leases v.leases (into w.leases v.leases alike.leases) seated'.one_lease s f)
      (lease-within v.leases w.leases (back w.leases v.leases alike.leases) seated.one_lease s f)))

  pub alike-lease : (s : StripeNo) (f : Fragment) → lease_of w s f ≡ lease_of v s f
  alike-lease s f = ap (λ (leases : LeaseMap). leases s f.value) alike-leases

  -- no seat is held twice, so the counts of seats are the same
  pub alike-load : load w ≡ load v
  alike-load = fun_ext (λ n. same-count (λ (seat : Seat). same_node seat.node n) (taken_seats w) (taken_seats v) (alike-taken w v alike) seated.single seated'.single)

  alike-missing : missing nodes w ≡ missing nodes v
  alike-missing =
      let code = alike-code w v alike in
      let online = alike-online_at w v alike nodes in
      let homes = alike-homes in λ i s. missing_in (code i s) (online i) (homes i s)

  alike-level : level nodes w ≡ level nodes v
  alike-level =
      let code = alike-code w v alike in
      let missing = alike-missing in
      let homes = alike-homes in λ i s. level_by (code i s) (homeless_in (code i s) (homes i s)) (missing i s)

  pub alike-rank : rank nodes w ≡ rank nodes v
  alike-rank = let code = alike-code w v alike in let missing = alike-missing in λ i s. rank_by (code i s) (missing i s)

  pub alike-needs : needs nodes w ≡ needs nodes v
  alike-needs =
      let code = alike-code w v alike in
      let drains = alike-drains_at w v alike nodes in
      let homes = alike-homes in λ i s f. needs_in (code i s) (drains i) (homes i s) f.value

  pub alike-safe : is_safe nodes w ≡ is_safe nodes v
  alike-safe = let code = alike-code w v alike in let missing = alike-missing in λ i s. is_recoverable (code i s) (missing i s)

  alike-at_home : is_at_home nodes w ≡ is_at_home nodes v
  alike-at_home =
      let online = alike-online_at w v alike nodes in
      let homes = alike-homes in λ i s f. option_map_or (λ (seat : Seat). online i seat.node) (homes i s f.value) false

  pub alike-kind : kind nodes w ≡ kind nodes v
  unfolding kind
  alike-kind =
      let code = alike-code w v alike in
      let missing = alike-missing in
      let at_home = alike-at_home in
      λ i s f. if at_home i s f then Move
      else (if is_local (code i s) (missing i s) f then local_kind (code i s) (others (code i s) f) else Global)

  pub alike-beyond : is_beyond_repair nodes w ≡ is_beyond_repair nodes v
  alike-beyond = let safe = alike-safe in let kind = alike-kind in λ i s f. not (safe i s) && is_global (kind i s f)

  -- ---- lists by rank

  alike-by_rank : (test : StripeNo → Bool) → by_rank nodes w (filter test w.stripes) ≡ by_rank nodes v (filter test v.stripes)
  alike-by_rank test =
      ap (λ (ranks : StripeNo → ℕ). in_order (comes_first ranks) (filter test w.stripes)) alike-rank
      ∙ same-in_order (comes_first (rank nodes v)) (stripe-order (rank nodes v)) (stripe-ties (rank nodes v)) (filter test w.stripes) (filter test v.stripes)
      (same-filter test w.stripes v.stripes alike.stripes)
      (AllPairs-filter (λ s t. s ≢ t) test w.stripes seated.stripes) (AllPairs-filter (λ s t. s ≢ t) test v.stripes seated'.stripes)

  pub alike-risk : risk nodes w ≡ risk nodes v
  unfolding risk
  alike-risk =
      let risky = λ (level : StripeNo → Level) (s : StripeNo). not (is_whole (level s)) in
      ap (λ (level : StripeNo → Level). map (λ s. (s, level s)) (by_rank nodes w (filter (risky level) w.stripes))) alike-level
      ∙ ap (map (λ s. (s, level nodes v s))) (alike-by_rank (risky (level nodes v)))

  pub alike-work : work nodes w ≡ work nodes v
  unfolding work
  alike-work =
      let code = alike-code w v alike in
      let needs = alike-needs in
      (λ i. by_rank nodes w (filter (λ s. list_any (needs i s) (fragments (code i s))) w.stripes)) ∙ alike-by_rank (has_work nodes v)

  -- ---- answers

  pub alike-code_shown : (s : StripeNo) → code_shown w s ≡ code_shown v s
  alike-code_shown s =
      let there = alike-there w v alike in
      let code = alike-code w v alike in λ i. if there i s then Some (code i s) else None

  pub alike-homes_shown : (s : StripeNo) → homes_shown w s ≡ homes_shown v s
  alike-homes_shown s =
      let there = alike-there w v alike in
      let homes = alike-homes in λ i. if there i s then Some (map (λ (f : Fragment). homes i s f.value) all_fragments) else None

  pub alike-level_shown : (s : StripeNo) → level_shown nodes w s ≡ level_shown nodes v s
  alike-level_shown s =
      let there = alike-there w v alike in
      let code = alike-code w v alike in
      let online = alike-online_at w v alike nodes in
      let homes = alike-homes in λ i. level_if (there i s) (code i s) (online i) (homes i s)

  pub alike-missing_shown : (s : StripeNo) → missing_shown nodes w s ≡ missing_shown nodes v s
  alike-missing_shown s =
      let there = alike-there w v alike in
      let code = alike-code w v alike in
      let online = alike-online_at w v alike nodes in
      let homes = alike-homes in λ i. missing_if (there i s) (code i s) (online i) (homes i s)

  pub alike-mode_shown : (n : NodeNo) → mode_shown nodes w n ≡ mode_shown nodes v n
  alike-mode_shown n =
      let mode = fun_ext (alike-mode w v alike) in
      let online = alike-online w v alike in λ i. option_map (λ (m : NodeInfo). (mode i m.number, online i m)) (node_at nodes n)

  pub alike-load_shown : (n : NodeNo) → load_shown nodes w n ≡ load_shown nodes v n
  alike-load_shown n = let load = alike-load in λ i. option_map (λ (m : NodeInfo). load i m.number) (node_at nodes n)
