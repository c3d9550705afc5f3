-- In alike states the rules choose the same: seats, the seats of a new stripe, the most urgent fragment, and the
-- stripe that an upgrade would lose.
use Rattle.std.proofs.Common.{[], ◌≡◌, ℕ, inl, inr, Bool, false, not, ◌&&◌, nat_lt, List, ◌∷◌, map, filter, flat_map, Option, Some, is_none, is_some, option_map, option_and_then, refl, sym, ap, ◌∙◌, subst, arith}
use Rattle.std.proofs.Math.Path.{fun_ext}
use Rattle.std.specs.List.{list_any}
use Rattle.std.specs.Option.{option_map_or}
use Rattle.std.proofs.lemmas.Bool.{ltb-false}
use Rattle.std.proofs.lemmas.List.Sorted.{IsStrictWeakOrder-by_number}
use Rattle.lrc_code.specs.declared.codes.Code.{Code}
use Rattle.lrc_code.specs.declared.numbers.StripeNo.{StripeNo}
use Rattle.lrc_code.specs.declared.numbers.UpgradeNo.{UpgradeNo}
use Rattle.lrc_code.specs.declared.numbers.Fragment.{Fragment}
use Rattle.lrc_code.specs.Codes.{fragments}
use Rattle.lrc_code.specs.Order.{least}
use Rattle.lrc_code.proofs.NumbersLemmas.{equal_stripes}
use Rattle.lrc_topology.specs.declared.NodeInfo.{NodeInfo}
use Rattle.lrc_topology.specs.declared.seat.Seat.{Seat}
use Rattle.lrc_topology.specs.declared.seat.Held.{Held}
use Rattle.lrc_topology.specs.Nodes.{AreNodes, node_at}
use Rattle.lrc_topology.specs.Seats.{is_taken, first_slot, is_lighter, is_preferred}
use Rattle.lrc_terms.specs.Stripes.{StripeFragment}
use Rattle.lrc_rules.specs.States.{State, code_of, seats_of, taken_seats, is_eligible, rank}
use Rattle.lrc_terms.specs.Modes.{is_active}
use Rattle.lrc_rules.specs.Placement.{clashes, is_beside, bars, fits, chosen, with_home}
use Rattle.lrc_rules.specs.Choices.{AreChosen, IsFirstWithout}
use Rattle.lrc_rules.specs.Urgency.{is_grantable, stripe_fragments, is_repaired_before, next_of}
use Rattle.lrc_rules.specs.Steps.{with_upgrading, is_lost_to, would_lose}
use Rattle.lrc_rules.specs.Alike.{HaveSame, AreAlike}
use Rattle.lrc_rules.specs.Goodness.{AreSeated}
use Rattle.lrc_rules.proofs.SeatedLemmas.{upgrading-seated}
use Rattle.lrc_rules.proofs.SeatingLemmas.{IsPlacing, placing-some}
use Rattle.lrc_rules.proofs.TakenLemmas.{taken-same}
use Rattle.lrc_rules.proofs.UrgencyLemmas.{fragment-order, fragment-ties}
use Rattle.lrc_rules.proofs.AlikeListLemmas.{into, back, same-any, same-filter, same-least, same-more, same-flat_map}
use Rattle.lrc_rules.proofs.AlikeReadLemmas.{alike-code, alike-mode, alike-online, alike-seats, alike-taken, alike-leases, alike-load, alike-rank, alike-needs, alike-safe, alike-beyond}

module _ (nodes : List NodeInfo) (w v : State) (alike : AreAlike w v) (seated : AreSeated nodes w) (seated' : AreSeated nodes v) where
  -- ---- seats

  pub same-taken : is_taken (taken_seats w) ≡ is_taken (taken_seats v)
  same-taken =
      let same = alike-taken w v alike in
      taken-same (taken_seats w) (taken_seats v) (into (taken_seats w) (taken_seats v) same) (back (taken_seats w) (taken_seats v) same)

  same-eligible : is_eligible w ≡ is_eligible v
  same-eligible =
      let mode = fun_ext (alike-mode w v alike) in
      let online = alike-online w v alike in
      let taken = same-taken in
      λ i n. (is_active (mode i n.number) && online i n) && is_some (first_slot (taken i n.number) 0 n.slots)

  same-bars : (s : StripeNo) (f : Fragment) (n : NodeInfo) → list_any (bars nodes w s f n) (seats_of w) ≡ list_any (bars nodes v s f n) (seats_of v)
  same-bars s f n =
      let code = alike-code w v alike in
      same-any (bars nodes w s f n) (seats_of w) (seats_of v) (alike-seats w v alike)
      ∙ (λ i. list_any (λ (h : Held). is_beside s f h && option_map_or (λ (m : NodeInfo). clashes (code i s) f n h.fragment m) (node_at nodes h.seat.node) false) (seats_of v))

  same-fits : (s : StripeNo) (f : Fragment) → fits nodes w s f ≡ fits nodes v s f
  same-fits s f =
      let eligible = same-eligible in
      let barred = fun_ext (same-bars s f) in λ i n. eligible i n && not (barred i n)

  same-preferred : is_preferred (taken_seats w) ≡ is_preferred (taken_seats v)
  same-preferred = let load = alike-load nodes w v alike seated seated' in λ i n m. is_lighter (load i n.number) n.number (load i m.number) m.number

  -- the same seat is chosen
  pub alike-chosen : chosen nodes w ≡ chosen nodes v
  unfolding chosen
  alike-chosen = fun_ext (λ s. fun_ext (λ f.
      let taken = same-taken in
      let preferred = same-preferred in
      let fits = same-fits s f in
      λ i. option_and_then (λ (n : NodeInfo). option_map (λ (slot : ℕ). record { node = n.number; slot = slot }) (first_slot (taken i n.number) 0 n.slots))
      (least (preferred i) (filter (fits i) nodes))))

  -- ---- the most urgent fragment

  same-grantable : is_grantable nodes w ≡ is_grantable nodes v
  same-grantable =
      let leases = alike-leases nodes w v alike seated seated' in
      let needs = alike-needs nodes w v alike seated seated' in
      let beyond = alike-beyond nodes w v alike seated seated' in
      let chosen = alike-chosen in
      λ i p. is_none (leases i p.0 p.1.value) && (needs i p.0 p.1 && (not (beyond i p.0 p.1) && is_some (chosen i p.0 p.1)))

  abbrev fragments_by : (StripeNo → Code) → StripeNo → List StripeFragment
  fragments_by code s = map (λ f. (s, f)) (fragments (code s))

  same-fragments : HaveSame (stripe_fragments w) (stripe_fragments v)
  same-fragments =
      subst (λ (code : StripeNo → Code). HaveSame (flat_map (fragments_by (code_of w)) w.stripes) (flat_map (fragments_by code) v.stripes)) (alike-code w v alike)
      (same-flat_map (fragments_by (code_of w)) w.stripes v.stripes alike.stripes)

  pub alike-next : next_of nodes w ≡ next_of nodes v
  unfolding next_of
  alike-next =
      let rank' = rank nodes v in
      let ranks = alike-rank nodes w v alike seated seated' in
      let grantable = same-grantable in
      (λ i. least (is_repaired_before (ranks i)) (filter (grantable i) (stripe_fragments w)))
      ∙ same-least (is_repaired_before rank') (fragment-order rank') (fragment-ties rank') (filter (is_grantable nodes v) (stripe_fragments w)) (filter (is_grantable nodes v) (stripe_fragments v))
      (same-filter (is_grantable nodes v) (stripe_fragments w) (stripe_fragments v) same-fragments)

  -- ---- upgrades

  upgrading-alike : (u : UpgradeNo) → AreAlike (with_upgrading w u) (with_upgrading v u)
  upgrading-alike u = record {
    stripes = alike.stripes;
    narrow = alike.narrow;
    homes = alike.homes;
    leases = alike.leases;
    gone = alike.gone;
    draining = alike.draining;
    down = alike.down;
    upgrading = refl;
    clock = alike.clock;
  }

  same-lost : (u : UpgradeNo) → is_lost_to nodes w u ≡ is_lost_to nodes v u
  same-lost u =
      let before = alike-safe nodes w v alike seated seated' in
      let after = alike-safe nodes (with_upgrading w u) (with_upgrading v u) (upgrading-alike u) (upgrading-seated nodes w (Some u) seated) (upgrading-seated nodes v (Some u) seated') in
      λ i s. before i s && not (after i s)

  pub alike-loses : (u : UpgradeNo) → would_lose nodes w u ≡ would_lose nodes v u
  unfolding would_lose
  alike-loses u =
      let lower = λ (s t : StripeNo). nat_lt s.value t.value in
      ap (λ (lost : StripeNo → Bool). least lower (filter lost w.stripes)) (same-lost u)
      ∙ same-least lower (IsStrictWeakOrder-by_number (λ (s : StripeNo). s.value))
      (λ a b x y. equal_stripes a b (let most = ltb-false a.value b.value x in let least = ltb-false b.value a.value y in omega (arith, most, least)))
      (filter (is_lost_to nodes v u) w.stripes) (filter (is_lost_to nodes v u) v.stripes)
      (same-filter (is_lost_to nodes v u) w.stripes v.stripes alike.stripes)

-- ---- the seats of a new stripe

with_home-alike : (w v : State) (s : StripeNo) (f : Fragment) (seat : Seat) → AreAlike w v → AreAlike (with_home w s f seat) (with_home v s f seat)
with_home-alike w v s f seat alike = record {
  stripes = alike.stripes;
  narrow = alike.narrow;
  homes = same-more w.homes v.homes (record { stripe = s; fragment = f; seat = seat } ∷ []) alike.homes;
  leases = alike.leases;
  gone = alike.gone;
  draining = alike.draining;
  down = alike.down;
  upgrading = alike.upgrading;
  clock = alike.clock;
}

module _ (nodes : List NodeInfo) (known : AreNodes nodes) (s : StripeNo) where
  same-chosen : (w v : State) (f : Fragment) (fs : List Fragment) → AreAlike w v → IsPlacing nodes s w (f ∷ fs) → IsPlacing nodes s v (f ∷ fs)
      → chosen nodes v s f ≡ chosen nodes w s f
  same-chosen w v f fs alike p q = sym (ap (λ (choose : StripeNo → Fragment → Option Seat). choose s f) (alike-chosen nodes w v alike p.seated q.seated))

  -- the seats that are chosen in turn are the same
  pub alike-seats_chosen : (w v : State) (fs : List Fragment) (seats : List Seat) → AreAlike w v → IsPlacing nodes s w fs → IsPlacing nodes s v fs
      → AreChosen nodes w s fs seats → AreChosen nodes v s fs seats
  alike-seats_chosen w v [] [] alike p q all = all
  alike-seats_chosen w v (f ∷ fs) (seat ∷ seats) alike p q all =
      let own = same-chosen w v f fs alike p q ∙ all.0 in (
        own,
        alike-seats_chosen (with_home w s f seat) (with_home v s f seat) fs seats (with_home-alike w v s f seat alike)
            (placing-some nodes known s w f fs seat p all.0) (placing-some nodes known s v f fs seat q own) all.1,
      )
  alike-seats_chosen w v [] (seat ∷ seats) alike p q all = absurd all
  alike-seats_chosen w v (f ∷ fs) [] alike p q all = absurd all

  -- and so is the first fragment without one
  pub alike-first_without : (w v : State) (fs : List Fragment) (f : Fragment) → AreAlike w v → IsPlacing nodes s w fs → IsPlacing nodes s v fs
      → IsFirstWithout nodes w s fs f → IsFirstWithout nodes v s fs f
  alike-first_without w v [] f alike p q first = absurd first
  alike-first_without w v (g ∷ gs) f alike p q (inl here) = inl (same-chosen w v g gs alike p q ∙ here.0, here.1)
  alike-first_without w v (g ∷ gs) f alike p q (inr later) =
      let own = same-chosen w v g gs alike p q ∙ later.1 in
      inr (
        later.0,
        own,
        alike-first_without (with_home w s g later.0) (with_home v s g later.0) gs f (with_home-alike w v s g later.0 alike)
            (placing-some nodes known s w g gs later.0 p later.1) (placing-some nodes known s v g gs later.0 q own) later.2,
      )
