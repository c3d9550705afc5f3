-- Where no node takes a seat, no repair is granted.
use Rattle.std.proofs.Common.{◌≡◌, true, false, not, ◌&&◌, List, filter, Option, Some, None, option_map, option_and_then, is_none, is_some, refl, sym, ap, ◌∙◌, subst}
use Rattle.std.specs.List.{Contains}
use Rattle.std.proofs.lemmas.Bool.{and_parts, and_from}
use Rattle.lrc_code.specs.declared.numbers.StripeNo.{StripeNo}
use Rattle.lrc_code.specs.declared.numbers.NodeNo.{NodeNo}
use Rattle.lrc_code.specs.declared.numbers.Fragment.{Fragment}
use Rattle.lrc_code.proofs.OrderLemmas.{least-none}
use Rattle.lrc_topology.specs.declared.NodeInfo.{NodeInfo}
use Rattle.lrc_topology.specs.declared.seat.Seat.{Seat}
use Rattle.lrc_slots.specs.Slots.{Slots, least_free, least_free_at}
use Rattle.lrc_slots.specs.Barred.{Barred, no_bars}
use Rattle.lrc_slots.specs.Next.{may_take, is_chosen_before, next_node, next_number}
use Rattle.lrc_terms.specs.Stripes.{StripeFragment}
use Rattle.lrc_store.specs.declared.store.Store.{Store}
use Rattle.lrc_rules.specs.States.{State, lease_of, rank}
use Rattle.lrc_rules.specs.Placement.{chosen}
use Rattle.lrc_rules.specs.Repairs.{needs, is_beyond_repair}
use Rattle.lrc_rules.specs.Urgency.{is_grantable, is_repaired_before, stripe_fragments, next_of}
use Rattle.lrc_bars.specs.Ties.{table_of, bars_of}
use Rattle.lrc_store.specs.Stores.{IsOf}
use Rattle.lrc_rules.proofs.MemberLemmas.{filter-member, member-filter, not-Contains-nil, no-member}
use Rattle.lrc_bars.proofs.PlanLemmas.{table-chosen}

-- ---- a node that takes a seat where domains are barred takes one where none is

module _ (t : Slots) (b : Barred) where
  may_anyhow : (n : NodeInfo) → may_take t b n ≡ true → may_take t no_bars n ≡ true
  may_anyhow n e =
      let both = and_parts (t.eligible n.number && is_some (least_free t n)) _ e in
      and_from (t.eligible n.number && is_some (least_free t n)) true both.0 refl

  none-by : (o : Option NodeInfo) → is_some (option_map (λ n. n.number) o) ≡ false → o ≡ None
  none-by None e = refl
  none-by (Some n) e = absurd (cc)

  none-barred : is_some (next_number t no_bars) ≡ false → next_number t b ≡ None
  none-barred e =
      let open_none = (least-none (is_chosen_before t) (filter (may_take t no_bars) t.nodes)).0 (none-by (next_node t no_bars) e) in
      let barred_none = no-member (filter (may_take t b) t.nodes) (λ n here.
      let m = filter-member (may_take t b) t.nodes n here in
      not-Contains-nil n (subst (λ (xs : List NodeInfo). Contains xs n) open_none (member-filter (may_take t no_bars) t.nodes n m.0 (may_anyhow n m.1)))) in
      ap (option_map (λ n. n.number)) ((least-none (is_chosen_before t) (filter (may_take t b) t.nodes)).1 barred_none)

-- ---- so none is chosen

module _ (st : State) (k : Store) (kept : IsOf st k) (full : is_some (next_number (table_of k.topology st) no_bars) ≡ false) where
  none-chosen : (s : StripeNo) (f : Fragment) → chosen k.topology st s f ≡ None
  none-chosen s f =
      let t = table_of k.topology st in
      sym (table-chosen k.topology st s f kept.known kept.seated)
      ∙ ap (option_and_then (λ (n : NodeNo). option_map (λ slot. record { node = n; slot = slot }) (least_free_at t n)))
      (none-barred t (bars_of k.topology st s f) full)

  -- no fragment's lease would be granted
  ungrantable : (p : StripeFragment) → is_grantable k.topology st p ≡ true → ⊥
  ungrantable p e =
      let free = and_parts (is_none (lease_of st p.0 p.1)) _ e in
      let need = and_parts (needs k.topology st p.0 p.1) _ free.1 in
      let rest = and_parts (not (is_beyond_repair k.topology st p.0 p.1)) _ need.1 in
      (let both : false ≡ true = sym (ap (λ (o : Option Seat). is_some o) (none-chosen p.0 p.1)) ∙ rest.1 in cc)

  pub no-next : None ≡ next_of k.topology st
  unfolding next_of
  no-next =
      let test = is_grantable k.topology st in
      sym ((least-none (is_repaired_before (rank k.topology st)) (filter test (stripe_fragments st))).1
      (no-member (filter test (stripe_fragments st)) (λ p here. ungrantable p (filter-member test (stripe_fragments st) p here).1)))
