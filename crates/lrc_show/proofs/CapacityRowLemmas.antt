-- The numbers that no stripe has, and what is read of the nodes.
use Rattle.std.proofs.Common.{◌≡◌, ◌≢◌, ℕ, ◌+◌, ◌<◌, Bool, false, not, List, [], ◌∷◌, ◌++◌, length, get_or, map, filter, arith, ap, ◌∙◌, inl, inr}
use Rattle.std.specs.Prelude.{codes}
use Rattle.std.specs.List.{AllPairs}
use Rattle.std.proofs.lemmas.Bool.{cases_Bool, not-true}
use Rattle.std.proofs.lemmas.List.FromFn.{get_or-map-range_with_len, length-map-range_with_len}
use Rattle.std.proofs.lemmas.List.Kept.{AllPairs-filter}
use Rattle.std.proofs.Math.Nat.{mod-eq_of_lt}
use Rattle.lrc_code.specs.declared.codes.Code.TheVariants.{Wide, Narrow}
use Rattle.lrc_code.specs.declared.numbers.StripeNo.{StripeNo}
use Rattle.lrc_topology.specs.declared.NodeInfo.{NodeInfo}
use Rattle.lrc_terms.specs.Stripes.{stripe_at}
use Rattle.lrc_rules.specs.States.{State, has_stripe}
use Rattle.lrc_rules.proofs.MemberLemmas.{All-members, filter-member}
use Rattle.lrc_book.specs.Looks.{stripe_numbers, stripes_of}
use Rattle.lrc_capacity.specs.declared.capacity.Capacity.{Capacity}
use Rattle.lrc_capacity.specs.Capacities.{room_of, AreUnused}
use Rattle.lrc_capacity.proofs.RoomLemmas.{map-twice}
use Rattle.lrc_show.specs.declared.nodes.NodeFacts.{NodeFacts}
use Rattle.lrc_show.specs.CapacityRows.{unused, capacity_for, capacity_row, capacity_table}
use Rattle.lrc_show.specs.Facts.{node_facts, room_in}
use Rattle.lrc_show.proofs.StatusLemmas.{join}

number-at : (i : ℕ) (d : StripeNo) → i < 4096 → (get_or stripe_numbers i d).value ≡ i
number-at i d within =
    ap (λ (s : StripeNo). s.value) (get_or-map-range_with_len stripe_at 0 4096 i i d within (omega arith)) ∙ mod-eq_of_lt within

numbers-long : length stripe_numbers ≡ 4096
numbers-long = length-map-range_with_len stripe_at 0 4096

numbers-distinct : AllPairs (λ s t. s ≢ t) stripe_numbers
numbers-distinct i j d below within same =
    let high : j < 4096 = omega (arith, within, numbers-long) in
    let low : i < 4096 = omega (arith, below, high) in
    let first = number-at i d low in
    let second = number-at j d high in
    let one = ap (λ (s : StripeNo). s.value) same in
    absurd (omega (arith, below, first, second, one))

-- the numbers that no stripe has are unused
pub unused-is : (st : State) → AreUnused st (unused st)
unused-is st = record {
  absent = All-members (λ s. has_stripe st s ≡ false) (unused st) (λ s here. not-true _ (filter-member (λ t. not (has_stripe st t)) stripe_numbers s here).1);
  distinct = AllPairs-filter (λ s t. s ≢ t) (λ s. not (has_stripe st s)) stripe_numbers numbers-distinct;
}

split-length : {X : Type 0} (p : X → Bool) (xs : List X) → length (filter (λ x. not (p x)) xs) + length (filter p xs) ≡ length xs
split-length p [] = omega arith
split-length p (x ∷ xs) = let rest = split-length p xs in elim (cases_Bool (p x)) [
  | inl hit ↦ rw hit (omega (arith, rest))
  | inr miss ↦ rw miss (omega (arith, rest))
]

-- there are as many as the stripes leave of 4,096
pub unused-count : (st : State) (stripes : List StripeNo) → stripes ≡ stripes_of st → length (unused st) + length stripes ≡ 4096
unfolding stripes_of
unused-count st stripes are =
    ap (λ (l : List StripeNo). length (unused st) + length l) are ∙ split-length (has_stripe st) stripe_numbers ∙ numbers-long

-- what the choice reads of the nodes
pub rooms-told : (st : State) (nodes : List NodeInfo) (facts : List NodeFacts) → facts ≡ map (node_facts st) nodes → map room_in facts ≡ map (room_of st) nodes
rooms-told st nodes facts are = ap (map room_in) are ∙ map-twice room_in (node_facts st) nodes

-- the table is its head and its two rows
pub table-told : (nodes : List NodeInfo) (st : State) (wide narrow : Capacity) (old h a s : List ℕ) → wide ≡ capacity_for nodes st Wide → narrow ≡ capacity_for nodes st Narrow
    → h ≡ old ++ codes "code,stripes,fragment,not_active,offline,full,fault_domain,upgrade_domain,free_slots\n" → a ≡ h ++ capacity_row Wide wide → s ≡ a ++ capacity_row Narrow narrow
    → s ≡ old ++ capacity_table nodes st
table-told nodes st wide narrow old h a s first second head one two =
    let line = codes "code,stripes,fragment,not_active,offline,full,fault_domain,upgrade_domain,free_slots\n" in
    let begun : a ≡ old ++ (line ++ capacity_row Wide (capacity_for nodes st Wide)) =
    join old line _ h a head (one ∙ ap (λ (c : Capacity). h ++ capacity_row Wide c) first) in
    join old _ _ a s begun (two ∙ ap (λ (c : Capacity). a ++ capacity_row Narrow c) second)
