-- The lowest free slot of a node is one of its slots, and is free.
use Rattle.std.proofs.Common.{◌≡◌, ℕ, ◌<◌, true, false, is_some, List, [], ◌∷◌, Option, Some, None, IsSome, IsSomeAnd, option_and_then, refl, sym, ◌∙◌, inl, inr}
use Rattle.std.proofs.lemmas.Bool.{cases_Bool, eqb-true}
use Rattle.std.proofs.lemmas.Option.{same_Some}
use Rattle.lrc_code.specs.declared.numbers.NodeNo.{NodeNo}
use Rattle.lrc_code.specs.Numbers.{same_node}
use Rattle.lrc_code.proofs.NumbersLemmas.{equal_nodes}
use Rattle.lrc_topology.specs.declared.NodeInfo.{NodeInfo}
use Rattle.lrc_topology.specs.Nodes.{node_at}
use Rattle.lrc_slots.specs.Slots.{Slots, least_free, least_free_at}
use Rattle.lrc_slots.proofs.LawLemmas.{least_free-some, least_free-none, none-known}

-- a node that is found has the number
node_at-number : (nodes : List NodeInfo) (n : NodeNo) (m : NodeInfo) → node_at nodes n ≡ Some m → n ≡ m.number
node_at-number [] n m found = absurd (cc)
node_at-number (x ∷ xs) n m found = elim (cases_Bool (same_node n x.number)) [
  | inl hit ↦
      let same : x ≡ m = same_Some _ _ (rw hit at found) in
      equal_nodes n m.number (rw (← same) (eqb-true _ _ hit))
  | inr miss ↦ node_at-number xs n m (rw miss at found)
]

-- the node of a slot is one of the nodes
pub known-slot : (o : Option NodeInfo) (k : ℕ) → IsSomeAnd o (λ m. k < m.slots) → IsSome o
known-slot (Some m) k within = refl
known-slot None k within = absurd within

module _ (t : Slots) (n : NodeNo) (k : ℕ) where
  open-at : (o : Option NodeInfo) → node_at t.nodes n ≡ o → option_and_then (least_free t) o ≡ Some k
      → IsSomeAnd o (λ m. k < m.slots) × (t.taken n k ≡ false)
  open-at None found e = absurd (cc)
  open-at (Some m) found e =
      let free = (least_free-some t m k).0 e in
      (free.within, rw (node_at-number t.nodes n m found) free.free)

  -- the lowest free slot of a node is one of its slots, and is free
  pub least-open : least_free_at t n ≡ Some k → IsSomeAnd (node_at t.nodes n) (λ m. k < m.slots) × (t.taken n k ≡ false)
  least-open e = open-at (node_at t.nodes n) refl e

-- a node with a free slot has a lowest one
pub open-least : (t : Slots) (m : NodeInfo) (k : ℕ) → k < m.slots → t.taken m.number k ≡ false → IsSome (least_free t m)
open-least t m k within free = elim (cases_Bool (is_some (least_free t m))) [
  | inl some ↦ some
  | inr none ↦ absurd (let full : t.taken m.number k ≡ true = (least_free-none t m).0 (none-known _ none) k within in
      let both : true ≡ false = sym full ∙ free in cc)
]
