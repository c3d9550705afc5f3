-- The stored nodes: the position of a node, and the effect of setting one.
use Rattle.std.proofs.Common.{◌≡◌, ◌≢◌, ℕ, zero, suc, ◌<◌, inl, inr, Bool, false, if◌then◌else◌, nat_eq, List, [], ◌∷◌, length, map, get_or, set, Option, Some, None, arith, refl, sym, ap, ◌∙◌, subst}
use Rattle.std.proofs.Math.Path.{fun_ext}
use Rattle.std.specs.List.{All, AllPairs}
use Rattle.std.proofs.lemmas.Bool.{cases_Bool, cases_eq, eq-eqb, ne_eqb}
use Rattle.std.proofs.lemmas.List.{get_or-set_same, get_or-set_other, length-map}
use Rattle.lrc_code.specs.declared.numbers.NodeNo.{NodeNo}
use Rattle.lrc_code.specs.declared.numbers.StripeNo.{StripeNo}
use Rattle.lrc_code.specs.Numbers.{same_node}
use Rattle.lrc_code.proofs.NumbersLemmas.{equal_nodes}
use Rattle.lrc_topology.specs.declared.NodeInfo.{NodeInfo}
use Rattle.lrc_topology.specs.Nodes.{place_in}
use Rattle.lrc_nodes.specs.declared.node_state.NodeState.{NodeState}
use Rattle.lrc_rows.specs.NodeStates.{has_node, AreNodes, IsPositionOf}
use Rattle.lrc_ranks.specs.Sets.{has}
use Rattle.lrc_nodes.specs.States.{first_state, numbers_in, node_position, online_in, up_in, draining_in}
use Rattle.lrc_nodes.proofs.StateLemmas.{IsPlaceOf, place-found, one_place}
use Rattle.lrc_nodes.proofs.SetLemmas.{AreSameNodes}

-- ---- at first

online-at_first_at : (nodes : List NodeInfo) (n : NodeNo) → online_in (map first_state nodes) n ≡ has_node nodes n
online-at_first_at [] n = refl
online-at_first_at (x ∷ nodes) n = elim (cases_Bool (nat_eq n.value x.number.value)) [
  | inl here ↦ rw here refl
  | inr later ↦ rw later (online-at_first_at nodes n)
]

-- every node is online
pub online-at_first : (nodes : List NodeInfo) → online_in (map first_state nodes) ≡ has_node nodes
online-at_first nodes = fun_ext (λ n. online-at_first_at nodes n)

up-at_first_at : (nodes : List NodeInfo) (n : NodeNo) → up_in (map first_state nodes) n ≡ has_node nodes n
up-at_first_at [] n = refl
up-at_first_at (x ∷ nodes) n = elim (cases_Bool (nat_eq n.value x.number.value)) [
  | inl here ↦ rw here refl
  | inr later ↦ rw later (up-at_first_at nodes n)
]

-- every node is up
pub up-at_first : (nodes : List NodeInfo) → up_in (map first_state nodes) ≡ has_node nodes
up-at_first nodes = fun_ext (λ n. up-at_first_at nodes n)

draining-at_first_at : (nodes : List NodeInfo) (n : NodeNo) → draining_in (map first_state nodes) n ≡ false
draining-at_first_at [] n = refl
draining-at_first_at (x ∷ nodes) n = elim (cases_Bool (nat_eq n.value x.number.value)) [
  | inl here ↦ rw here refl
  | inr later ↦ rw later (draining-at_first_at nodes n)
]

-- none is draining
pub draining-at_first : (nodes : List NodeInfo) → draining_in (map first_state nodes) ≡ λ n. false
draining-at_first nodes = fun_ext (λ n. draining-at_first_at nodes n)

-- ---- look-ups

-- what a search for a number has found
pub positioned : (states : List NodeState) (sets : List (List Bool)) (n : NodeNo) → length sets ≡ length states → (o : Option ℕ) → o ≡ place_in (numbers_in states) n
    → IsPositionOf (record { list = states; stripes = sets }) n o
positioned states sets n long o is = by o (subst (λ (p : Option ℕ). IsPlaceOf states n p) (sym is) (place-found states n)) where
  by : (o : Option ℕ) → IsPlaceOf states n o → IsPositionOf (record { list = states; stripes = sets }) n o
  by None past = (past, long)
  by (Some p) at = (at.0, at.1, long)

-- the nodes and their numbers
pub numbers-nodes : (states : List NodeState) → map (λ n. n.number) (map (λ x. x.node) states) ≡ numbers_in states
numbers-nodes [] = refl
numbers-nodes (x ∷ states) = ap (λ (ns : List NodeNo). x.node.number ∷ ns) (numbers-nodes states)

-- where the nodes stay, there is still a set for each
pub nodes-kept : (before after : List NodeState) (sets : List (List Bool)) → AreSameNodes before after → AreNodes before sets → AreNodes after sets
nodes-kept before after sets same are =
    let long : length after ≡ length before = sym (length-map after (λ (x : NodeState). x.node)) ∙ (ap length same.nodes ∙ length-map before (λ (x : NodeState). x.node)) in
    record {
      long = are.long ∙ sym long;
      apart = subst (λ (ns : List NodeNo). AllPairs (λ (m n : NodeNo). m.value ≢ n.value) ns)
          (sym (sym (numbers-nodes after) ∙ (ap (map (λ (n : NodeInfo). n.number)) same.nodes ∙ numbers-nodes before))) are.apart;
    }

-- ---- the stripes of the nodes

module _ (states : List NodeState) (sets : List (List Bool)) (long : length sets ≡ length states) where
  -- the set of one node changed
  pub on-changed : (n : NodeNo) (more : List Bool) (m : NodeNo) (s : StripeNo) → node_position states n < length states
      → has (get_or (set sets (node_position states n) more) (node_position states m) []) s ≡ (if same_node n m then has more s else has (get_or sets (node_position states m) []) s)
  on-changed n more m s within = elim (cases_eq n.value m.value) [
    | inl same ↦
        rw (eq-eqb _ _ same) (subst (λ (k : NodeNo). has (get_or (set sets (node_position states n) more) (node_position states k) []) s ≡ has more s) (equal_nodes n m same)
        (ap (λ (bits : List Bool). has bits s) (get_or-set_same sets (node_position states n) more [] (omega (arith, within, long)))))
    | inr other ↦
        rw (ne_eqb _ _ other) (ap (λ (bits : List Bool). has bits s) (get_or-set_other sets (node_position states n) (node_position states m) more []
        (λ e. other (one_place states n m (sym e) within))))
  ]

-- ---- no stripes at first

pub sets-none : (sets : List (List Bool)) → All (λ set. has set ≡ (λ s. false)) sets → (k : ℕ) → has (get_or sets k []) ≡ (λ s. false)
sets-none [] none k = fun_ext (λ s. refl)
sets-none (x ∷ sets) none zero = none 0 [] (omega arith)
sets-none (x ∷ sets) none (suc k) = sets-none sets (λ i d within. none (suc i) d (omega (arith, within))) k
