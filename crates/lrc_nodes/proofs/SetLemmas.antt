-- States of nodes that are set: what changes, and that the nodes stay.
use Rattle.std.proofs.Common.{◌≡◌, ℕ, suc, ◌<◌, inl, inr, Bool, true, false, not, ◌&&◌, nat_eq, if◌then◌else◌, List, [], ◌∷◌, map, length, get_or, set, Option, Some, None, IsSome, is_some, option_map, arith, refl, sym, ap, ◌∙◌}
use Rattle.std.proofs.Math.Path.{fun_ext}
use Rattle.std.proofs.Math.ListN.{length-set}
use Rattle.std.specs.List.{list_any}
use Rattle.std.specs.Option.{option_map_or}
use Rattle.std.proofs.lemmas.Bool.{cases_Bool, cases_eq, eq-eqb, ne_eqb}
use Rattle.std.proofs.lemmas.List.{get_or-set_same, get_or-set_other}
use Rattle.lrc_code.specs.declared.numbers.NodeNo.{NodeNo}
use Rattle.lrc_code.specs.declared.numbers.UpgradeNo.{UpgradeNo}
use Rattle.lrc_code.specs.Numbers.{same_node, same_upgrade}
use Rattle.lrc_code.proofs.NumbersLemmas.{equal_nodes}
use Rattle.lrc_topology.specs.declared.NodeInfo.{NodeInfo}
use Rattle.lrc_topology.specs.Nodes.{node_at}
use Rattle.lrc_nodes.specs.declared.node_state.NodeState.{NodeState}
use Rattle.lrc_terms.specs.declared.mode.Mode.{Mode}
use Rattle.lrc_terms.specs.Modes.{is_gone, is_draining}
use Rattle.lrc_nodes.specs.States.{is_node_up, is_node_online, is_node_draining, infos_in, state_at, node_position, up_in, online_in, draining_in, with_state, with_upgrading_in}
use Rattle.lrc_nodes.specs.Kept.{AreUp}
use Rattle.lrc_nodes.proofs.StateLemmas.{state_at-number}

-- ---- the nodes stay

module _ (f : NodeState → NodeState) (keeps : (x : NodeState) → (f x).node ≡ x.node) where
  nodes-mapped : (states : List NodeState) → map (λ x. x.node) (map f states) ≡ map (λ x. x.node) states
  nodes-mapped [] = refl
  nodes-mapped (x ∷ states) = ap (λ (n : NodeInfo). n ∷ map (λ y. y.node) (map f states)) (keeps x) ∙ ap (λ (ns : List NodeInfo). x.node ∷ ns) (nodes-mapped states)

  position-mapped : (states : List NodeState) (n : NodeNo) → node_position (map f states) n ≡ node_position states n
  position-mapped [] n = refl
  position-mapped (x ∷ states) n =
      ap (λ (k : NodeInfo). if same_node n k.number then 0 else suc (node_position (map f states) n)) (keeps x)
      ∙ ap (λ (p : ℕ). if same_node n x.node.number then 0 else suc p) (position-mapped states n)

  state_at-mapped : (states : List NodeState) (n : NodeNo) → state_at (map f states) n ≡ option_map f (state_at states n)
  state_at-mapped [] n = refl
  state_at-mapped (x ∷ states) n = elim (cases_Bool (nat_eq n.value x.node.number.value)) [
    | inl here ↦
        let there : nat_eq n.value (f x).node.number.value ≡ true = ap (λ (k : NodeInfo). nat_eq n.value k.number.value) (keeps x) ∙ here in
        rw (here, there) refl
    | inr later ↦
        let there : nat_eq n.value (f x).node.number.value ≡ false = ap (λ (k : NodeInfo). nat_eq n.value k.number.value) (keeps x) ∙ later in
        rw (later, there) (state_at-mapped states n)
  ]

-- the list is the same but for the states of its nodes
pub record AreSameNodes (before after : List NodeState) : Type 0 where
  pub nodes : map (λ x. x.node) after ≡ map (λ x. x.node) before
  pub positions : (n : NodeNo) → node_position after n ≡ node_position before n

same-mapped : (f : NodeState → NodeState) → ((x : NodeState) → (f x).node ≡ x.node) → (states : List NodeState) → AreSameNodes states (map f states)
same-mapped f keeps states = record { nodes = nodes-mapped f keeps states; positions = position-mapped f keeps states }

-- ---- the states that pass a test set

module _ (test : NodeInfo → Bool) (set : NodeState → NodeState) (own : (x : NodeState) → (set x).node ≡ x.node) where
  abbrev put : NodeState → NodeState
  put x = if test x.node then set x else x

  put-node : (x : NodeState) → (put x).node ≡ x.node
  put-node x = by (test x.node) where
    by : (b : Bool) → (if b then set x else x).node ≡ x.node
    by true = own x
    by false = refl

  same-put : (states : List NodeState) → AreSameNodes states (map put states)
  same-put states = same-mapped put put-node states

  -- what a node says that is not set
  said-kept : (says : NodeState → Bool) → ((x : NodeState) → says (set x) ≡ says x) → (states : List NodeState) (m : NodeNo)
      → option_map_or says (state_at (map put states) m) false ≡ option_map_or says (state_at states m) false
  said-kept says kept states m = ap (λ (o : Option NodeState). option_map_or says o false) (state_at-mapped put put-node states m) ∙ by (state_at states m) where
    at : (x : NodeState) (b : Bool) → says (if b then set x else x) ≡ says x
    at x true = kept x
    at x false = refl

    by : (o : Option NodeState) → option_map_or says (option_map put o) false ≡ option_map_or says o false
    by None = refl
    by (Some x) = at x (test x.node)

-- what the nodes say if the one with a number is set
module _ (n : NodeNo) (set : NodeState → NodeState) (own : (x : NodeState) → (set x).node ≡ x.node) (says : NodeState → Bool) where
  abbrev is_it : NodeInfo → Bool
  is_it k = same_node n k.number

  abbrev after : List NodeState → List NodeState
  after states = map (put is_it set own) states

  -- the node itself, if there is one
  said-there : (told : Bool) → ((x : NodeState) → says (set x) ≡ told) → (states : List NodeState) → IsSome (state_at states n) → option_map_or says (state_at (after states) n) false ≡ told
  said-there told hit states there = ap (λ (o : Option NodeState). option_map_or says o false) (state_at-mapped (put is_it set own) (put-node is_it set own) states n) ∙ by (state_at states n) refl where
    by : (o : Option NodeState) → state_at states n ≡ o → option_map_or says (option_map (put is_it set own) o) false ≡ told
    by (Some x) e = rw (eq-eqb _ _ (state_at-number states n x e)) (hit x)
    by None e = absurd (let clash : false ≡ true = sym (ap (λ (o : Option NodeState). is_some o) e) ∙ there in cc)

  -- the others
  said-others : (states : List NodeState) (m : NodeNo) → same_node n m ≡ false → option_map_or says (state_at (after states) m) false ≡ option_map_or says (state_at states m) false
  said-others states m other = ap (λ (o : Option NodeState). option_map_or says o false) (state_at-mapped (put is_it set own) (put-node is_it set own) states m) ∙ by (state_at states m) refl where
    by : (o : Option NodeState) → state_at states m ≡ o → option_map_or says (option_map (put is_it set own) o) false ≡ option_map_or says o false
    by (Some x) e = let miss : same_node n x.node.number ≡ false = ap (λ (v : ℕ). nat_eq n.value v) (sym (state_at-number states m x e)) ∙ other in rw miss refl
    by None e = refl

-- ---- the state of a node set

module _ (states : List NodeState) (n : NodeNo) (mode : Mode) (b : Bool) where
  pub same-state : AreSameNodes states (with_state states n mode b)
  same-state = same-put (λ k. same_node n k.number) (λ x. record x { mode = mode; is_down = b }) (λ x. refl) states

  pub online-state : (m : NodeNo) → same_node n m ≡ false → online_in (with_state states n mode b) m ≡ online_in states m
  online-state m other = said-others n (λ x. record x { mode = mode; is_down = b }) (λ x. refl) is_node_online states m other

  pub up-state : (m : NodeNo) → same_node n m ≡ false → up_in (with_state states n mode b) m ≡ up_in states m
  up-state m other = said-others n (λ x. record x { mode = mode; is_down = b }) (λ x. refl) is_node_up states m other

  pub draining-state : IsSome (state_at states n) → draining_in (with_state states n mode b) ≡ λ m. if same_node n m then is_draining mode else draining_in states m
  draining-state there = fun_ext (λ m. elim (cases_eq n.value m.value) [
    | inl same ↦
        rw (eq-eqb _ _ same) (ap (draining_in (with_state states n mode b)) (sym (equal_nodes n m same))
        ∙ said-there n (λ x. record x { mode = mode; is_down = b }) (λ x. refl) is_node_draining (is_draining mode) (λ x. refl) states there)
    | inr other ↦
        let miss : nat_eq n.value m.value ≡ false = ne_eqb _ _ other in
        rw miss (said-others n (λ x. record x { mode = mode; is_down = b }) (λ x. refl) is_node_draining states m miss)
  ])

  -- the flag of the node set
  pub flag-state : (before after : List Bool) → AreUp states before → IsSome (state_at states n) → n.value < 65536 → after ≡ set before n.value (not (is_gone mode) && not b)
      → AreUp (with_state states n mode b) after
  flag-state before after are there small is =
      let up = not (is_gone mode) && not b in
      let long = are.long in
      record {
        long = ap length is ∙ (length-set before n.value up ∙ are.long);
        each = λ m. rw is (elim (cases_eq n.value m.value) [
          | inl same ↦
              ap (λ (k : ℕ). get_or (set before n.value up) k false) (sym same)
              ∙ (get_or-set_same before n.value up false (omega (arith, small, long))
              ∙ (sym (said-there n (λ x. record x { mode = mode; is_down = b }) (λ x. refl) is_node_up up (λ x. refl) states there)
              ∙ ap (up_in (with_state states n mode b)) (equal_nodes n m same)))
          | inr other ↦
              get_or-set_other before n.value m.value up false (λ e. other (sym e))
              ∙ (are.each m ∙ sym (said-others n (λ x. record x { mode = mode; is_down = b }) (λ x. refl) is_node_up states m (ne_eqb _ _ other)))
        ]);
      }

-- ---- the nodes of an upgrade domain set

module _ (states : List NodeState) (u : UpgradeNo) (b : Bool) where
  pub same-upgrading : AreSameNodes states (with_upgrading_in states u b)
  same-upgrading = same-put (λ k. same_upgrade k.upgrade u) (λ x. record x { is_upgrading = b }) (λ x. refl) states

  pub up-upgrading : up_in (with_upgrading_in states u b) ≡ up_in states
  up-upgrading = fun_ext (λ m. said-kept (λ k. same_upgrade k.upgrade u) (λ x. record x { is_upgrading = b }) (λ x. refl) is_node_up (λ x. refl) states m)

  pub draining-upgrading : draining_in (with_upgrading_in states u b) ≡ draining_in states
  draining-upgrading = fun_ext (λ m. said-kept (λ k. same_upgrade k.upgrade u) (λ x. record x { is_upgrading = b }) (λ x. refl) is_node_draining (λ x. refl) states m)

  -- the flags stay
  pub flags-upgrading : (up : List Bool) → AreUp states up → AreUp (with_upgrading_in states u b) up
  flags-upgrading up are = record {
    long = are.long;
    each = λ m. are.each m ∙ sym (said-kept (λ k. same_upgrade k.upgrade u) (λ x. record x { is_upgrading = b }) (λ x. refl) is_node_up (λ x. refl) states m);
  }

-- the node of this number is in the upgrade domain
abbrev pub is_of_domain : UpgradeNo → NodeNo → NodeInfo → Bool
is_of_domain u m n = same_node m n.number && same_upgrade n.upgrade u

-- a node that is in no such domain is online as before
pub online-upgrading : (u : UpgradeNo) (b : Bool) (m : NodeNo) (states : List NodeState) → list_any (is_of_domain u m) (infos_in states) ≡ false
    → online_in (with_upgrading_in states u b) m ≡ online_in states m
online-upgrading u b m [] none = refl
online-upgrading u b m (x ∷ states) none = elim (cases_Bool (nat_eq m.value x.node.number.value)) [
  | inl here ↦ elim (cases_Bool (same_upgrade x.node.upgrade u)) [
    | inl of ↦ absurd (let clash : true ≡ false = rw (here, of) at none in cc)
    | inr out ↦ rw (out, here) refl
  ]
  | inr later ↦
      let rest = online-upgrading u b m states (rw later at none) in
      elim (cases_Bool (same_upgrade x.node.upgrade u)) [
        | inl of ↦ rw (of, later) rest
        | inr out ↦ rw (out, later) rest
      ]
]

-- where the domain is upgrading, none of its nodes is online
pub online-upgraded : (states : List NodeState) (u : UpgradeNo) (m : NodeNo)
    → online_in (with_upgrading_in states u true) m ≡ (online_in states m && not (option_map_or (λ n. same_upgrade n.upgrade u) (node_at (infos_in states) m) false))
online-upgraded [] u m = refl
online-upgraded (x ∷ states) u m =
    let rest = online-upgraded states u m in
    elim (cases_Bool (nat_eq m.value x.node.number.value)) [
      | inl here ↦ elim (cases_Bool (same_upgrade x.node.upgrade u)) [
        | inl of ↦ rw (of, here, of) (off-upgrading (is_gone x.mode) x.is_down x.is_upgrading)
        | inr out ↦ rw (out, here, out) (sym (and-true (is_node_online x)))
      ]
      | inr later ↦ elim (cases_Bool (same_upgrade x.node.upgrade u)) [
        | inl of ↦ rw (of, later) rest
        | inr out ↦ rw (out, later) rest
      ]
    ] where
      off-upgrading : (gone down upgrading : Bool) → (not gone && (not down && not true)) ≡ ((not gone && (not down && not upgrading)) && not true)
      off-upgrading true down upgrading = refl
      off-upgrading false true upgrading = refl
      off-upgrading false false true = refl
      off-upgrading false false false = refl

      and-true : (a : Bool) → (a && not false) ≡ a
      and-true true = refl
      and-true false = refl
