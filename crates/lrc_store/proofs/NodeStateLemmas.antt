-- The nodes of a state as they are stored: what their states show, and where one is set.
use Rattle.std.proofs.Common.{◌≡◌, Bool, true, false, ◌&&◌, if◌then◌else◌, nat_eq, List, [], ◌∷◌, map, Option, Some, None, IsSome, option_map, refl, sym, ap, ap₂, ◌∙◌, inl, inr}
use Rattle.std.proofs.Math.Path.{fun_ext}
use Rattle.std.specs.Option.{option_map_or}
use Rattle.std.proofs.lemmas.Bool.{cases_Bool}
use Rattle.std.proofs.lemmas.Option.{same_Some}
use Rattle.lrc_code.specs.declared.numbers.NodeNo.{NodeNo}
use Rattle.lrc_code.specs.declared.numbers.StripeNo.{StripeNo}
use Rattle.lrc_code.specs.declared.numbers.UpgradeNo.{UpgradeNo}
use Rattle.lrc_code.specs.Numbers.{same_node, same_upgrade}
use Rattle.lrc_topology.specs.declared.NodeInfo.{NodeInfo}
use Rattle.lrc_topology.specs.Nodes.{node_at}
use Rattle.lrc_terms.specs.declared.mode.Mode.{Mode}
use Rattle.lrc_terms.specs.Levels.{homes_of, missing_in, needs_in, missing_if, needs_if, has_some, rank_by, level_if}
use Rattle.lrc_nodes.specs.declared.node_state.NodeState.{NodeState}
use Rattle.lrc_nodes.specs.States.{is_node_online, is_node_draining, infos_in, state_at, down_in, online_in, draining_in, with_state, with_upgrading_in}
use Rattle.lrc_rows.specs.NodeStates.{has_node}
use Rattle.lrc_stripes.specs.Stored.{missing_shown, needs_shown, rank_in, has_work}
use Rattle.lrc_stripes.specs.Stored as stored
use Rattle.lrc_rules.specs.States.{State, has_stripe, code_of, mode_of, is_down, is_upgrading, online_at, drains_at, rank}
use Rattle.lrc_rules.specs.States as states
use Rattle.lrc_rules.proofs.NodeLemmas.{member-node_at}
use Rattle.lrc_store.specs.Stores.{node_state, stored_of}

-- ---- what the states show

state_at-kept : (st : State) (nodes : List NodeInfo) (n : NodeNo) → state_at (map (node_state st) nodes) n ≡ option_map (node_state st) (node_at nodes n)
state_at-kept st [] n = refl
state_at-kept st (x ∷ nodes) n = elim (cases_Bool (nat_eq n.value x.number.value)) [
  | inl here ↦ rw here refl
  | inr later ↦ rw later (state_at-kept st nodes n)
]

pub infos-kept : (st : State) (nodes : List NodeInfo) → infos_in (map (node_state st) nodes) ≡ nodes
infos-kept st [] = refl
infos-kept st (x ∷ nodes) = ap (λ (ns : List NodeInfo). x ∷ ns) (infos-kept st nodes)

module _ (nodes : List NodeInfo) (st : State) where
  abbrev list : List NodeState
  list = map (node_state st) nodes

  pub online-kept : online_in list ≡ online_at nodes st
  online-kept = fun_ext (λ n. ap (λ (o : Option NodeState). option_map_or is_node_online o false) (state_at-kept st nodes n) ∙ by (node_at nodes n)) where
    by : (o : Option NodeInfo) → option_map_or is_node_online (option_map (node_state st) o) false ≡ option_map_or (states.is_online st) o false
    by None = refl
    by (Some x) = refl

  pub draining-kept : draining_in list ≡ drains_at nodes st
  draining-kept = fun_ext (λ n. ap (λ (o : Option NodeState). option_map_or is_node_draining o false) (state_at-kept st nodes n) ∙ by (node_at nodes n)) where
    by : (o : Option NodeInfo) → option_map_or is_node_draining (option_map (node_state st) o) false ≡ option_map_or (λ m. is_node_draining (node_state st m)) o false
    by None = refl
    by (Some x) = refl

  -- the mode of a node, if the store has it
  pub mode-kept : (n : NodeNo) → option_map (λ x. x.mode) (state_at list n) ≡ option_map (λ m. mode_of st m.number) (node_at nodes n)
  mode-kept n = ap (λ (o : Option NodeState). option_map (λ x. x.mode) o) (state_at-kept st nodes n) ∙ by (node_at nodes n) where
    by : (o : Option NodeInfo) → option_map (λ (x : NodeState). x.mode) (option_map (node_state st) o) ≡ option_map (λ m. mode_of st m.number) o
    by None = refl
    by (Some x) = refl

  -- what a book shows of a node, by whether the store has it
  module _ (n : NodeNo) where
    abbrev told : NodeInfo → Mode × Bool
    told m = (mode_of st m.number, states.is_online st m)

    shown-by : (o : Option NodeInfo) (p : Option Mode) → p ≡ option_map (λ m. mode_of st m.number) o → (mode : Mode) → p ≡ Some mode
        → ◌≡◌ {A = Option (Mode × Bool)} (Some (mode, option_map_or (states.is_online st) o false)) (option_map told o)
    shown-by (Some x) p same mode is = ap {B = Option (Mode × Bool)} (λ (m : Mode). Some (m, states.is_online st x)) (same_Some mode (mode_of st x.number) (sym is ∙ same))
    shown-by None p same mode is = absurd (let never : Some mode ≡ None = sym is ∙ same in cc)

    pub shown-there : (mode : Mode) → option_map (λ x. x.mode) (state_at list n) ≡ Some mode → ◌≡◌ {A = Option (Mode × Bool)} (Some (mode, online_in list n)) (states.mode_shown nodes st n)
    shown-there mode is =
        ap {B = Option (Mode × Bool)} (λ (online : NodeNo → Bool). Some (mode, online n)) online-kept ∙ shown-by (node_at nodes n) (option_map (λ x. x.mode) (state_at list n)) (mode-kept n) mode is

    none-by : (o : Option NodeInfo) → option_map (λ m. mode_of st m.number) o ≡ None → option_map told o ≡ None
    none-by None is = refl
    none-by (Some x) is = absurd (let never : Some (mode_of st x.number) ≡ None = is in cc)

    pub shown-absent : option_map (λ x. x.mode) (state_at list n) ≡ None → states.mode_shown nodes st n ≡ None
    shown-absent is = none-by (node_at nodes n) (sym (mode-kept n) ∙ is)

  module _ (n : NodeNo) (known : IsSome (node_at nodes n)) where
    pub mode-known : option_map (λ x. x.mode) (state_at list n) ≡ Some (mode_of st n)
    mode-known = mode-kept n ∙ by (node_at nodes n) refl known where
      by : (o : Option NodeInfo) → node_at nodes n ≡ o → IsSome o → option_map (λ m. mode_of st m.number) o ≡ Some (mode_of st n)
      by (Some x) e there = ap (λ (m : NodeNo). Some (mode_of st m)) (sym (member-node_at nodes n x e).1)
      by None e there = absurd (let never : false ≡ true = there in cc)

    pub down-known : down_in list n ≡ is_down st n
    down-known = ap (λ (o : Option NodeState). option_map_or (λ x. x.is_down) o false) (state_at-kept st nodes n) ∙ by (node_at nodes n) refl known where
      by : (o : Option NodeInfo) → node_at nodes n ≡ o → IsSome o → option_map_or (λ (x : NodeState). x.is_down) (option_map (node_state st) o) false ≡ is_down st n
      by (Some x) e there = ap (is_down st) (sym (member-node_at nodes n x e).1)
      by None e there = absurd (let never : false ≡ true = there in cc)

    pub node-known : has_node (infos_in list) n ≡ true
    node-known = ap (λ (ns : List NodeInfo). has_node ns n) (infos-kept st nodes) ∙ known

  -- ---- what the stored stripes show

  pub rank-kept : rank_in (stored_of nodes st) ≡ rank nodes st
  rank-kept = fun_ext (λ s. ap (λ (online : NodeNo → Bool). rank_by (code_of st s) (missing_in (code_of st s) online (homes_of st.homes s))) online-kept)

  module _ (s : StripeNo) where
    pub missing-kept : missing_shown (stored_of nodes st) s ≡ states.missing_shown nodes st s
    missing-kept = ap (λ (online : NodeNo → Bool). missing_if (has_stripe st s) (code_of st s) online (homes_of st.homes s)) online-kept

    pub needs-kept : needs_shown (stored_of nodes st) s ≡ needs_if (has_stripe st s) (code_of st s) (drains_at nodes st) (homes_of st.homes s)
    needs-kept = ap (λ (draining : NodeNo → Bool). needs_if (has_stripe st s) (code_of st s) draining (homes_of st.homes s)) draining-kept

    pub level-kept : stored.level_shown (stored_of nodes st) s ≡ states.level_shown nodes st s
    level-kept = ap (λ (online : NodeNo → Bool). level_if (has_stripe st s) (code_of st s) online (homes_of st.homes s)) online-kept

    pub work-kept : has_work (stored_of nodes st) s ≡ (has_stripe st s && has_some (code_of st s) (needs_in (code_of st s) (drains_at nodes st) (homes_of st.homes s)))
    work-kept = ap (λ (draining : NodeNo → Bool). has_stripe st s && has_some (code_of st s) (needs_in (code_of st s) draining (homes_of st.homes s))) draining-kept

-- ---- the states set

-- the state of one node, where those of the others are as they were
pub state-set : (was st : State) (n : NodeNo) (mode : Mode) (b : Bool) → mode ≡ mode_of st n → b ≡ is_down st n → was.upgrading ≡ st.upgrading
    → ((m : NodeNo) → same_node n m ≡ true → n ≡ m)
    → ((m : NodeNo) → same_node n m ≡ false → (mode_of st m ≡ mode_of was m) × (is_down st m ≡ is_down was m))
    → (nodes : List NodeInfo) → with_state (map (node_state was) nodes) n mode b ≡ map (node_state st) nodes
state-set was st n mode b mode_is down_is same equal others [] = refl
state-set was st n mode b mode_is down_is same equal others (x ∷ nodes) =
    ap₂ (λ (y : NodeState) (ys : List NodeState). y ∷ ys) (at (same_node n x.number) refl) (state-set was st n mode b mode_is down_is same equal others nodes) where
      upgrading-is : is_upgrading was x ≡ is_upgrading st x
      upgrading-is = ap (λ (o : Option UpgradeNo). option_map_or (λ u. same_upgrade u x.upgrade) o false) same

      at : (t : Bool) → same_node n x.number ≡ t → (if t then record (node_state was x) { mode = mode; is_down = b } else node_state was x) ≡ node_state st x
      at true is =
          let own = equal x.number is in
          ap (λ (y : Bool). record (node_state was x) { mode = mode; is_down = b; is_upgrading = y }) upgrading-is
          ∙ ap₂ (λ (m : Mode) (d : Bool). record (node_state st x) { mode = m; is_down = d }) (mode_is ∙ ap (mode_of st) own) (down_is ∙ ap (is_down st) own)
      at false is =
          let other = others x.number is in
          ap (λ (y : Bool). record (node_state was x) { is_upgrading = y }) upgrading-is
          ∙ ap₂ (λ (m : Mode) (d : Bool). record (node_state st x) { mode = m; is_down = d }) (sym other.0) (sym other.1)

-- the nodes of a domain that is upgrading, or no longer
pub upgrading-set : (st : State) (v : Option UpgradeNo) (u : UpgradeNo) (b : Bool)
    → ((x : NodeInfo) → (if same_upgrade x.upgrade u then b else is_upgrading st x) ≡ is_upgrading (record st { upgrading = v }) x)
    → (nodes : List NodeInfo) → with_upgrading_in (map (node_state st) nodes) u b ≡ map (node_state (record st { upgrading = v })) nodes
upgrading-set st v u b each [] = refl
upgrading-set st v u b each (x ∷ nodes) =
    ap₂ (λ (y : NodeState) (ys : List NodeState). y ∷ ys) (either (same_upgrade x.upgrade u) ∙ ap (λ (y : Bool). record (node_state st x) { is_upgrading = y }) (each x)) (upgrading-set st v u b each nodes) where
      either : (t : Bool) → (if t then record (node_state st x) { is_upgrading = b } else node_state st x) ≡ record (node_state st x) { is_upgrading = if t then b else is_upgrading st x }
      either true = refl
      either false = refl
