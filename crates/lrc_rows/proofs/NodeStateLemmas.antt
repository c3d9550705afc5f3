-- Look-ups and changes of the stored nodes, seen as node states.
use Rattle.std.proofs.Common.{◌≡◌, ℕ, ◌<◌, ◌≤◌, inl, inr, Bool, true, false, not, ◌&&◌, ◌||◌, if◌then◌else◌, nat_eq, List, [], ◌∷◌, ◌+◌, length, map, take, get_or, set, is_some, IsSome, option_map, Option, Some, None, IsTrue, arith, refl, sym, ap, ap₂, ◌∙◌, subst}
use Rattle.std.proofs.Math.Path.{fun_ext}
use Rattle.std.specs.List.{All, list_any}
use Rattle.std.specs.Option.{option_map_or}
use Rattle.std.proofs.lemmas.Bool.{cases_Bool, cases_lt, cases_eq, eq-eqb, ne_eqb, eqb-true}
use Rattle.std.proofs.lemmas.List.{get_or_past, get_or_default}
use Rattle.std.proofs.lemmas.List.Folds.{list_any_more, list_any_at}
use Rattle.lrc_code.specs.declared.numbers.NodeNo.{NodeNo}
use Rattle.lrc_code.specs.declared.numbers.StripeNo.{StripeNo}
use Rattle.lrc_code.specs.Numbers.{same_node, same_stripe}
use Rattle.lrc_code.proofs.NumbersLemmas.{equal_nodes}
use Rattle.lrc_topology.specs.declared.NodeInfo.{NodeInfo}
use Rattle.lrc_topology.specs.declared.seat.Seat.{Seat}
use Rattle.lrc_topology.specs.Nodes.{node_at}
use Rattle.lrc_nodes.specs.declared.node_state.NodeState.{NodeState}
use Rattle.lrc_rows.specs.NodeStates.{has_node, NodeStates, NodeLists, states_in, first_states, IsPositionOf}
use Rattle.lrc_ranks.specs.Sets.{has}
use Rattle.lrc_nodes.specs.States.{first_state, is_node_online, is_node_offline, is_node_up, is_node_draining, infos_in, state_at, node_position, online_in, up_in, draining_in}
use Rattle.lrc_rows.proofs.NodeLemmas.{on-changed, online-at_first, up-at_first, draining-at_first, sets-none}
use Rattle.lrc_nodes.proofs.StateLemmas.{no_state, place_number, state_at-place, state_at-past, node_at-states, nodes-at_first}

and-false : (b : Bool) → (b && false) ≡ false
and-false true = refl
and-false false = refl

pub not-not : (b : Bool) → not (not b) ≡ b
not-not true = refl
not-not false = refl

pub or-false : (b : Bool) → (b || false) ≡ b
or-false true = refl
or-false false = refl

some-state : (o : Option NodeState) → is_some (option_map (λ x. x.node) o) ≡ true → IsSome o
some-state (Some x) e = refl
some-state None e = absurd (let clash : false ≡ true = e in cc)

-- the nodes and sets as they are kept, and the table that they are
module _ (states : List NodeState) (sets : List (List Bool)) (t : NodeLists) (view : ◌≡◌ {A = NodeLists} (record { list = states; stripes = sets }) t) (n : NodeNo) where
  -- what a look-up has found
  pub found : (p : ℕ) → IsPositionOf t n (Some p) → (p ≡ node_position states n) × (p < length states) × (length sets ≡ length states)
  found p at = subst (λ (x : NodeLists). IsPositionOf x n (Some p)) (sym view) at

  missed : IsPositionOf t n None → (length states ≤ node_position states n) × (length sets ≡ length states)
  missed none = subst (λ (x : NodeLists). IsPositionOf x n None) (sym view) none

  -- ---- where no node has the number

  missed-state : IsPositionOf t n None → state_at states n ≡ None
  missed-state none = state_at-past states n (missed none).0

  pub missed-node : IsPositionOf t n None → None ≡ node_at (states_in t).nodes n
  unfolding states_in
  missed-node none = subst (λ (x : NodeLists). None ≡ node_at (states_in x).nodes n) view (rw (node_at-states states n, missed-state none) refl)

  pub missed-online : IsPositionOf t n None → false ≡ (states_in t).online n
  unfolding states_in
  missed-online none = subst (λ (x : NodeLists). false ≡ (states_in x).online n) view (rw (missed-state none) refl)

  pub missed-up : IsPositionOf t n None → false ≡ (states_in t).up n
  unfolding states_in
  missed-up none = subst (λ (x : NodeLists). false ≡ (states_in x).up n) view (rw (missed-state none) refl)

  pub missed-draining : IsPositionOf t n None → false ≡ (states_in t).draining n
  unfolding states_in
  missed-draining none = subst (λ (x : NodeLists). false ≡ (states_in x).draining n) view (rw (missed-state none) refl)

  pub missed-on : IsPositionOf t n None → (s : StripeNo) → (states_in t).on n s ≡ false
  unfolding states_in
  missed-on none s =
      let m = missed none in
      subst (λ (x : NodeLists). (states_in x).on n s ≡ false) view
      (rw (get_or_past sets (node_position states n) [] (omega (arith, m.0, m.1))) refl)

  pub missed-known : IsPositionOf t n None → IsTrue (has_node (states_in t).nodes n) → ⊥
  missed-known none known = let e : false ≡ true = ap (λ (o : Option NodeInfo). is_some o) (missed-node none) ∙ known in cc

  -- where one has the number, a place is found
  pub placed : (o : Option ℕ) → IsPositionOf t n o → IsTrue (has_node (states_in t).nodes n) → IsSome o
  placed None none known = absurd (missed-known none known)
  placed (Some p) at known = refl

  -- ---- where a node has the number

  module _ (p : ℕ) (at : IsPositionOf t n (Some p)) (x : NodeState) (here : x ≡ get_or states p x) where
    found-state : state_at states n ≡ Some x
    found-state =
        let f = found p at in
        state_at-place states n x (omega (arith, f.0, f.1)) ∙ ap (λ (q : ℕ). Some (get_or states q x)) (sym f.0) ∙ ap (λ (y : NodeState). Some y) (sym here)

    pub found-node : Some x.node ≡ node_at (states_in t).nodes n
    unfolding states_in
    found-node = subst (λ (y : NodeLists). Some x.node ≡ node_at (states_in y).nodes n) view (rw (node_at-states states n, found-state) refl)

    pub found-online : is_node_online x ≡ (states_in t).online n
    unfolding states_in
    found-online = subst (λ (y : NodeLists). is_node_online x ≡ (states_in y).online n) view (rw found-state refl)

    pub found-up : is_node_up x ≡ (states_in t).up n
    unfolding states_in
    found-up = subst (λ (y : NodeLists). is_node_up x ≡ (states_in y).up n) view (rw found-state refl)

    pub found-draining : is_node_draining x ≡ (states_in t).draining n
    unfolding states_in
    found-draining = subst (λ (y : NodeLists). is_node_draining x ≡ (states_in y).draining n) view (rw found-state refl)

  -- one of the nodes has the number
  pub known-state : IsTrue (has_node (states_in t).nodes n) → IsSome (state_at states n)
  unfolding states_in
  known-state known =
      let at : has_node (map (λ (x : NodeState). x.node) states) n ≡ true = subst (λ (z : NodeLists). has_node (states_in z).nodes n ≡ true) (sym view) known in
      some-state (state_at states n) (sym (ap (λ (o : Option NodeInfo). is_some o) (node_at-states states n)) ∙ at)

  -- ---- the stripes of a node changed

  -- a number that is this one, with a test of the stripes
  like : (m : NodeNo) → same_node n m ≡ true → n ≡ m
  like m same = equal_nodes n m (eqb-true _ _ same)

  module _ (p : ℕ) (at : IsPositionOf t n (Some p)) (x more : List Bool) (here : x ≡ get_or sets p x) where
    stripes-set : (on : NodeNo → StripeNo → Bool)
        → ((m : NodeNo) (s : StripeNo) → (if same_node n m then has more s else (states_in t).on m s) ≡ on m s)
        → states_in (record { list = states; stripes = set sets p more }) ≡ record (states_in t) { on = on }
    unfolding states_in
    stripes-set on says =
        let f = found p at in
        let now : NodeStates = states_in (record { list = states; stripes = sets }) in
        let all : (m : NodeNo) (s : StripeNo) → has (get_or (set sets p more) (node_position states m) []) s ≡ on m s = λ m s.
        rw f.0 (on-changed states sets f.2 n more m s (omega (arith, f.0, f.1)))
        ∙ (subst (λ (z : NodeLists). (if same_node n m then has more s else (states_in z).on m s) ≡ on m s) (sym view) (says m s)) in
        subst (λ (z : NodeLists). states_in (record { list = states; stripes = set sets p more }) ≡ record (states_in z) { on = on }) view
        (ap (λ (o : NodeNo → StripeNo → Bool). record now { on = o }) (fun_ext (λ m. fun_ext (λ s. all m s))))

    -- the set at the place is that of the node
    set-at : (s : StripeNo) → has (get_or sets p []) s ≡ (states_in t).on n s
    unfolding states_in
    set-at s = subst (λ (z : NodeLists). has (get_or sets p []) s ≡ (states_in z).on n s) view (ap (λ (q : ℕ). has (get_or sets q []) s) (found p at).0)

    here-set : x ≡ get_or sets p []
    here-set = let f = found p at in here ∙ get_or_default sets p x [] (omega (arith, f.1, f.2))

    here-at : (s : StripeNo) → has x s ≡ (states_in t).on n s
    here-at s = ap (λ (bits : List Bool). has bits s) here-set ∙ set-at s

    pub inserted : (stripe : StripeNo) → has more ≡ (λ s. same_stripe stripe s || has x s)
        → states_in (record { list = states; stripes = set sets p more }) ≡ record (states_in t) { on = λ m s. (same_node n m && same_stripe stripe s) || (states_in t).on m s }
    inserted stripe has_more = stripes-set (λ m s. (same_node n m && same_stripe stripe s) || (states_in t).on m s) (λ m s. elim (cases_Bool (same_node n m)) [
      | inl same ↦ rw same (ap (λ (f : StripeNo → Bool). f s) has_more ∙ ap (λ (b : Bool). same_stripe stripe s || b) (here-at s ∙ ap (λ (k : NodeNo). (states_in t).on k s) (like m same)))
      | inr other ↦ rw other refl
    ])

    pub removed : (stripe : StripeNo) → has more ≡ (λ s. not (same_stripe stripe s) && has x s)
        → states_in (record { list = states; stripes = set sets p more }) ≡ record (states_in t) { on = λ m s. not (same_node n m && same_stripe stripe s) && (states_in t).on m s }
    removed stripe has_more = stripes-set (λ m s. not (same_node n m && same_stripe stripe s) && (states_in t).on m s) (λ m s. elim (cases_Bool (same_node n m)) [
      | inl same ↦ rw same (ap (λ (f : StripeNo → Bool). f s) has_more ∙ ap (λ (b : Bool). not (same_stripe stripe s) && b) (here-at s ∙ ap (λ (k : NodeNo). (states_in t).on k s) (like m same)))
      | inr other ↦ rw other refl
    ])

    -- the set at the place is that of the node
    pub set-same : has x ≡ (states_in t).on n
    set-same = fun_ext here-at

  -- a number without a node has no stripes to add
  pub joined-none : IsPositionOf t n None → (others : StripeNo → Bool) → others ≡ (λ s. others s || (states_in t).on n s)
  joined-none none others = fun_ext (λ s. rw (missed-on none s) (sym (or-false (others s))))

  pub counted-none : IsPositionOf t n None → (others once : StripeNo → Bool) → others ≡ (λ s. others s || (once s && (states_in t).on n s))
  counted-none none others once = fun_ext (λ s. rw (missed-on none s, and-false (once s)) (sym (or-false (others s))))

  -- a number without a node has no stripe to remove
  pub removed-none : (stripe : StripeNo) → IsPositionOf t n None → states_in t ≡ record (states_in t) { on = λ m s. not (same_node n m && same_stripe stripe s) && (states_in t).on m s }
  removed-none stripe none =
      ap (λ (o : NodeNo → StripeNo → Bool). record (states_in t) { on = o }) (fun_ext (λ m. fun_ext (λ s. elim (cases_Bool (same_node n m)) [
        | inl same ↦
            let gone : (states_in t).on m s ≡ false = ap (λ (k : NodeNo). (states_in t).on k s) (sym (like m same)) ∙ missed-on none s in
            rw (same, gone) (sym (and-false (not (same_stripe stripe s))))
        | inr other ↦ rw other refl
      ])))

-- ---- at first

pub states_in-at_first : (states : List NodeState) (sets : List (List Bool)) (nodes : List NodeInfo) → states ≡ map first_state nodes → All (λ set. has set ≡ (λ s. false)) sets
    → states_in (record { list = states; stripes = sets }) ≡ first_states nodes
unfolding states_in
states_in-at_first states sets nodes made none =
    let on_none : (λ (n : NodeNo). has (get_or sets (node_position states n) [])) ≡ (λ n s. false) = fun_ext (λ n. sets-none sets none (node_position states n)) in
    ap (λ (on : NodeNo → StripeNo → Bool). let now : NodeStates = record { list = states; nodes = infos_in states; online = online_in states; up = up_in states; draining = draining_in states; on = on } in now) on_none
    ∙ ap (λ (xs : List NodeState). let now : NodeStates = record { list = xs; nodes = infos_in xs; online = online_in xs; up = up_in xs; draining = draining_in xs; on = λ n s. false } in now) made
    ∙ ap (λ (ns : List NodeInfo). record (first_states nodes) { nodes = ns; online = online_in (map first_state nodes); up = up_in (map first_state nodes); draining = draining_in (map first_state nodes) }) (nodes-at_first nodes)
    ∙ ap₂ (λ (o b : NodeNo → Bool). record (first_states nodes) { online = o; up = up_in (map first_state nodes); draining = b }) (online-at_first nodes) (draining-at_first nodes)
    ∙ ap (λ (o : NodeNo → Bool). record (first_states nodes) { up = o }) (up-at_first nodes)

-- ---- a stripe taken off several homes

pub same-turned : (a b : ℕ) → nat_eq a b ≡ nat_eq b a
same-turned a b = elim (cases_eq a b) [
  | inl same ↦ rw (eq-eqb a b same, eq-eqb b a (sym same)) refl
  | inr other ↦ rw (ne_eqb a b other, ne_eqb b a (λ e. other (sym e))) refl
]

-- off the homes so far, and one more
left-more : (own here before on : Bool) → (not (here && own) && (not (own && before) && on)) ≡ (not (own && (before || here)) && on)
left-more true true true on = refl
left-more true true false on = refl
left-more true false true on = refl
left-more true false false on = refl
left-more false true before on = refl
left-more false false before on = refl

module _ (first : NodeStates) (stripe : StripeNo) where
  -- the nodes where the stripe is off those that the test names
  abbrev pub off : (NodeNo → Bool) → NodeStates
  off test = record first { on = λ n s. not (same_stripe stripe s && test n) && first.on n s }

  pub off-none : (test : NodeNo → Bool) → ((n : NodeNo) → test n ≡ false) → first ≡ off test
  off-none test none = ap (λ (o : NodeNo → StripeNo → Bool). record first { on = o }) (fun_ext (λ n. fun_ext (λ s. rw (none n, and-false (same_stripe stripe s)) refl)))

  -- with one more home
  pub off-more : (now : NodeStates) (before after : NodeNo → Bool) (seat : Seat) → now ≡ off before → ((n : NodeNo) → after n ≡ (before n || same_node n seat.node))
      → record now { on = λ n s. not (same_node seat.node n && same_stripe stripe s) && now.on n s } ≡ off after
  off-more now before after seat is more =
      ap (λ (z : NodeStates). record z { on = λ n s. not (same_node seat.node n && same_stripe stripe s) && z.on n s }) is
      ∙ ap (λ (o : NodeNo → StripeNo → Bool). record first { on = o }) (fun_ext (λ n. fun_ext (λ s.
      rw (more n, same-turned seat.node.value n.value) (left-more (same_stripe stripe s) (same_node n seat.node) (before n) (first.on n s)))))

  pub off-same : (before after : NodeNo → Bool) → ((n : NodeNo) → after n ≡ before n) → off before ≡ off after
  off-same before after same = ap (λ (test : NodeNo → Bool). off test) (fun_ext (λ n. sym (same n)))

-- ---- the stripes of some of the nodes

-- the stripes with a home on one of these nodes that pass the test
abbrev pub on_some : NodeStates → (NodeState → Bool) → List NodeState → StripeNo → Bool
on_some z test xs s = list_any (λ (x : NodeState). test x && z.on x.node.number s) xs

module _ (z : NodeStates) (test : NodeState → Bool) (xs : List NodeState) (i : ℕ) (d : NodeState) (found : List Bool) (within : i < length xs) (before : has found ≡ on_some z test (take i xs)) where
  abbrev here : NodeState
  here = get_or xs i d

  one-more : (s : StripeNo) → on_some z test (take (i + 1) xs) s ≡ (on_some z test (take i xs) s || (test here && z.on here.node.number s))
  one-more s = list_any_more (λ (x : NodeState). test x && z.on x.node.number s) xs i d within

  pub some-more : (new : List Bool) → test here ≡ true → has new ≡ (λ s. has found s || z.on here.node.number s) → has new ≡ on_some z test (take (i + 1) xs)
  some-more new hit joined = joined ∙ fun_ext (λ s.
      ap (λ (f : StripeNo → Bool). f s || z.on here.node.number s) before ∙ ap (λ (b : Bool). on_some z test (take i xs) s || (b && z.on here.node.number s)) (sym hit) ∙ sym (one-more s))

  pub some-same : test here ≡ false → has found ≡ on_some z test (take (i + 1) xs)
  some-same miss = before ∙ fun_ext (λ s.
      sym (one-more s ∙ ap (λ (b : Bool). on_some z test (take i xs) s || (b && z.on here.node.number s)) miss ∙ or-false (on_some z test (take i xs) s)))

-- a test of what a function gives
pub any-map : {X Y : Type 0} (p : Y → Bool) (f : X → Y) (xs : List X) → list_any (λ x. p (f x)) xs ≡ list_any p (map f xs)
any-map p f [] = refl
any-map p f (x ∷ xs) = ap (λ b. p (f x) || b) (any-map p f xs)

-- ---- those of the nodes that are not online

module _ (states : List NodeState) (sets : List (List Bool)) (long : length sets ≡ length states) where
  offline-listed : (n : NodeNo) (s : StripeNo) → online_in states n ≡ false → has (get_or sets (node_position states n) []) s ≡ true
      → list_any (λ (x : NodeState). is_node_offline x && has (get_or sets (node_position states x.node.number) []) s) states ≡ true
  offline-listed n s off on = elim (cases_lt (node_position states n) (length states)) [
    | inr past ↦ absurd (let none = get_or_past sets (node_position states n) [] (omega (arith, past, long)) in let clash : true ≡ false = sym on ∙ ap (λ (bits : List Bool). has bits s) none in cc)
    | inl within ↦
        let x = get_or states (node_position states n) no_state in
        let own : n ≡ x.node.number = equal_nodes n x.node.number (place_number states n no_state within) in
        let down : is_node_offline x ≡ true = ap not (sym (ap (λ (o : Option NodeState). option_map_or is_node_online o false) (state_at-place states n no_state within)) ∙ off) in
        list_any_at (λ (y : NodeState). is_node_offline y && has (get_or sets (node_position states y.node.number) []) s) states (node_position states n) no_state within
        (rw (down, ← own) on)
  ]

-- a stripe with a home on such a node
pub offline-all : (states : List NodeState) (sets : List (List Bool)) (t : NodeLists) (view : ◌≡◌ {A = NodeLists} (record { list = states; stripes = sets }) t) → length sets ≡ length states
    → (n : NodeNo) (s : StripeNo) → (states_in t).online n ≡ false → (states_in t).on n s ≡ true → on_some (states_in t) is_node_offline states s ≡ true
unfolding states_in
offline-all states sets t view long n s =
    subst (λ (y : NodeLists). (states_in y).online n ≡ false → (states_in y).on n s ≡ true → on_some (states_in y) is_node_offline states s ≡ true) view (offline-listed states sets long n s)
