-- Which stripes may be short: those that have work, and those with homes on several nodes that are not up.
use Rattle.std.proofs.Common.{◌≡◌, ◌≢◌, ℕ, ◌+◌, ◌-◌, ◌<◌, zero, suc, cond, inl, inr, Bool, true, false, not, ◌&&◌, ◌||◌, nat_lt, nat_eq, ◌≤◌, List, [], ◌∷◌, length, map, take, get_or, Option, Some, None, is_none, option_and_then, arith, refl, sym, ap, ap₂, ◌∙◌, subst}
use Rattle.std.proofs.Math.Path.{fun_ext}
use Rattle.std.specs.List.{list_any, count_by, AllPairs}
use Rattle.std.specs.Option.{option_map_or}
use Rattle.std.proofs.lemmas.Bool.{not-true, and_parts, cases_Bool, cases_lt, eq-eqb, eqb-true, lt-ltb, le-ltb}
use Rattle.std.proofs.lemmas.List.{get_or-map}
use Rattle.lrc_bits.specs.Flags.{FindsFrom}
use Rattle.std.proofs.lemmas.List.Sums.{count_by_more_yes, count_by_more_no, sum_by-cons}
use Rattle.lrc_code.specs.declared.numbers.NodeNo.{NodeNo}
use Rattle.lrc_code.specs.declared.numbers.StripeNo.{StripeNo}
use Rattle.lrc_topology.specs.declared.NodeInfo.{NodeInfo}
use Rattle.lrc_nodes.specs.States.{is_node_online, is_node_up, is_node_offline}
use Rattle.lrc_rows.specs.declared.row.Row.{Row}
use Rattle.lrc_nodes.specs.declared.node_state.NodeState.{NodeState}
use Rattle.lrc_ranks.specs.declared.planes.Planes.{Planes}
use Rattle.lrc_ranks.specs.Sets.{has, at_rank}
use Rattle.lrc_rows.specs.NodeStates.{NodeStates, NodeLists, states_in, down_among, is_on_several_down}
use Rattle.lrc_rows.specs.Listed.{rows_in}
use Rattle.lrc_terms.specs.Levels.{rank_by}
use Rattle.lrc_homes.specs.Upgrading.{missing_with}
use Rattle.lrc_ranks.specs.Ranks.{is_at}
use Rattle.lrc_rows.specs.Kept.{AreQueued, row_has_work}
use Rattle.lrc_homes.proofs.RankLemmas.{rank_by-few}
use Rattle.lrc_nodes.proofs.StateLemmas.{no_state, state_at-own, offline-down}
use Rattle.lrc_rows.proofs.NodeStateLemmas.{not-not, or-false, offline-all}
use Rattle.lrc_rows.proofs.RowsLemmas.{rank_of_row}

-- ---- the stripes that have work

module _ (list : List (Option Row)) (upgrading : List Bool) (needs : List ℕ) (there : List Bool) (work : List (List Bool)) (planes : Planes) (are : AreQueued list upgrading needs there work planes) (s : StripeNo) where
  abbrev ranked : ℕ → Option Row → Bool
  ranked k o = is_at k (option_and_then (rank_of_row upgrading) o)

  -- the rank of a row with work
  abbrev rank_by_row : Row → ℕ
  rank_by_row r = rank_by r.losses.code (missing_with upgrading r.homes r.domains r.losses)

  at : (k : ℕ) → has (get_or work k []) s ≡ ranked k (rows_in list s)
  at k = ap (λ (q : ℕ → StripeNo → Bool). q k s) are.works

  ranked-with_work : (k : ℕ) (o : Option Row) → ranked k o ≡ true → row_has_work o ≡ true
  ranked-with_work k None hit = absurd (cc)
  ranked-with_work k (Some r) hit = elim (cases_Bool (nat_eq r.losses.needs.bits 0)) [
    | inl none ↦ absurd (let clash : false ≡ true = rw none at hit in cc)
    | inr some ↦ ap not some
  ]

  with_work-ranked : (o : Option Row) → row_has_work o ≡ true → (k : ℕ) × (ranked k o ≡ true)
  with_work-ranked None hit = absurd (cc)
  with_work-ranked (Some r) hit = elim (cases_Bool (nat_eq r.losses.needs.bits 0)) [
    | inl none ↦ absurd (let clash : false ≡ true = rw none at hit in cc)
    | inr some ↦ (rank_by_row r, rw some (eq-eqb (rank_by_row r) (rank_by_row r) refl))
  ]

  -- a stripe of a rank has work
  pub with_work-at : (k : ℕ) → at_rank work k s ≡ true → row_has_work (rows_in list s) ≡ true
  with_work-at k hit = ranked-with_work k (rows_in list s) (sym (at k) ∙ hit)

  -- and one of none has not
  pub idle-at : ((k : ℕ) → k < 5 → at_rank work k s ≡ false) → row_has_work (rows_in list s) ≡ false
  idle-at none = elim (cases_Bool (row_has_work (rows_in list s))) [
    | inl with_work ↦
        let found = with_work-ranked (rows_in list s) with_work in
        absurd (let clash : true ≡ false = sym (at found.0 ∙ found.1) ∙ none found.0 (few found.0 (rows_in list s) found.1) in cc)
    | inr idle ↦ idle
  ] where
    few : (k : ℕ) (o : Option Row) → ranked k o ≡ true → k < 5
    few k None hit = absurd (cc)
    few k (Some r) hit = elim (cases_Bool (nat_eq r.losses.needs.bits 0)) [
      | inl none ↦ absurd (let clash : false ≡ true = rw none at hit in cc)
      | inr some ↦
          let same : rank_by_row r ≡ k = eqb-true _ _ (rw some at hit) in
          let most : rank_by_row r ≤ 4 = rank_by-few r.losses.code (missing_with upgrading r.homes r.domains r.losses) in
          omega (arith, same, most)
    ]

-- ---- nodes that are not up

abbrev pub is_off : NodeStates → StripeNo → NodeState → Bool
is_off z s x = not (z.up x.node.number) && z.on x.node.number s

-- how many of these nodes are not up and have a home of the stripe
abbrev pub counted : NodeStates → StripeNo → List NodeState → ℕ
counted z s xs = count_by (is_off z s) xs

or-true : (b : Bool) → (b || true) ≡ true
or-true true = refl
or-true false = refl

and-false : (b : Bool) → (b && false) ≡ false
and-false true = refl
and-false false = refl

once-more : (n m : ℕ) (b : Bool) → m ≡ cond b (n + 1) n → (nat_lt 0 n || b) ≡ nat_lt 0 m
once-more n m true e = or-true (nat_lt 0 n) ∙ sym (lt-ltb 0 m (omega (arith, e)))
once-more n m false e = or-false (nat_lt 0 n) ∙ ap (nat_lt 0) (sym e)

one-more : (k n m : ℕ) (b : Bool) → m ≡ cond b (n + 1) n → (nat_lt (k + 1) n || (nat_lt k n && b)) ≡ nat_lt (k + 1) m
one-more k n m false e = ap (λ c. nat_lt (k + 1) n || c) (and-false (nat_lt k n)) ∙ or-false (nat_lt (k + 1) n) ∙ ap (nat_lt (k + 1)) (sym e)
one-more k n m true e = elim (cases_lt k n) [
  | inl some ↦
      ap (λ c. nat_lt (k + 1) n || (c && true)) (lt-ltb k n some) ∙ or-true (nat_lt (k + 1) n)
      ∙ sym (lt-ltb (k + 1) m (omega (arith, e, some)))
  | inr none ↦
      ap (λ c. nat_lt (k + 1) n || (c && true)) (le-ltb k n none) ∙ or-false (nat_lt (k + 1) n) ∙ le-ltb (k + 1) n (omega (arith, none))
      ∙ sym (le-ltb (k + 1) m (omega (arith, e, none)))
]

module _ (z : NodeStates) (xs : List NodeState) (i : ℕ) (d : NodeState) (within : i < length xs) where
  abbrev here : NodeState
  here = get_or xs i d

  count-next : (s : StripeNo) → counted z s (take (i + 1) xs) ≡ cond (is_off z s here) (counted z s (take i xs) + 1) (counted z s (take i xs))
  count-next s = elim (cases_Bool (is_off z s here)) [
    | inl hit ↦ count_by_more_yes (is_off z s) xs i d within hit ∙ ap (λ b. cond b (counted z s (take i xs) + 1) (counted z s (take i xs))) (sym hit)
    | inr miss ↦ count_by_more_no (is_off z s) xs i d within miss ∙ ap (λ b. cond b (counted z s (take i xs) + 1) (counted z s (take i xs))) (sym miss)
  ]

  -- a node that is up is not counted
  count-same : z.up here.node.number ≡ true → (s : StripeNo) → counted z s (take i xs) ≡ counted z s (take (i + 1) xs)
  count-same on s = sym (count-next s ∙ ap (λ b. cond (not b && z.on here.node.number s) (counted z s (take i xs) + 1) (counted z s (take i xs))) on)

  -- so a set of the stripes that are counted stays the same
  pub same-next : z.up here.node.number ≡ true → (k : ℕ) (set : List Bool) → has set ≡ (λ s. nat_lt k (counted z s (take i xs))) → has set ≡ λ s. nat_lt k (counted z s (take (i + 1) xs))
  same-next on k set is = is ∙ fun_ext (λ s. ap (nat_lt k) (count-same on s))

  module _ (off : z.up here.node.number ≡ false) where
    own : (s : StripeNo) → counted z s (take (i + 1) xs) ≡ cond (z.on here.node.number s) (counted z s (take i xs) + 1) (counted z s (take i xs))
    own s = count-next s ∙ ap (λ b. cond (not b && z.on here.node.number s) (counted z s (take i xs) + 1) (counted z s (take i xs))) off

    pub once-next : (once next : List Bool) → has once ≡ (λ s. nat_lt 0 (counted z s (take i xs))) → has next ≡ (λ s. has once s || z.on here.node.number s)
        → has next ≡ λ s. nat_lt 0 (counted z s (take (i + 1) xs))
    once-next once next one joined = joined ∙ fun_ext (λ s.
        ap (λ (f : StripeNo → Bool). f s || z.on here.node.number s) one
        ∙ once-more (counted z s (take i xs)) (counted z s (take (i + 1) xs)) (z.on here.node.number s) (own s))

    -- the stripes with homes on more than so many, by those with homes on so many
    pub more-next : (k : ℕ) (fewer more next : List Bool) → has fewer ≡ (λ s. nat_lt k (counted z s (take i xs)))
        → has more ≡ (λ s. nat_lt (k + 1) (counted z s (take i xs))) → has next ≡ (λ s. has more s || (has fewer s && z.on here.node.number s))
        → has next ≡ λ s. nat_lt (k + 1) (counted z s (take (i + 1) xs))
    more-next k fewer more next lower higher joined = joined ∙ fun_ext (λ s.
        ap (λ (f : StripeNo → Bool). f s || (has fewer s && z.on here.node.number s)) higher
        ∙ (ap (λ (f : StripeNo → Bool). nat_lt (k + 1) (counted z s (take i xs)) || (f s && z.on here.node.number s)) lower
        ∙ one-more k (counted z s (take i xs)) (counted z s (take (i + 1) xs)) (z.on here.node.number s) (own s)))

count-map : {X Y : Type 0} (p : Y → Bool) (f : X → Y) (xs : List X) → count_by (λ x. p (f x)) xs ≡ count_by p (map f xs)
count-map p f [] = refl
count-map {X} p f (x ∷ xs) =
    sum_by-cons (λ (y : X). cond (p (f y)) 1 0) x xs ∙ ap (λ (n : ℕ). cond (p (f x)) 1 0 + n) (count-map p f xs) ∙ sym (sum_by-cons (λ y. cond (p y) 1 0) (f x) (map f xs))

pub on_more-nodes : (k : ℕ) (states : List NodeState) (sets : List (List Bool)) (t : NodeLists) (view : ◌≡◌ {A = NodeLists} (record { list = states; stripes = sets }) t)
    → ◌≡◌ {A = StripeNo → Bool} (λ s. nat_lt k (counted (states_in t) s states)) (λ s. nat_lt k (down_among (states_in t) s (states_in t).nodes))
unfolding states_in
on_more-nodes k states sets t view =
    subst (λ (y : NodeLists). ◌≡◌ {A = StripeNo → Bool} (λ s. nat_lt k (counted (states_in y) s states)) (λ s. nat_lt k (down_among (states_in y) s (states_in y).nodes))) view
    (let now : NodeStates = states_in (record { list = states; stripes = sets }) in
    fun_ext (λ s. ap (nat_lt k) (count-map (λ (n : NodeInfo). not (now.up n.number) && now.on n.number s) (λ (x : NodeState). x.node) states)))

-- a node of the list is up where it says so itself
pub up-there : (states : List NodeState) (sets : List (List Bool)) (t : NodeLists) (view : ◌≡◌ {A = NodeLists} (record { list = states; stripes = sets }) t)
    → AllPairs (λ (m n : NodeNo). m.value ≢ n.value) (map (λ x. x.node.number) states) → (i : ℕ) (d : NodeState) → i < length states → (states_in t).up (get_or states i d).node.number ≡ is_node_up (get_or states i d)
unfolding states_in
up-there states sets t view apart i d within =
    subst (λ (y : NodeLists). (states_in y).up (get_or states i d).node.number ≡ is_node_up (get_or states i d)) view
    (ap (λ (o : Option NodeState). option_map_or is_node_up o false) (state_at-own states i d within apart))

-- a node that is online is up
online-then_up : (x : NodeState) → is_node_online x ≡ true → is_node_up x ≡ true
online-then_up x on = elim (cases_Bool (is_node_up x)) [
  | inl up ↦ up
  | inr down ↦ absurd (let clash : false ≡ true = offline-down (Some x) down ∙ on in cc)
]

-- where none of the nodes between is offline
module _ (states : List NodeState) (sets : List (List Bool)) (t : NodeLists) (view : ◌≡◌ {A = NodeLists} (record { list = states; stripes = sets }) t)
    (apart : AllPairs (λ (m n : NodeNo). m.value ≢ n.value) (map (λ x. x.node.number) states)) where
  -- a node that the search has passed is up
  up-bit : (i : ℕ) → i < length states → get_or (map is_node_offline states) i false ≡ false → (states_in t).up (get_or states i no_state).node.number ≡ true
  up-bit i within is =
      let said : is_node_online (get_or states i no_state) ≡ true = sym (not-not (is_node_online (get_or states i no_state))) ∙ ap not (sym (get_or-map is_node_offline states i no_state false within) ∙ is) in
      up-there states sets t view apart i no_state within ∙ online-then_up (get_or states i no_state) said

  counted-past : (s : StripeNo) (from gap : ℕ) → from + gap ≤ length states → ((i : ℕ) → from ≤ i → i < from + gap → get_or (map is_node_offline states) i false ≡ false)
      → counted (states_in t) s (take from states) ≡ counted (states_in t) s (take (from + gap) states)
  counted-past s from zero within none = ap (λ (n : ℕ). counted (states_in t) s (take n states)) (let same : from ≡ from + 0 = omega arith in same)
  counted-past s from (suc gap) within none =
      counted-past s from gap (omega (arith, within)) (λ i low high. none i low (omega (arith, high)))
      ∙ (count-same (states_in t) states (from + gap) no_state (omega (arith, within)) (up-bit (from + gap) (omega (arith, within)) (none (from + gap) (omega arith) (omega arith))) s
      ∙ ap (λ (n : ℕ). counted (states_in t) s (take n states)) (let same : from + gap + 1 ≡ from + suc gap = omega arith in same))

  -- a set of the stripes with homes on so many nodes that are not up stays the same
  pub set-past : (k : ℕ) (set : List Bool) (from p : ℕ) → from ≤ p → p ≤ length states → ((i : ℕ) → from ≤ i → i < p → get_or (map is_node_offline states) i false ≡ false)
      → has set ≡ (λ s. nat_lt k (counted (states_in t) s (take from states))) → has set ≡ λ s. nat_lt k (counted (states_in t) s (take p states))
  set-past k set from p later within none is =
      let all : from + (p - from) ≡ p = omega (arith, later) in
      is ∙ fun_ext (λ s. ap (λ (n : ℕ). nat_lt k n) (counted-past s from (p - from) (omega (arith, later, within)) (λ i low high. none i low (omega (arith, high, later)))
      ∙ ap (λ (n : ℕ). counted (states_in t) s (take n states)) all))

-- what passes one test passes another: as many or more pass that one
count-within : (p q : NodeState → Bool) (xs : List NodeState) → ((i : ℕ) (d : NodeState) → i < length xs → p (get_or xs i d) ≡ true → q (get_or xs i d) ≡ true)
    → count_by p xs ≤ count_by q xs
count-within p q [] all = omega arith
count-within p q (x ∷ xs) all =
    let rest : count_by p xs ≤ count_by q xs = count-within p q xs (λ i d within. all (suc i) d (omega (arith, within))) in
    let one : cond (p x) 1 0 ≤ cond (q x) 1 0 = elim (cases_Bool (p x)) [
      | inl hit ↦ rw (hit, all 0 x (omega arith) hit) (omega arith)
      | inr miss ↦ rw miss (omega arith)
    ] in
    rw (sum_by-cons (λ (y : NodeState). cond (p y) 1 0) x xs, sum_by-cons (λ (y : NodeState). cond (q y) 1 0) x xs) (omega (arith, rest, one))

-- where fewer than two nodes are offline, no stripe has homes on several of them
pub few-on_several : (states : List NodeState) (sets : List (List Bool)) (t : NodeLists) (view : ◌≡◌ {A = NodeLists} (record { list = states; stripes = sets }) t)
    → AllPairs (λ (m n : NodeNo). m.value ≢ n.value) (map (λ x. x.node.number) states) → count_by is_node_offline states < 2 → (λ (s : StripeNo). false) ≡ is_on_several_down (states_in t)
few-on_several states sets t view apart few =
    fun_ext (λ s.
    let within = count-within (is_off (states_in t) s) is_node_offline states (λ i d inside hit.
    let at = get_or states i d in
    let off = not-true ((states_in t).up at.node.number) (and_parts (not ((states_in t).up at.node.number)) _ hit).0 in
    let said = up-there states sets t view apart i d inside in
    ap not (sym (offline-down (Some at) (sym said ∙ off)))) in
    sym (le-ltb 1 (counted (states_in t) s states) (omega (arith, within, few))))
    ∙ on_more-nodes 1 states sets t view

-- where none of them passes the test, none passes it and another
none-both : (p q : NodeState → Bool) (xs : List NodeState) → ((i : ℕ) (d : NodeState) → i < length xs → p (get_or xs i d) ≡ false) → list_any (λ x. p x && q x) xs ≡ false
none-both p q [] none = refl
none-both p q (x ∷ xs) none = rw (none 0 x (omega arith)) (none-both p q xs (λ i d within. none (suc i) d (omega (arith, within))))

-- where no node is offline, each that has a stripe is online
pub none-offline : (states : List NodeState) (sets : List (List Bool)) (t : NodeLists) (view : ◌≡◌ {A = NodeLists} (record { list = states; stripes = sets }) t)
    → length sets ≡ length states → ((i : ℕ) (d : NodeState) → i < length states → is_node_offline (get_or states i d) ≡ false)
    → (n : NodeNo) (s : StripeNo) → (states_in t).on n s ≡ true → (states_in t).online n ≡ true
none-offline states sets t view long none n s on = elim (cases_Bool ((states_in t).online n)) [
  | inl up ↦ up
  | inr off ↦
      let hit = offline-all states sets t view long n s off on in
      let miss = none-both is_node_offline (λ x. (states_in t).on x.node.number s) states none in
      absurd (let clash : true ≡ false = sym hit ∙ miss in cc)
]

-- where no other than the one at a place passes the test, at most one does
none-counted : (p : NodeState → Bool) (xs : List NodeState) → ((i : ℕ) (d : NodeState) → i < length xs → p (get_or xs i d) ≡ false) → count_by p xs ≡ 0
none-counted p [] none = refl
none-counted p (x ∷ xs) none =
    let rest = none-counted p xs (λ i d within. none (suc i) d (omega (arith, within))) in
    let first : ◌≡◌ {A = ℕ} (cond (p x) 1 0) 0 = ap (λ (b : Bool). let y : ℕ = cond b 1 0 in y) (none 0 x (omega arith)) in
    sum_by-cons (λ (y : NodeState). cond (p y) 1 0) x xs ∙ ap₂ (λ (a b : ℕ). a + b) first rest

pub one-counted : (p : NodeState → Bool) (xs : List NodeState) (k : ℕ) → ((i : ℕ) (d : NodeState) → i < length xs → i ≢ k → p (get_or xs i d) ≡ false) → count_by p xs < 2
one-counted p [] k others = omega arith
one-counted p (x ∷ xs) zero others =
    let rest : count_by p xs ≡ 0 = none-counted p xs (λ i d within. others (suc i) d (omega (arith, within)) (omega arith)) in
    rw (sum_by-cons (λ (y : NodeState). cond (p y) 1 0) x xs, rest) (elim (cases_Bool (p x)) [
      | inl hit ↦ rw hit (omega arith)
      | inr miss ↦ rw miss (omega arith)
    ])
one-counted p (x ∷ xs) (suc k) others =
    let rest : count_by p xs < 2 = one-counted p xs k (λ i d within other. others (suc i) d (omega (arith, within)) (λ e. other (omega (arith, e)))) in
    let first : ◌≡◌ {A = ℕ} (cond (p x) 1 0) 0 = ap (λ (b : Bool). let y : ℕ = cond b 1 0 in y) (others 0 x (omega arith) (omega arith)) in
    let total : count_by p (x ∷ xs) ≡ cond (p x) 1 0 + count_by p xs = sum_by-cons (λ (y : NodeState). cond (p y) 1 0) x xs in
    omega (arith, total, first, rest)

-- where no position but one has an offline node, fewer than two nodes are offline
pub few-bits : (states : List NodeState) (p : ℕ) → ((i : ℕ) → i < p → get_or (map is_node_offline states) i false ≡ false)
    → ((i : ℕ) → p < i → get_or (map is_node_offline states) i false ≡ false) → count_by is_node_offline states < 2
few-bits states p below above =
    one-counted is_node_offline states p (λ i d within other.
    sym (get_or-map is_node_offline states i d false within)
    ∙ (elim (cases_lt i p) [
      | inl less ↦ below i less
      | inr more ↦ above i (omega (arith, more, other))
    ]))

-- a search that has found none
pub none-found : (xs : List Bool) (from : ℕ) (o : Option ℕ) → is_none o ≡ true → FindsFrom xs from o → (j : ℕ) → from ≤ j → get_or xs j false ≡ false
none-found xs from None none found = found
none-found xs from (Some k) none found = absurd (let clash : false ≡ true = none in cc)
