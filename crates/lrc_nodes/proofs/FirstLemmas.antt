-- The nodes with their states as they are kept at first.
use Rattle.std.proofs.Common.{◌≡◌, ℕ, zero, suc, ◌<◌, ◌+◌, inl, inr, Bool, true, false, ◌&&◌, ◌||◌, nat_eq, nat_lt, List, [], ◌∷◌, length, map, get_or, set, take, replicate, arith, refl, sym, ap, ap₂, ◌∙◌}
use Rattle.std.proofs.Math.ListN.{length-set}
use Rattle.std.specs.List.{list_any}
use Rattle.std.proofs.lemmas.Bool.{cases_Bool, cases_eq, cases_lt, eq-eqb, ne_eqb, lt-ltb, le-ltb}
use Rattle.std.proofs.lemmas.List.{get_or-set_same, get_or-set_other, length-replicate, get_or-replicate, get_or_default, take_more}
use Rattle.std.proofs.lemmas.List.Folds.{list_any-append}
use Rattle.lrc_code.specs.declared.numbers.NodeNo.{NodeNo}
use Rattle.lrc_code.specs.Numbers.{same_node}
use Rattle.lrc_topology.specs.declared.NodeInfo.{NodeInfo}
use Rattle.lrc_nodes.specs.declared.node_state.NodeState.{NodeState}
use Rattle.lrc_nodes.specs.States.{first_state, up_in}
use Rattle.lrc_nodes.specs.Kept.{states_from, AreDomains, ArePositions}

same_from : (n i : ℕ) → get_or (replicate n false) i false ≡ false
same_from zero i = refl
same_from (suc n) zero = refl
same_from (suc n) (suc i) = same_from n i

none-from : (k : ℕ) (nodes : List NodeInfo) (none : List Bool) → none ≡ replicate 512 false → states_from k nodes (record { gone = none; draining = none; down = none; upgrading = none }) ≡ map first_state nodes
none-from k [] none is = refl
none-from k (n ∷ nodes) none is =
    let bit : get_or none k false ≡ false = ap (λ (bs : List Bool). get_or bs k false) is ∙ same_from 512 k in
    rw bit (ap (λ (xs : List NodeState). first_state n ∷ xs) (none-from (suc k) nodes none is))

pub states-at_first : (nodes : List NodeInfo) (gone draining down upgrading : List Bool) → gone ≡ replicate 512 false → draining ≡ replicate 512 false → down ≡ replicate 512 false
    → upgrading ≡ replicate 512 false → states_from 0 nodes (record { gone = gone; draining = draining; down = down; upgrading = upgrading }) ≡ map first_state nodes
states-at_first nodes gone draining down upgrading a b c d =
    ap₂ (λ (x y : List Bool). states_from 0 nodes (record { gone = x; draining = y; down = down; upgrading = upgrading })) a b
    ∙ (ap₂ (λ (x y : List Bool). states_from 0 nodes (record { gone = replicate 512 false; draining = replicate 512 false; down = x; upgrading = y })) c d
    ∙ none-from 0 nodes (replicate 512 false) refl)

-- a set without a bit
pub none-set : (bits : List Bool) → bits ≡ replicate 512 false → (k : ℕ) → get_or bits k false ≡ false
none-set bits is k = ap (λ (bs : List Bool). get_or bs k false) is ∙ same_from 512 k

pub positions-none : (nodes : List NodeInfo) (bits : List Bool) → bits ≡ replicate 512 false → ArePositions nodes bits
positions-none nodes bits is = record {
  long = ap length is ∙ length-replicate 512 false;
  past = λ p above. ap (λ (bs : List Bool). get_or bs p false) is ∙ same_from 512 p;
}

pub domains-none : (nodes : List NodeInfo) → AreDomains nodes 0 (replicate 256 (replicate 512 false))
domains-none nodes =
    let same : (u : ℕ) → u < 256 → get_or (replicate 256 (replicate 512 false)) u [] ≡ replicate 512 false = λ u below. get_or-replicate 256 u (replicate 512 false) [] below in
    record {
      many = length-replicate 256 (replicate 512 false);
      long = λ u below. ap length (same u below) ∙ length-replicate 512 false;
      each = λ u p d below. ap (λ (bits : List Bool). get_or bits p false) (same u below) ∙ (same_from 512 p ∙ ap (λ b. b && nat_eq (get_or nodes p d).upgrade.value u) (sym (le-ltb p 0 (omega arith))));
    }

-- the place of one more node
pub domains-more : (nodes : List NodeInfo) (place : ℕ) (sets : List (List Bool)) (u : ℕ) (old : List Bool) (d : NodeInfo) → AreDomains nodes place sets → place < length nodes → place < 512
    → u < 256 → u ≡ (get_or nodes place d).upgrade.value → old ≡ get_or sets u [] → AreDomains nodes (place + 1) (set sets u (set old place true))
domains-more nodes place sets u old d are within small low is here =
    let new = set sets u (set old place true) in
    let many = are.many in
    let own : get_or new u [] ≡ set old place true = get_or-set_same sets u (set old place true) [] (omega (arith, many, low)) in
    let wide : length old ≡ 512 = ap length here ∙ are.long u low in
    record {
      many = length-set sets u (set old place true) ∙ are.many;
      long = λ v below. elim (cases_eq v u) [
        | inl same ↦ rw same (ap length own ∙ (length-set old place true ∙ wide))
        | inr other ↦ ap length (get_or-set_other sets u v (set old place true) [] other) ∙ are.long v below
      ];
      each = λ v p e below.
          let before = are.each v p e below in
          elim (cases_eq p place) [
            | inl at ↦
                let one : nat_lt p (place + 1) ≡ true = lt-ltb _ _ (omega (arith, at)) in
                let none : nat_lt p place ≡ false = le-ltb _ _ (omega (arith, at)) in
                let node : get_or nodes p e ≡ get_or nodes place d = ap (λ (q : ℕ). get_or nodes q e) at ∙ get_or_default nodes place e d within in
                elim (cases_eq v u) [
                  | inl same ↦
                      let hit : nat_eq (get_or nodes p e).upgrade.value v ≡ true = eq-eqb _ _ (ap (λ (n : NodeInfo). n.upgrade.value) node ∙ (sym is ∙ sym same)) in
                      let set_there : get_or (get_or new v []) p false ≡ true =
                      ap (λ (q : ℕ). get_or (get_or new q []) p false) same
                      ∙ (ap (λ (bits : List Bool). get_or bits p false) own ∙ (ap (λ (q : ℕ). get_or (set old place true) q false) at ∙ get_or-set_same old place true false (omega (arith, small, wide)))) in
                      set_there ∙ sym (rw (one, hit) refl)
                  | inr other ↦
                      let miss : nat_eq (get_or nodes p e).upgrade.value v ≡ false = ne_eqb _ _ (λ q. other (sym q ∙ (ap (λ (n : NodeInfo). n.upgrade.value) node ∙ sym is))) in
                      ap (λ (bits : List Bool). get_or bits p false) (get_or-set_other sets u v (set old place true) [] other)
                      ∙ (before ∙ (rw (one, none, miss) refl))
                ]
            | inr apart ↦
                let same_lt : nat_lt p place ≡ nat_lt p (place + 1) = elim (cases_lt p place) [
                  | inl less ↦ lt-ltb _ _ less ∙ sym (lt-ltb _ _ (omega (arith, less)))
                  | inr more ↦ le-ltb _ _ more ∙ sym (le-ltb _ _ (omega (arith, more, apart)))
                ] in
                let after : get_or (get_or sets v []) p false ≡ (nat_lt p (place + 1) && nat_eq (get_or nodes p e).upgrade.value v) =
                before ∙ ap (λ b. b && nat_eq (get_or nodes p e).upgrade.value v) same_lt in
                elim (cases_eq v u) [
                  | inl same ↦
                      ap (λ (q : ℕ). get_or (get_or new q []) p false) same
                      ∙ (ap (λ (bits : List Bool). get_or bits p false) own
                      ∙ (get_or-set_other old place p true false apart
                      ∙ (ap (λ (bits : List Bool). get_or bits p false) here
                      ∙ (ap (λ (q : ℕ). get_or (get_or sets q []) p false) (sym same) ∙ after))))
                  | inr other ↦ ap (λ (bits : List Bool). get_or bits p false) (get_or-set_other sets u v (set old place true) [] other) ∙ after
                ]
          ];
    }

-- ---- the flags of the nodes

-- the node with this number is among these
abbrev is_among : NodeNo → List NodeInfo → Bool
is_among n nodes = list_any (λ k. same_node n k.number) nodes

pub flags-none : (count : ℕ) (flags : List Bool) → flags ≡ replicate count false → (k : ℕ) → get_or flags k false ≡ false
flags-none count flags is k = ap (λ (bs : List Bool). get_or bs k false) is ∙ same_from count k

-- the flag of one more node
pub flags-more : (nodes : List NodeInfo) (i : ℕ) (d : NodeInfo) (flags : List Bool) → i < length nodes → (get_or nodes i d).number.value < length flags
    → ((n : NodeNo) → get_or flags n.value false ≡ list_any (λ k. same_node n k.number) (take i nodes))
    → (n : NodeNo) → get_or (set flags (get_or nodes i d).number.value true) n.value false ≡ list_any (λ k. same_node n k.number) (take (i + 1) nodes)
flags-more nodes i d flags within low each n =
    let m = (get_or nodes i d).number in
    rw (take_more nodes i d within) (rw (list_any-append (λ (k : NodeInfo). same_node n k.number) (take i nodes) (get_or nodes i d ∷ [])) (elim (cases_eq n.value m.value) [
      | inl same ↦
          rw (eq-eqb _ _ same) (ap (λ (k : ℕ). get_or (set flags m.value true) k false) same ∙ (get_or-set_same flags m.value true false low ∙ sym (or-true (is_among n (take i nodes)))))
      | inr other ↦ rw (ne_eqb _ _ other) (get_or-set_other flags m.value n.value true false other ∙ (each n ∙ sym (or-false (is_among n (take i nodes)))))
    ])) where
      or-true : (b : Bool) → (b || true) ≡ true
      or-true true = refl
      or-true false = refl

      or-false : (b : Bool) → (b || false) ≡ b
      or-false true = refl
      or-false false = refl

-- at first each node is up
pub flags-all : (nodes : List NodeInfo) (n : NodeNo) → list_any (λ k. same_node n k.number) nodes ≡ up_in (map first_state nodes) n
flags-all [] n = refl
flags-all (m ∷ nodes) n = elim (cases_Bool (nat_eq n.value m.number.value)) [
  | inl here ↦ rw here refl
  | inr later ↦ rw later (flags-all nodes n)
]
