-- Look-ups in a list of nodes with their states.
use Rattle.std.proofs.Common.{◌≡◌, ◌≢◌, ℕ, zero, suc, ◌<◌, ◌≤◌, inl, inr, Bool, true, false, not, ◌&&◌, nat_eq, nat_lt, if◌then◌else◌, List, [], ◌∷◌, length, map, get_or, Option, Some, None, IsSome, option_map, arith, refl, sym, ap, ◌∙◌, subst}
use Rattle.std.specs.List.{position_or_len, All, AllPairs}
use Rattle.std.specs.Option.{option_map_or}
use Rattle.std.proofs.lemmas.Bool.{cases_Bool, cases_lt, eq-eqb, ne_eqb, eqb-true, lt-ltb, le-ltb}
use Rattle.std.proofs.lemmas.Option.{same_Some}
use Rattle.std.proofs.lemmas.List.{get_or-map, length-map}
use Rattle.lrc_code.specs.declared.numbers.NodeNo.{NodeNo}
use Rattle.lrc_code.specs.Numbers.{same_node}
use Rattle.lrc_topology.specs.declared.NodeInfo.{NodeInfo}
use Rattle.lrc_topology.specs.Nodes.{node_at, place_in}
use Rattle.lrc_terms.specs.declared.mode.Mode.TheVariants.{Active}
use Rattle.lrc_terms.specs.Modes.{is_gone}
use Rattle.lrc_nodes.specs.declared.node_state.NodeState.{NodeState}
use Rattle.lrc_nodes.specs.States.{first_state, is_node_up, is_node_online, numbers_in, state_at, node_position, up_in, online_in}

-- a filler for no node
abbrev pub no_state : NodeState
no_state = record { node = record { number = record { value = 0 }; fault = record { value = 0 }; upgrade = record { value = 0 }; slots = 0 }; mode = Active; is_down = false; is_upgrading = false }

-- ---- at first

pub nodes-at_first : (nodes : List NodeInfo) → map (λ x. x.node) (map first_state nodes) ≡ nodes
nodes-at_first [] = refl
nodes-at_first (n ∷ nodes) = ap (λ (ns : List NodeInfo). n ∷ ns) (nodes-at_first nodes)

pub numbers-at_first : (nodes : List NodeInfo) → map (λ n. n.number) nodes ≡ numbers_in (map first_state nodes)
numbers-at_first [] = refl
numbers-at_first (n ∷ nodes) = ap (λ (ns : List NodeNo). n.number ∷ ns) (numbers-at_first nodes)

-- ---- a node by its number

-- the nodes are found as they are with their states
pub node_at-states : (states : List NodeState) (n : NodeNo) → node_at (map (λ x. x.node) states) n ≡ option_map (λ x. x.node) (state_at states n)
node_at-states [] n = refl
node_at-states (x ∷ states) n = elim (cases_Bool (nat_eq n.value x.node.number.value)) [
  | inl here ↦ rw here refl
  | inr later ↦ rw later (node_at-states states n)
]

-- a node is at its position, if that is within the list
pub state_at-place : (states : List NodeState) (n : NodeNo) (d : NodeState) → node_position states n < length states → state_at states n ≡ Some (get_or states (node_position states n) d)
state_at-place [] n d within = absurd (omega (arith, within))
state_at-place (x ∷ states) n d within = elim (cases_Bool (nat_eq n.value x.node.number.value)) [
  | inl here ↦ rw here refl
  | inr later ↦
      let rest : suc (node_position states n) < suc (length states) = rw later at within in
      rw later (state_at-place states n d (omega (arith, rest)))
]

pub state_at-past : (states : List NodeState) (n : NodeNo) → length states ≤ node_position states n → state_at states n ≡ None
state_at-past [] n past = refl
state_at-past (x ∷ states) n past = elim (cases_Bool (nat_eq n.value x.node.number.value)) [
  | inl here ↦ absurd (let none : suc (length states) ≤ 0 = rw here at past in omega (arith, none))
  | inr later ↦
      let rest : suc (length states) ≤ suc (node_position states n) = rw later at past in
      rw later (state_at-past states n (omega (arith, rest)))
]

-- a node that is found has the number
pub state_at-number : (states : List NodeState) (n : NodeNo) (x : NodeState) → state_at states n ≡ Some x → n.value ≡ x.node.number.value
state_at-number [] n x is = absurd (cc)
state_at-number (y ∷ states) n x is = elim (cases_Bool (nat_eq n.value y.node.number.value)) [
  | inl here ↦ let same : ◌≡◌ {A = Option NodeState} (Some y) (Some x) = rw here at is in eqb-true _ _ here ∙ ap (λ (z : NodeState). z.node.number.value) (same_Some y x same)
  | inr later ↦ state_at-number states n x (rw later at is)
]

-- the node at its position has the number
pub place_number : (states : List NodeState) (n : NodeNo) (d : NodeState) → node_position states n < length states → n.value ≡ (get_or states (node_position states n) d).node.number.value
place_number [] n d within = absurd (omega (arith, within))
place_number (x ∷ states) n d within = elim (cases_Bool (nat_eq n.value x.node.number.value)) [
  | inl here ↦ rw here (eqb-true _ _ here)
  | inr later ↦
      let rest : suc (node_position states n) < suc (length states) = rw later at within in
      rw later (place_number states n d (omega (arith, rest)))
]

-- two numbers with one position within are one
pub one_place : (states : List NodeState) (n m : NodeNo) → node_position states n ≡ node_position states m → node_position states n < length states → n.value ≡ m.value
one_place states n m same within =
    let d = no_state in
    place_number states n d within ∙ (ap (λ (p : ℕ). (get_or states p d).node.number.value) same ∙ sym (place_number states m d (omega (arith, within, same))))

-- ---- the position that is found among the numbers

-- the position of the node, or none if no node has the number
abbrev pub IsPlaceOf : List NodeState → NodeNo → Option ℕ → Type 0
IsPlaceOf states n None = length states ≤ node_position states n
IsPlaceOf states n (Some p) = (p ≡ node_position states n) × (p < length states)

node_position-first : (states : List NodeState) (n : NodeNo) → position_or_len (λ m. same_node n m) (numbers_in states) ≡ node_position states n
node_position-first [] n = refl
node_position-first (x ∷ states) n = elim (cases_Bool (nat_eq n.value x.node.number.value)) [
  | inl here ↦ rw here refl
  | inr later ↦ rw (later, node_position-first states n) (omega arith)
]

pub place-found : (states : List NodeState) (n : NodeNo) → IsPlaceOf states n (place_in (numbers_in states) n)
place-found states n =
    let count : length (numbers_in states) ≡ length states = length-map states (λ (x : NodeState). x.node.number) in
    subst (λ (k : ℕ). IsPlaceOf states n (if nat_lt k (length (numbers_in states)) then Some k else None)) (sym (node_position-first states n)) (elim (cases_lt (node_position states n) (length (numbers_in states))) [
      | inl within ↦ rw (lt-ltb _ _ within) (refl, omega (arith, within, count))
      | inr past ↦ rw (le-ltb _ _ past) (omega (arith, past, count))
    ])

-- the node at the position that is found
pub state-found : (states : List NodeState) (n : NodeNo) (p : ℕ) (d : NodeState) → IsPlaceOf states n (Some p) → state_at states n ≡ Some (get_or states p d)
state-found states n p d at = state_at-place states n d (omega (arith, at.0, at.1)) ∙ ap (λ (q : ℕ). Some (get_or states q d)) (sym at.0)

-- the node at the position of a number
pub placed-state : (states : List NodeState) (n : NodeNo) (p : ℕ) → place_in (numbers_in states) n ≡ Some p → (p < length states) × (state_at states n ≡ Some (get_or states p no_state))
placed-state states n p place =
    let at = subst (λ (o : Option ℕ). IsPlaceOf states n o) place (place-found states n) in
    (at.1, state-found states n p no_state at)

-- ---- a node by its own number

-- the node at a position is the one of its number
pub state_at-own : (states : List NodeState) (i : ℕ) (d : NodeState) → i < length states → AllPairs (λ (m n : NodeNo). m.value ≢ n.value) (numbers_in states)
    → state_at states (get_or states i d).node.number ≡ Some (get_or states i d)
state_at-own [] i d within apart = absurd (omega (arith, within))
state_at-own (x ∷ states) zero d within apart = rw (eq-eqb x.node.number.value x.node.number.value refl) refl
state_at-own (x ∷ states) (suc i) d within apart =
    let here : NodeState = get_or states i d in
    let inside : i < length states = omega (arith, within) in
    let count : length (numbers_in states) ≡ length states = length-map states (λ (y : NodeState). y.node.number) in
    let own = get_or-map (λ (y : NodeState). y.node.number) states i d x.node.number inside in
    let differ : here.node.number.value ≢ x.node.number.value =
    λ e. apart 0 (suc i) x.node.number (omega arith) (omega (arith, inside, count)) (sym e ∙ ap (λ (n : NodeNo). n.value) (sym own)) in
    rw (ne_eqb here.node.number.value x.node.number.value differ)
    (state_at-own states i d inside (λ k j m below inside. apart (suc k) (suc j) m (omega (arith, below)) (omega (arith, inside))))

-- whether it is online is what it says itself
pub online-own : (states : List NodeState) (i : ℕ) (d : NodeState) → i < length states → AllPairs (λ (m n : NodeNo). m.value ≢ n.value) (numbers_in states)
    → online_in states (get_or states i d).node.number ≡ is_node_online (get_or states i d)
online-own states i d within apart = ap (λ (o : Option NodeState). option_map_or is_node_online o false) (state_at-own states i d within apart)

-- ---- what is online is up

-- a node that is up is online, unless its domain is upgrading
pub online-up : (x : NodeState) → is_node_up x ≡ true → not x.is_upgrading ≡ is_node_online x
online-up x up = by (is_gone x.mode) x.is_down x.is_upgrading up where
  by : (gone down upgrading : Bool) → (not gone && not down) ≡ true → not upgrading ≡ (not gone && (not down && not upgrading))
  by true down upgrading up = absurd (cc)
  by false true upgrading up = absurd (cc)
  by false false upgrading up = refl

-- what is not up is not online
pub offline-down : (o : Option NodeState) → option_map_or is_node_up o false ≡ false → false ≡ option_map_or is_node_online o false
offline-down None off = refl
offline-down (Some x) off = by (is_gone x.mode) x.is_down (not x.is_upgrading) off where
  by : (gone down rest : Bool) → (not gone && not down) ≡ false → false ≡ (not gone && (not down && rest))
  by true down rest off = refl
  by false true rest off = refl
  by false false rest off = absurd (cc)

-- what is up is there
pub there-up : (o : Option NodeState) → option_map_or is_node_up o false ≡ true → IsSome o
there-up None up = absurd (cc)
there-up (Some x) up = refl
