-- The missing fragments of the rows where upgrade domains are upgrading.
use Rattle.std.proofs.Common.{◌≡◌, ℕ, zero, suc, ◌<◌, Bool, true, false, not, ◌&&◌, ◌||◌, if◌then◌else◌, nat_lt, nat_eq, bit_or, List, [], ◌∷◌, length, map, get_or, set, replicate, Option, Some, None, option_map, option_and_then, is_some, arith, inl, inr, refl, sym, ap, ◌∙◌, subst}
use Rattle.std.proofs.Math.Path.{fun_ext}
use Rattle.std.proofs.Math.ListN.{length-set}
use Rattle.std.specs.Option.{option_map_or}
use Rattle.std.specs.List.{All}
use Rattle.std.proofs.lemmas.Bool.{cases_Bool, eq-eqb, eqb-true, lt-ltb}
use Rattle.std.proofs.lemmas.List.{get_or-set_same, get_or-set_other, length-replicate}
use Rattle.std.proofs.lemmas.Nat.Bits.{bit_at-zero}
use Rattle.std.proofs.lemmas.Option.{same_Some}
use Rattle.lrc_code.specs.declared.codes.Code.{Code}
use Rattle.lrc_code.specs.declared.losses.LossMask.{LossMask}
use Rattle.lrc_code.specs.declared.numbers.NodeNo.{NodeNo}
use Rattle.lrc_code.specs.declared.numbers.StripeNo.{StripeNo}
use Rattle.lrc_code.specs.declared.numbers.UpgradeNo.{UpgradeNo}
use Rattle.lrc_code.specs.Numbers.{same_node, same_upgrade}
use Rattle.lrc_code.specs.Codes.{has_fragment}
use Rattle.lrc_code.specs.Losses.{FragmentSet, bits_set}
use Rattle.lrc_topology.specs.declared.NodeInfo.{NodeInfo}
use Rattle.lrc_topology.specs.declared.seat.Seat.{Seat}
use Rattle.lrc_topology.specs.Nodes.{node_at}
use Rattle.lrc_terms.specs.declared.mode.Mode.{Mode}
use Rattle.lrc_terms.specs.Modes.{is_gone}
use Rattle.lrc_terms.specs.Levels.{rank_by}
use Rattle.lrc_nodes.specs.declared.node_state.NodeState.{NodeState}
use Rattle.lrc_nodes.specs.States.{first_state, is_node_online, is_node_up, infos_in, state_at, online_in, up_in, with_state, with_upgrading_in}
use Rattle.lrc_nodes.proofs.StateLemmas.{node_at-states}
use Rattle.lrc_homes.specs.declared.home_domains.HomeDomains.{HomeDomains}
use Rattle.lrc_homes.specs.Domains.{AreDomainsOf}
use Rattle.lrc_homes.specs.Homes.{is_missing}
use Rattle.lrc_homes.specs.Masks.{AreWithin, IsMaskOf, work_rank}
use Rattle.lrc_homes.specs.Upgrading.{in_upgrade, missing_with, work_rank_with}
use Rattle.lrc_homes.proofs.MaskLemmas.{has-low, put-in}
use Rattle.lrc_ranks.specs.Ranks.{is_at}
use Rattle.lrc_rows.specs.declared.row.Row.{Row}
use Rattle.lrc_rows.specs.NodeStates.{NodeLists, states_in, AreUpgrading}
use Rattle.lrc_rows.specs.Listed.{rows_in}
use Rattle.lrc_rows.specs.Kept.{IsKept, fresh, freshened, queued, ranked}
use Rattle.lrc_rows.proofs.FreshLemmas.{mask-is, freshened-there, freshened-absent}

-- the members of either mask
pub either-bits : (m a joined f : ℕ) → joined ≡ bit_or m a → bits_set joined f ≡ (bits_set m f || bits_set a f)
either-bits m a joined f is = put-in m a joined f is ∙ either (bits_set m f) (bits_set a f) where
  either : (x y : Bool) → (if y then true else x) ≡ (x || y)
  either true true = refl
  either true false = refl
  either false true = refl
  either false false = refl

-- no bit is set
pub no-bits : (f : ℕ) → bits_set 0 f ≡ false
no-bits f = rw (bit_at-zero f) refl

-- ---- the domains in turn

-- where what is left has all, none is passed
pub left-over : (a b c : Bool) → c ≡ b → false ≡ (a && (b && not c))
left-over a true true same = sym (bare a) where
  bare : (a : Bool) → (a && false) ≡ false
  bare true = refl
  bare false = refl
left-over true false c same = refl
left-over false false c same = refl
left-over a true false same = absurd (let clash : false ≡ true = same in cc)

-- what is left after one is taken was left before
pub left-set : (left : List Bool) (u k : ℕ) → get_or (set left u false) k false ≡ true → get_or left k false ≡ true
left-set left u k hit = by (nat_eq k u) refl where
  by : (b : Bool) → nat_eq k u ≡ b → get_or left k false ≡ true
  by false other = sym (get_or-set_other left u k false false (λ e. let clash : true ≡ false = sym (eq-eqb k u e) ∙ other in cc)) ∙ hit
  by true same = absurd (let clash : false ≡ true = sym (ap (λ (n : ℕ). get_or (set left u false) n false) (eqb-true k u same) ∙ taken-out left u) ∙ hit in cc) where
    taken-out : (xs : List Bool) (n : ℕ) → get_or (set xs n false) n false ≡ false
    taken-out [] n = refl
    taken-out (x ∷ xs) zero = refl
    taken-out (x ∷ xs) (suc n) = taken-out xs n

-- a domain of the set passed
pub one-passed : (all left after : List Bool) (u x : ℕ) (a : Bool) → get_or all u false ≡ true → after ≡ set left u false
    → ((a && (get_or all x false && not (get_or left x false))) || (a && nat_eq x u)) ≡ (a && (get_or all x false && not (get_or after x false)))
one-passed all left after u x a there taken = by (nat_eq x u) refl where
  own : (a l : Bool) → ((a && (true && not l)) || (a && true)) ≡ (a && (true && not false))
  own true true = refl
  own true false = refl
  own false l = refl

  rest : (a b l : Bool) → ((a && (b && not l)) || (a && false)) ≡ (a && (b && not l))
  rest true b l = or-false (b && not l) where
    or-false : (b : Bool) → (b || false) ≡ b
    or-false true = refl
    or-false false = refl
  rest false b l = refl

  gone : (xs : List Bool) (n : ℕ) → get_or (set xs n false) n false ≡ false
  gone [] n = refl
  gone (x ∷ xs) zero = refl
  gone (x ∷ xs) (suc n) = gone xs n

  by : (b : Bool) → nat_eq x u ≡ b → ((a && (get_or all x false && not (get_or left x false))) || (a && nat_eq x u)) ≡ (a && (get_or all x false && not (get_or after x false)))
  by true same =
      let here : x ≡ u = eqb-true x u same in
      rw (same, taken, ap (λ (n : ℕ). get_or all n false) here ∙ there, ap (λ (n : ℕ). get_or (set left u false) n false) here ∙ gone left u) (own a (get_or left x false))
  by false other =
      rw (other, taken, get_or-set_other left u x false false (λ e. let clash : true ≡ false = sym (eq-eqb x u e) ∙ other in cc)) (rest a (get_or all x false) (get_or left x false))

-- ---- nodes that are up, and those that are online

-- a node that the store does not have is offline
pub unknown-offline : (t : NodeLists) (n : NodeNo) → node_at (states_in t).nodes n ≡ None → (states_in t).online n ≡ false
unfolding states_in
unknown-offline t n none = by (state_at t.list n) (sym (node_at-states t.list n) ∙ none) where
  by : (o : Option NodeState) → option_map (λ (x : NodeState). x.node) o ≡ None → option_map_or is_node_online o false ≡ false
  by None e = refl
  by (Some x) e = absurd (let clash : Some x.node ≡ None = e in cc)

-- nor is it up
pub unknown-down : (t : NodeLists) (n : NodeNo) → node_at (states_in t).nodes n ≡ None → (states_in t).up n ≡ false
unfolding states_in
unknown-down t n none = by (state_at t.list n) (sym (node_at-states t.list n) ∙ none) where
  by : (o : Option NodeState) → option_map (λ (x : NodeState). x.node) o ≡ None → option_map_or is_node_up o false ≡ false
  by None e = refl
  by (Some x) e = absurd (let clash : Some x.node ≡ None = e in cc)

-- a node is online if it is up and not upgrading
online-as : (x : NodeState) → is_node_online x ≡ (is_node_up x && not x.is_upgrading)
online-as x = by (not (is_gone x.mode)) (not x.is_down) (not x.is_upgrading) where
  by : (a b c : Bool) → (a && (b && c)) ≡ ((a && b) && c)
  by true b c = refl
  by false b c = refl

-- a node that is online is up
pub online-up : (t : NodeLists) (n : NodeNo) → (states_in t).online n ≡ true → (states_in t).up n ≡ true
unfolding states_in
online-up t n = by (state_at t.list n) where
  first : (a b : Bool) → (a && b) ≡ true → a ≡ true
  first true b e = refl
  first false b e = e

  by : (o : Option NodeState) → option_map_or is_node_online o false ≡ true → option_map_or is_node_up o false ≡ true
  by None e = e
  by (Some x) e = first (is_node_up x) (not x.is_upgrading) (sym (online-as x) ∙ e)

-- what all nodes have, the one with a number has
all-at : (P : NodeState → Type 0) (xs : List NodeState) → All P xs → (n : NodeNo) (x : NodeState) → state_at xs n ≡ Some x → P x
all-at P [] all n x is = absurd (let clash : None ≡ Some x = is in cc)
all-at P (y ∷ xs) all n x is = elim (cases_Bool (nat_eq n.value y.node.number.value)) [
  | inl here ↦ let same : ◌≡◌ {A = Option NodeState} (Some y) (Some x) = rw here at is in subst P (same_Some y x same) (all 0 y (omega arith))
  | inr later ↦ all-at P xs (λ i d within. all (suc i) d (omega (arith, within))) n x (rw later at is)
]

-- a node of the store is online if it is up, and its domain is not of the set
split-at : (states : List NodeState) (upgrading : List Bool) → AreUpgrading states upgrading → (n : NodeNo) (m : NodeInfo) → node_at (infos_in states) n ≡ Some m
    → online_in states n ≡ (up_in states n && not (get_or upgrading m.upgrade.value false))
split-at states upgrading are n m at = by (state_at states n) refl (sym (node_at-states states n) ∙ at) where
  by : (o : Option NodeState) → state_at states n ≡ o → option_map (λ (x : NodeState). x.node) o ≡ Some m
      → online_in states n ≡ (up_in states n && not (get_or upgrading m.upgrade.value false))
  by None is e = absurd (let clash : None ≡ Some m = e in cc)
  by (Some x) is e =
      let own : x.node ≡ m = same_Some x.node m e in
      let said = all-at (λ (y : NodeState). y.is_upgrading ≡ get_or upgrading y.node.upgrade.value false) states are.each n x is in
      ap (λ (o : Option NodeState). option_map_or is_node_online o false) is
      ∙ (online-as x
      ∙ (ap (λ (b : Bool). is_node_up x && not b) (said ∙ ap (λ (k : NodeInfo). get_or upgrading k.upgrade.value false) own)
      ∙ ap (λ (o : Option NodeState). option_map_or is_node_up o false && not (get_or upgrading m.upgrade.value false)) (sym is)))

pub node-split : (t : NodeLists) (upgrading : List Bool) → AreUpgrading t.list upgrading → (n : NodeNo) (m : NodeInfo) → node_at (states_in t).nodes n ≡ Some m
    → (states_in t).online n ≡ ((states_in t).up n && not (get_or upgrading m.upgrade.value false))
unfolding states_in
node-split t upgrading are n m at = split-at t.list upgrading are n m at

-- ---- the set of the upgrading domains

all-mapped : (P Q : NodeState → Type 0) (f : NodeState → NodeState) → ((x : NodeState) → P x → Q (f x)) → (xs : List NodeState) → All P xs → All Q (map f xs)
all-mapped P Q f gives [] all i d within = absurd (omega (arith, within))
all-mapped P Q f gives (x ∷ xs) all zero d within = gives x (all 0 x (omega arith))
all-mapped P Q f gives (x ∷ xs) all (suc i) d within = all-mapped P Q f gives xs (λ j e inside. all (suc j) e (omega (arith, inside))) i d (omega (arith, within))

-- the nodes of the domains of the set are upgrading
abbrev says : List Bool → NodeState → Type 0
says upgrading x = x.is_upgrading ≡ get_or upgrading x.node.upgrade.value false

pub none-of : (n i : ℕ) → get_or (replicate n false) i false ≡ false
none-of zero i = refl
none-of (suc n) zero = refl
none-of (suc n) (suc i) = none-of n i

first-upgrading : (nodes : List NodeInfo) (upgrading : List Bool) → ((k : ℕ) → get_or upgrading k false ≡ false) → All (says upgrading) (map first_state nodes)
first-upgrading [] upgrading none i d within = absurd (omega (arith, within))
first-upgrading (n ∷ nodes) upgrading none zero d within = sym (none n.upgrade.value)
first-upgrading (n ∷ nodes) upgrading none (suc i) d within = first-upgrading nodes upgrading none i d (omega (arith, within))

-- none is at first
pub upgrading-first : (states : List NodeState) (nodes : List NodeInfo) (upgrading : List Bool) → states ≡ map first_state nodes → upgrading ≡ replicate 256 false → AreUpgrading states upgrading
upgrading-first states nodes upgrading made none = record {
  long = ap length none ∙ length-replicate 256 false;
  each = subst (λ (xs : List NodeState). All (says upgrading) xs) (sym made) (first-upgrading nodes upgrading (λ k. ap (λ (u : List Bool). get_or u k false) none ∙ none-of 256 k));
}

-- the state of a node leaves that
pub upgrading-state : (states : List NodeState) (n : NodeNo) (mode : Mode) (b : Bool) (upgrading : List Bool) → AreUpgrading states upgrading → AreUpgrading (with_state states n mode b) upgrading
upgrading-state states n mode b upgrading are = record {
  long = are.long;
  each = all-mapped (says upgrading) (says upgrading) (λ x. if same_node n x.node.number then record x { mode = mode; is_down = b } else x) (λ x said. by x said (same_node n x.node.number)) states are.each;
} where
  by : (x : NodeState) → says upgrading x → (c : Bool) → says upgrading (if c then record x { mode = mode; is_down = b } else x)
  by x said true = said
  by x said false = said

-- a domain and its nodes begin or end upgrading
pub upgrading-set : (states : List NodeState) (u : UpgradeNo) → u.value < 256 → (b : Bool) (upgrading : List Bool) → AreUpgrading states upgrading → AreUpgrading (with_upgrading_in states u b) (set upgrading u.value b)
upgrading-set states u low b upgrading are = record {
  long = length-set upgrading u.value b ∙ are.long;
  each = all-mapped (says upgrading) (says (set upgrading u.value b)) (λ x. if same_upgrade x.node.upgrade u then record x { is_upgrading = b } else x) (λ x said. by x said (nat_eq x.node.upgrade.value u.value) refl) states are.each;
} where
  by : (x : NodeState) → says upgrading x → (c : Bool) → nat_eq x.node.upgrade.value u.value ≡ c
      → says (set upgrading u.value b) (if c then record x { is_upgrading = b } else x)
  by x said true same =
      sym (ap (λ (k : ℕ). get_or (set upgrading u.value b) k false) (eqb-true _ _ same) ∙ get_or-set_same upgrading u.value b false (let long = are.long in omega (arith, low, long)))
  by x said false other = said ∙ sym (get_or-set_other upgrading u.value x.node.upgrade.value b false (λ e. let clash : true ≡ false = sym (eq-eqb _ _ e) ∙ other in cc))

-- ---- the missing fragments

module _ (t : NodeLists) (upgrading : List Bool) (are : AreUpgrading t.list upgrading) (code : Code) (homes : List (Option Seat)) (d : HomeDomains)
    (of : AreDomainsOf (states_in t).nodes (λ f. get_or homes f None) d) (within : AreWithin code homes) where
  -- a home in an upgrading domain, and no other, is missing too
  missing-at : (f : ℕ) (home : Option Seat) → get_or homes f None ≡ home → (b : Bool) → has_fragment code f ≡ b
      → ((b && is_missing (states_in t).up home) || ((nat_lt f 16 && get_or upgrading (get_or d.upgrades f 0) false) && is_some home)) ≡ (b && is_missing (states_in t).online home)
  missing-at f None at true low = refl
  missing-at f None at false high = bare (nat_lt f 16 && get_or upgrading (get_or d.upgrades f 0) false) where
    bare : (a : Bool) → (a && false) ≡ false
    bare true = refl
    bare false = refl
  missing-at f (Some seat) at false high = absurd (let clash : Some seat ≡ None = sym at ∙ within f high in cc)
  missing-at f (Some seat) at true low = by (node_at (states_in t).nodes seat.node) refl where
    turned : (u x : Bool) → (not u || ((true && x) && true)) ≡ not (u && not x)
    turned true true = refl
    turned true false = refl
    turned false x = refl

    by : (o : Option NodeInfo) → node_at (states_in t).nodes seat.node ≡ o
        → (not ((states_in t).up seat.node) || ((nat_lt f 16 && get_or upgrading (get_or d.upgrades f 0) false) && true)) ≡ not ((states_in t).online seat.node)
    by None none = rw (unknown-down t seat.node none, unknown-offline t seat.node none) refl
    by (Some m) there =
        rw (lt-ltb f 16 (has-low code f low), (of f seat m at there).1, node-split t upgrading are seat.node m there) (turned ((states_in t).up seat.node) (get_or upgrading m.upgrade.value false))

  -- a mask with them is the one of the nodes that are online
  pub mask-upgraded : (before : LossMask) (after : ℕ) → IsMaskOf code (is_missing (states_in t).up) homes before
      → ((f : ℕ) → bits_set after f ≡ (bits_set before.bits f || in_upgrade upgrading homes d f)) → IsMaskOf code (is_missing (states_in t).online) homes (record { bits = after })
  mask-upgraded before after was joined f =
      joined f ∙ (ap (λ (b : Bool). b || in_upgrade upgrading homes d f) (was f) ∙ missing-at f (get_or homes f None) refl (has_fragment code f) refl)

-- ---- the ranks

-- the ranks of the stripes that have work are those of now
pub ranked-now : (t : NodeLists) (upgrading : List Bool) (list : List (Option Row)) → AreUpgrading t.list upgrading → IsKept (states_in t) (rows_in list)
    → ranked upgrading (rows_in list) ≡ queued work_rank (rows_in (freshened (states_in t).online list))
ranked-now t upgrading list are kept = fun_ext (λ k. fun_ext (λ s. by k s (rows_in list s) refl)) where
  before : ℕ → Option Row → Bool
  before k o = is_at k (option_and_then (λ r. work_rank_with upgrading r.homes r.domains r.losses) o)

  after : ℕ → Option Row → Bool
  after k o = is_at k (option_and_then (λ r. work_rank r.losses) o)

  same : (k : ℕ) (s : StripeNo) (q : Row) → rows_in list s ≡ Some q → (b : Bool) → nat_eq q.losses.needs.bits 0 ≡ b
      → before k (Some q) ≡ after k (Some (fresh (states_in t).online q))
  same k s q there true none = rw none refl
  same k s q there false some =
      let masks = kept.losses s q there in
      let bits = missing_with upgrading q.homes q.domains q.losses in
      let exact : (f : ℕ) → bits f ≡ (has_fragment q.losses.code f && is_missing (states_in t).online (get_or q.homes f None)) = λ f.
      ap (λ (b : Bool). b || in_upgrade upgrading q.homes q.domains f) (masks.missing (λ e. absurd (let clash : true ≡ false = sym (eq-eqb _ _ e) ∙ some in cc)) f)
      ∙ missing-at t upgrading are q.losses.code q.homes q.domains (kept.domains s q there) masks.within f (get_or q.homes f None) refl (has_fragment q.losses.code f) refl in
      rw some (ap (λ (m : FragmentSet). nat_eq (rank_by q.losses.code m) k) (fun_ext (λ f. exact f ∙ sym (mask-is q.losses.code (states_in t).online q.homes f))))

  by : (k : ℕ) (s : StripeNo) (o : Option Row) → rows_in list s ≡ o → before k (rows_in list s) ≡ after k (rows_in (freshened (states_in t).online list) s)
  by k s None none = ap (before k) none ∙ sym (ap (after k) (freshened-absent (states_in t).online list s none))
  by k s (Some q) there = ap (before k) there ∙ (same k s q there (nat_eq q.losses.needs.bits 0) refl ∙ sym (ap (after k) (freshened-there (states_in t).online list s q there)))
