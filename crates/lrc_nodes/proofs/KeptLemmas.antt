-- The nodes with their states kept as bits by position.
use Rattle.std.proofs.Common.{◌≡◌, ◌≢◌, ℕ, zero, suc, ◌<◌, ◌≤◌, ◌+◌, inl, inr, Bool, true, false, not, ◌&&◌, ◌||◌, cond, if◌then◌else◌, nat_lt, List, [], ◌∷◌, length, map, get_or, Option, Some, None, IsSome, is_some, set, arith, refl, sym, ap, ap₂, ◌∙◌, subst}
use Rattle.std.proofs.Math.ListN.{length-set}
use Rattle.std.specs.List.{All, AllPairs}
use Rattle.std.proofs.lemmas.Bool.{cases_eq, cases_lt, eq-eqb, ne_eqb, lt-ltb, le-ltb}
use Rattle.std.proofs.lemmas.List.{get_or-set_same, get_or-set_other, get_or-map, length-map, get_or_default, get_or_past}
use Rattle.lrc_bits.specs.Flags.{FindsFrom}
use Rattle.lrc_code.specs.declared.numbers.NodeNo.{NodeNo}
use Rattle.lrc_code.specs.declared.numbers.UpgradeNo.{UpgradeNo}
use Rattle.lrc_code.specs.Numbers.{same_node, same_upgrade}
use Rattle.lrc_topology.specs.declared.NodeInfo.{NodeInfo}
use Rattle.lrc_topology.specs.Nodes.{place_in}
use Rattle.lrc_nodes.specs.declared.node_state.NodeState.{NodeState}
use Rattle.lrc_terms.specs.declared.mode.Mode.{Mode}
use Rattle.lrc_terms.specs.declared.mode.Mode.TheVariants.{Active, Draining, Gone}
use Rattle.lrc_terms.specs.Modes.{is_gone, is_draining}
use Rattle.lrc_nodes.specs.States.{is_node_offline, is_node_draining, numbers_in, state_at, with_state, with_upgrading_in}
use Rattle.lrc_nodes.specs.Kept.{StateBits, mode_by, state_by, state_of, states_from, AreDomains, ArePositions, AreStates, AreOffline, AreUp, AreKept}
use Rattle.lrc_nodes.proofs.StateLemmas.{no_state, IsPlaceOf, place-found, state-found, state_at-past, state_at-number}

-- ---- the nodes of the list

pub states-long : (k : ℕ) (nodes : List NodeInfo) (bits : StateBits) → length (states_from k nodes bits) ≡ length nodes
states-long k [] bits = refl
states-long k (n ∷ nodes) bits = ap suc (states-long (suc k) nodes bits)

pub states-numbers : (k : ℕ) (nodes : List NodeInfo) (bits : StateBits) → numbers_in (states_from k nodes bits) ≡ map (λ n. n.number) nodes
states-numbers k [] bits = refl
states-numbers k (n ∷ nodes) bits = ap (λ (ns : List NodeNo). n.number ∷ ns) (states-numbers (suc k) nodes bits)

there_from : (k : ℕ) (nodes : List NodeInfo) (bits : StateBits) (p q : ℕ) (x : NodeState) (d : NodeInfo) → p < length nodes → q ≡ k + p
    → get_or (states_from k nodes bits) p x ≡ state_of (get_or nodes p d) bits q
there_from k [] bits p q x d within at = absurd (omega (arith, within))
there_from k (n ∷ nodes) bits zero q x d within at = let same : q ≡ k = omega (arith, at) in rw same refl
there_from k (n ∷ nodes) bits (suc p) q x d within at = there_from (suc k) nodes bits p q x d (omega (arith, within)) (omega (arith, at))

-- the states of other bits are those that each node is given
mapped_from : (f : NodeState → NodeState) (bits bits' : StateBits) (k : ℕ) (nodes : List NodeInfo)
    → ((p q : ℕ) (d : NodeInfo) → p < length nodes → q ≡ k + p → state_of (get_or nodes p d) bits' q ≡ f (state_of (get_or nodes p d) bits q))
    → states_from k nodes bits' ≡ map f (states_from k nodes bits)
mapped_from f bits bits' k [] each = refl
mapped_from f bits bits' k (n ∷ nodes) each =
    ap₂ (λ (x : NodeState) (xs : List NodeState). x ∷ xs) (each 0 k n (omega arith) (omega arith))
    (mapped_from f bits bits' (suc k) nodes (λ p q d within at. each (suc p) q d (omega (arith, within)) (omega (arith, at))))

-- the bits are changed where the node passes the test, and only there
abbrev Turned : List NodeInfo → (NodeInfo → Bool) → Bool → List Bool → List Bool → Type 0
Turned nodes test b before after = (p : ℕ) (d : NodeInfo) → p < length nodes → get_or after p false ≡ cond (test (get_or nodes p d)) b (get_or before p false)

pub state-there : (nodes : List NodeInfo) (bits : StateBits) (p : ℕ) (x : NodeState) (d : NodeInfo) → p < length nodes → get_or (states_from 0 nodes bits) p x ≡ state_of (get_or nodes p d) bits p
state-there nodes bits p x d within = there_from 0 nodes bits p p x d within (omega arith)

-- the mode and whether it is down set, where a test is passed
state-by : (t : Bool) (mode : Mode) (b gone draining down upgrading : Bool) (n : NodeInfo)
    → state_by n (cond t (is_gone mode) gone) (cond t (is_draining mode) draining) (cond t b down) upgrading
    ≡ (if t then record (state_by n gone draining down upgrading) { mode = mode; is_down = b } else state_by n gone draining down upgrading)
state-by true Active b gone draining down upgrading n = refl
state-by true Draining b gone draining down upgrading n = refl
state-by true Gone b gone draining down upgrading n = refl
state-by false mode b gone draining down upgrading n = refl

upgrading-by : (t b gone draining down upgrading : Bool) (n : NodeInfo)
    → state_by n gone draining down (cond t b upgrading) ≡ (if t then record (state_by n gone draining down upgrading) { is_upgrading = b } else state_by n gone draining down upgrading)
upgrading-by true b gone draining down upgrading n = refl
upgrading-by false b gone draining down upgrading n = refl

module _ (nodes : List NodeInfo) (bits : StateBits) where
  pub state-turned : (number : NodeNo) (mode : Mode) (b : Bool) (gone draining down : List Bool) → Turned nodes (λ k. same_node number k.number) (is_gone mode) bits.gone gone
      → Turned nodes (λ k. same_node number k.number) (is_draining mode) bits.draining draining → Turned nodes (λ k. same_node number k.number) b bits.down down
      → states_from 0 nodes (record bits { gone = gone; draining = draining; down = down }) ≡ with_state (states_from 0 nodes bits) number mode b
  state-turned number mode b gone draining down left drains falls =
      mapped_from (λ x. if same_node number x.node.number then record x { mode = mode; is_down = b } else x) bits (record bits { gone = gone; draining = draining; down = down }) 0 nodes (λ p q d within at.
      let same : q ≡ p = omega (arith, at) in
      let n = get_or nodes p d in
      rw same (
      ap (λ (x : Bool). state_by n x (get_or draining p false) (get_or down p false) (get_or bits.upgrading p false)) (left p d within)
      ∙ (ap₂ (λ (x y : Bool). state_by n (cond (same_node number n.number) (is_gone mode) (get_or bits.gone p false)) x y (get_or bits.upgrading p false)) (drains p d within) (falls p d within)
      ∙ state-by (same_node number n.number) mode b (get_or bits.gone p false) (get_or bits.draining p false) (get_or bits.down p false) (get_or bits.upgrading p false) n)
      ))

  pub upgrading-turned : (u : UpgradeNo) (b : Bool) (upgrading : List Bool) → Turned nodes (λ k. same_upgrade k.upgrade u) b bits.upgrading upgrading
      → states_from 0 nodes (record bits { upgrading = upgrading }) ≡ with_upgrading_in (states_from 0 nodes bits) u b
  upgrading-turned u b upgrading turned =
      mapped_from (λ x. if same_upgrade x.node.upgrade u then record x { is_upgrading = b } else x) bits (record bits { upgrading = upgrading }) 0 nodes (λ p q d within at.
      let same : q ≡ p = omega (arith, at) in
      let n = get_or nodes p d in
      rw same (
      ap (λ (x : Bool). state_by n (get_or bits.gone p false) (get_or bits.draining p false) (get_or bits.down p false) x) (turned p d within)
      ∙ upgrading-by (same_upgrade n.upgrade u) b (get_or bits.gone p false) (get_or bits.draining p false) (get_or bits.down p false) (get_or bits.upgrading p false) n
      ))

-- ---- what the bits say

pub said-offline : (gone draining down upgrading : Bool) (n : NodeInfo) → is_node_offline (state_by n gone draining down upgrading) ≡ (gone || (down || upgrading))
said-offline true draining down upgrading n = refl
said-offline false true true upgrading n = refl
said-offline false true false true n = refl
said-offline false true false false n = refl
said-offline false false true upgrading n = refl
said-offline false false false true n = refl
said-offline false false false false n = refl

pub said-draining : (gone draining : Bool) → (gone && draining) ≡ false → is_draining (mode_by gone draining) ≡ draining
said-draining true draining one = sym one
said-draining false true one = refl
said-draining false false one = refl

-- ---- what is seen of the kept nodes

module _ (nodes : List NodeInfo) (bits : StateBits) (t : List NodeState) (view : ◌≡◌ {A = List NodeState} (states_from 0 nodes bits) t) where
  pub seen-long : length t ≡ length nodes
  seen-long = sym (ap length view) ∙ states-long 0 nodes bits

  pub seen-numbers : numbers_in t ≡ map (λ n. n.number) nodes
  seen-numbers = sym (ap numbers_in view) ∙ states-numbers 0 nodes bits

  pub seen-at : (p : ℕ) (x : NodeState) (d : NodeInfo) → p < length nodes → state_of (get_or nodes p d) bits p ≡ get_or t p x
  seen-at p x d within = sym (state-there nodes bits p x d within) ∙ ap (λ (xs : List NodeState). get_or xs p x) view

  module _ (n : NodeNo) (p : ℕ) (place : place_in (numbers_in t) n ≡ Some p) where
    pub place-within : p < length nodes
    place-within =
        let at = subst (λ (o : Option ℕ). IsPlaceOf t n o) place (place-found t n) in
        let long = seen-long in
        omega (arith, at.1, long)

    pub seen-state : (d : NodeInfo) → state_at t n ≡ Some (state_of (get_or nodes p d) bits p)
    seen-state d =
        let at = subst (λ (o : Option ℕ). IsPlaceOf t n o) place (place-found t n) in
        state-found t n p no_state at ∙ ap (λ (x : NodeState). Some x) (sym (seen-at p no_state d place-within))

    -- the node there has the number
    pub own-number : n.value ≡ (get_or nodes p no_state.node).number.value
    own-number = state_at-number t n _ (seen-state no_state.node)

  -- ---- the positions of the nodes that say so

  module _ (says : NodeState → Bool) (set : List Bool) (are : ArePositions nodes set)
      (each : (p : ℕ) (x : NodeState) → p < length nodes → says (get_or t p x) ≡ get_or set p false) where
    seen-bit : (p : ℕ) → get_or (map says t) p false ≡ get_or set p false
    seen-bit p =
        let long = seen-long in
        elim (cases_lt p (length nodes)) [
          | inl within ↦ get_or-map says t p no_state false (omega (arith, within, long)) ∙ each p no_state within
          | inr past ↦
              let count : length (map says t) ≡ length t = length-map t says in
              get_or_past (map says t) p false (omega (arith, past, count, long)) ∙ sym (are.past p past)
        ]

    bits-found : (from : ℕ) (o : Option ℕ) → FindsFrom set from o → FindsFrom (map says t) from o
    bits-found from None none = λ j later. seen-bit j ∙ none j later
    bits-found from (Some k) is =
        let long = seen-long in
        let count : length (map says t) ≡ length t = length-map t says in
        record {
          within = elim (cases_lt k (length nodes)) [
            | inl within ↦ omega (arith, within, long, count)
            | inr past ↦ absurd (let clash : false ≡ true = sym (are.past k past) ∙ is.has in cc)
          ];
          has = seen-bit k ∙ is.has;
          later = is.later;
          first = λ j later before. seen-bit j ∙ is.first j later before;
        }

    bits-none : (((k : ℕ) → get_or set k false ≡ false) → All (λ x. says x ≡ false) t) × (All (λ x. says x ≡ false) t → (k : ℕ) → get_or set k false ≡ false)
    bits-none = (
      λ none i x inside. each i x (let long = seen-long in omega (arith, long, inside)) ∙ none i,
      λ all k. elim (cases_lt k (length nodes)) [
        | inl within ↦ sym (each k no_state within) ∙ all k no_state (let long = seen-long in omega (arith, long, within))
        | inr past ↦ are.past k past
      ],
    )

  module _ (states : AreStates nodes bits) where
    pub drain-bit : (p : ℕ) (x : NodeState) → p < length nodes → is_node_draining (get_or t p x) ≡ get_or bits.draining p false
    drain-bit p x within = ap is_node_draining (sym (seen-at p x x.node within)) ∙ said-draining (get_or bits.gone p false) (get_or bits.draining p false) (states.one_mode p)

    pub seen-draining : (((k : ℕ) → get_or bits.draining k false ≡ false) → All (λ x. is_node_draining x ≡ false) t) × (All (λ x. is_node_draining x ≡ false) t → (k : ℕ) → get_or bits.draining k false ≡ false)
    seen-draining = bits-none is_node_draining bits.draining states.draining drain-bit

  module _ (off : List Bool) (are : ArePositions nodes off) (derived : AreOffline bits off) where
    pub offline-bit : (p : ℕ) (x : NodeState) → p < length nodes → is_node_offline (get_or t p x) ≡ get_or off p false
    offline-bit p x within =
        ap is_node_offline (sym (seen-at p x x.node within))
        ∙ (said-offline (get_or bits.gone p false) (get_or bits.draining p false) (get_or bits.down p false) (get_or bits.upgrading p false) (get_or nodes p x.node)
        ∙ sym (derived p))

    pub seen-found : (from : ℕ) (o : Option ℕ) → FindsFrom off from o → FindsFrom (map is_node_offline t) from o
    seen-found = bits-found is_node_offline off are offline-bit

    pub seen-offline : (((k : ℕ) → get_or off k false ≡ false) → All (λ x. is_node_offline x ≡ false) t) × (All (λ x. is_node_offline x ≡ false) t → (k : ℕ) → get_or off k false ≡ false)
    seen-offline = bits-none is_node_offline off are offline-bit

-- no node has a number without a position
pub unseen-state : (t : List NodeState) (n : NodeNo) → place_in (numbers_in t) n ≡ None → state_at t n ≡ None
unseen-state t n place = state_at-past t n (subst (λ (o : Option ℕ). IsPlaceOf t n o) place (place-found t n))

-- a node that exists has a position
pub some-place : (t : List NodeState) (n : NodeNo) → IsSome (state_at t n) → IsSome (place_in (numbers_in t) n)
some-place t n there = by (place_in (numbers_in t) n) refl where
  by : (o : Option ℕ) → place_in (numbers_in t) n ≡ o → IsSome o
  by (Some p) e = refl
  by None e = absurd (let clash : false ≡ true = sym (ap (λ (x : Option NodeState). is_some x) (unseen-state t n e)) ∙ there in cc)

-- ---- bits set

-- the bit of one node set
pub marked-one : (nodes : List NodeInfo) (numbers : List NodeNo) → numbers ≡ map (λ n. n.number) nodes → AllPairs (λ (m n : NodeNo). m.value ≢ n.value) numbers
    → (n : NodeNo) (p : ℕ) → p < length nodes → n.value ≡ (get_or nodes p no_state.node).number.value → (bits new : List Bool) (b : Bool) → length bits ≡ 512 → length nodes ≤ 512
    → new ≡ set bits p b → Turned nodes (λ k. same_node n k.number) b bits new
marked-one nodes numbers are apart n p within own bits new b long few is q d inside =
    let count : length numbers ≡ length nodes = ap length are ∙ length-map nodes (λ (k : NodeInfo). k.number) in
    let number : (i : ℕ) (e : NodeInfo) → i < length nodes → (get_or numbers i e.number).value ≡ (get_or nodes i e).number.value =
    λ i e low. ap (λ (ns : List NodeNo). (get_or ns i e.number).value) are ∙ ap (λ (k : NodeNo). k.value) (get_or-map (λ (k : NodeInfo). k.number) nodes i e e.number low) in
    rw is (elim (cases_eq q p) [
      | inl same ↦
          let here : n.value ≡ (get_or nodes q d).number.value = own ∙ ap (λ (k : NodeInfo). k.number.value) (sym (ap (λ (i : ℕ). get_or nodes i d) same ∙ get_or_default nodes p d no_state.node within)) in
          rw (eq-eqb _ _ here, same) (get_or-set_same bits p b false (omega (arith, within, long, few)))
      | inr other ↦
          let differ : n.value ≢ (get_or nodes q d).number.value = λ e.
          let both : (get_or numbers p d.number).value ≡ (get_or numbers q d.number).value =
          number p d within ∙ (ap (λ (k : NodeInfo). k.number.value) (get_or_default nodes p d no_state.node within) ∙ (sym own ∙ (e ∙ sym (number q d inside)))) in
          elim (cases_lt p q) [
            | inl less ↦ absurd (apart p q d.number less (omega (arith, inside, count)) both)
            | inr more ↦ absurd (apart q p d.number (omega (arith, more, other)) (omega (arith, within, count)) (sym both))
          ] in
          rw (ne_eqb _ _ differ) (get_or-set_other bits p q b false other)
    ])

pub marked-positions : (nodes : List NodeInfo) (bits new : List Bool) (p : ℕ) (b : Bool) → p < length nodes → new ≡ set bits p b → ArePositions nodes bits → ArePositions nodes new
marked-positions nodes bits new p b within is are = record {
  long = ap length is ∙ (length-set bits p b ∙ are.long);
  past = λ q above. ap (λ (bs : List Bool). get_or bs q false) is ∙ (get_or-set_other bits p q b false (λ e. omega (arith, e, above, within)) ∙ are.past q above);
}

-- the bit of the node with a number set
module _ (nodes : List NodeInfo) (bits : StateBits) (t : List NodeState) (view : ◌≡◌ {A = List NodeState} (states_from 0 nodes bits) t)
    (n : NodeNo) (p : ℕ) (place : place_in (numbers_in t) n ≡ Some p) where
  pub place-low : (set : List Bool) → ArePositions nodes set → length nodes ≤ 512 → p < length set
  place-low set are few = let within = place-within nodes bits t view n p place in let long = are.long in omega (arith, within, long, few)

  module _ (numbers : List NodeNo) (off : List Bool) (domains : List (List Bool)) (up : List Bool) (kept : AreKept nodes numbers bits off domains up) where
    pub marked : (before after : List Bool) (b : Bool) → ArePositions nodes before → after ≡ set before p b → Turned nodes (λ k. same_node n k.number) b before after
    marked before after b are is =
        let within = place-within nodes bits t view n p place in
        marked-one nodes numbers kept.found kept.apart n p within (own-number nodes bits t view n p place) before after b are.long kept.few is

    -- the bits that follow a new state of the node
    pub kept-state : (mode : Mode) (b : Bool) (gone draining down off' : List Bool) → gone ≡ set bits.gone p (is_gone mode) → draining ≡ set bits.draining p (is_draining mode) → down ≡ set bits.down p b
        → off' ≡ set off p (is_gone mode || (b || get_or bits.upgrading p false)) → (up' : List Bool) → AreUp (states_from 0 nodes (record bits { gone = gone; draining = draining; down = down })) up'
        → AreKept nodes numbers (record bits { gone = gone; draining = draining; down = down }) off' domains up'
    kept-state mode b gone draining down off' left drains falls leaves up' flagged =
        let within = place-within nodes bits t view n p place in
        let low : (set : List Bool) → ArePositions nodes set → p < length set = λ set are. place-low set are kept.few in
        let old = kept.states in
        let new : StateBits = record bits { gone = gone; draining = draining; down = down } in
        record {
          found = kept.found;
          apart = kept.apart;
          few = kept.few;
          states = record {
            gone = marked-positions nodes bits.gone gone p (is_gone mode) within left old.gone;
            draining = marked-positions nodes bits.draining draining p (is_draining mode) within drains old.draining;
            down = marked-positions nodes bits.down down p b within falls old.down;
            upgrading = old.upgrading;
            one_mode = λ q. rw (left, drains) (elim (cases_eq q p) [
              | inl same ↦ rw (same, get_or-set_same bits.gone p (is_gone mode) false (low bits.gone old.gone), get_or-set_same bits.draining p (is_draining mode) false (low bits.draining old.draining)) (one-mode mode)
              | inr other ↦ rw (get_or-set_other bits.gone p q (is_gone mode) false other, get_or-set_other bits.draining p q (is_draining mode) false other) (old.one_mode q)
            ]);
          };
          off = marked-positions nodes off off' p (is_gone mode || (b || get_or bits.upgrading p false)) within leaves kept.off;
          derived = λ q. rw (left, falls, leaves) (elim (cases_eq q p) [
            | inl same ↦
                rw (same, get_or-set_same bits.gone p (is_gone mode) false (low bits.gone old.gone), get_or-set_same bits.down p b false (low bits.down old.down))
                (get_or-set_same off p (is_gone mode || (b || get_or bits.upgrading p false)) false (low off kept.off))
            | inr other ↦
                rw (get_or-set_other bits.gone p q (is_gone mode) false other, get_or-set_other bits.down p q b false other)
                (get_or-set_other off p q (is_gone mode || (b || get_or bits.upgrading p false)) false other ∙ kept.derived q)
          ]);
          grouped = kept.grouped;
          flagged = flagged;
        } where
          one-mode : (mode : Mode) → (is_gone mode && is_draining mode) ≡ false
          one-mode Active = refl
          one-mode Draining = refl
          one-mode Gone = refl

-- the bits of an upgrade domain set
module _ (nodes : List NodeInfo) (domains : List (List Bool)) (are : AreDomains nodes (length nodes) domains) (u : UpgradeNo) (low : u.value < 256) (places : List Bool) (is : places ≡ get_or domains u.value []) where
  place-bit : (p : ℕ) (d : NodeInfo) → get_or places p false ≡ (nat_lt p (length nodes) && same_upgrade (get_or nodes p d).upgrade u)
  place-bit p d = ap (λ (bits : List Bool). get_or bits p false) is ∙ are.each u.value p d low

  module _ (off new : List Bool) (b : Bool) (turned : (k : ℕ) → get_or new k false ≡ cond (get_or places k false) b (get_or off k false)) where
    pub turned-in : Turned nodes (λ k. same_upgrade k.upgrade u) b off new
    turned-in p d within =
        turned p ∙ ap (λ x. cond x b (get_or off p false)) (place-bit p d ∙ ap (λ x. x && same_upgrade (get_or nodes p d).upgrade u) (lt-ltb _ _ within))

    turned-positions : length new ≡ length off → ArePositions nodes off → ArePositions nodes new
    turned-positions long positions = record {
      long = long ∙ positions.long;
      past = λ p above.
          turned p ∙ (ap (λ x. cond x b (get_or off p false))
          (place-bit p no_state.node ∙ ap (λ x. x && same_upgrade (get_or nodes p no_state.node).upgrade u) (le-ltb _ _ above)) ∙ positions.past p above);
    }

  -- the bits that follow a change of the upgrading domain; the gone and the down nodes are put back among the offline ones
  pub kept-upgrading : (bits : StateBits) (off : List Bool) (numbers : List NodeNo) (up : List Bool) → AreKept nodes numbers bits off domains up → (b : Bool) (upgrading marked_off with_gone with_down : List Bool)
      → length upgrading ≡ length bits.upgrading → ((k : ℕ) → get_or upgrading k false ≡ cond (get_or places k false) b (get_or bits.upgrading k false))
      → length marked_off ≡ length off → ((k : ℕ) → get_or marked_off k false ≡ cond (get_or places k false) b (get_or off k false))
      → length with_gone ≡ length marked_off → ((k : ℕ) → get_or with_gone k false ≡ (get_or marked_off k false || get_or bits.gone k false))
      → length with_down ≡ length with_gone → ((k : ℕ) → get_or with_down k false ≡ (get_or with_gone k false || get_or bits.down k false))
      → AreUp (states_from 0 nodes (record bits { upgrading = upgrading })) up → AreKept nodes numbers (record bits { upgrading = upgrading }) with_down domains up
  kept-upgrading bits off numbers up kept b upgrading marked_off with_gone with_down long turned long_off turned_off long_gone more_gone long_down more_down flagged =
      let new = turned-positions bits.upgrading upgrading b turned long kept.states.upgrading in
      let derived : AreOffline (record bits { upgrading = upgrading }) with_down = λ k.
      more_down k ∙ (ap (λ x. x || get_or bits.down k false) (more_gone k ∙ ap (λ x. x || get_or bits.gone k false) (turned_off k ∙ ap (cond (get_or places k false) b) (kept.derived k)))
      ∙ (put-back (get_or places k false) b (get_or bits.gone k false) (get_or bits.down k false) (get_or bits.upgrading k false)
      ∙ ap (λ x. get_or bits.gone k false || (get_or bits.down k false || x)) (sym (turned k)))) in
      record {
        found = kept.found;
        apart = kept.apart;
        few = kept.few;
        states = record { gone = kept.states.gone; draining = kept.states.draining; down = kept.states.down; upgrading = new; one_mode = kept.states.one_mode };
        off = record {
          long = long_down ∙ (long_gone ∙ (long_off ∙ kept.off.long));
          past = λ k above. derived k ∙ rw (kept.states.gone.past k above, kept.states.down.past k above, new.past k above) refl;
        };
        derived = derived;
        grouped = kept.grouped;
        flagged = flagged;
      } where
        put-back : (among b gone down upgrading : Bool) → ((cond among b (gone || (down || upgrading)) || gone) || down) ≡ (gone || (down || cond among b upgrading))
        put-back true true true down upgrading = refl
        put-back true true false true upgrading = refl
        put-back true true false false upgrading = refl
        put-back true false true down upgrading = refl
        put-back true false false true upgrading = refl
        put-back true false false false upgrading = refl
        put-back false b true true upgrading = refl
        put-back false b true false upgrading = refl
        put-back false b false true upgrading = refl
        put-back false b false false true = refl
        put-back false b false false false = refl

pub put-in : (x y b : Bool) → b ≡ true → (x || y) ≡ cond y b x
put-in true true b is = sym is
put-in false true b is = sym is
put-in true false b is = refl
put-in false false b is = refl

pub put-out : (x y b : Bool) → b ≡ false → (x && not y) ≡ cond y b x
put-out true true b is = sym is
put-out false true b is = sym is
put-out true false b is = refl
put-out false false b is = refl
