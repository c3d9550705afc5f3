-- Modes by their tests, and what holds for a node after a command on it.
use Rattle.std.proofs.Common.{◌≡◌, ◌≢◌, ◌||◌, Bool, true, false, not, if◌then◌else◌, List, refl, sym, ap, ◌∙◌}
use Rattle.std.specs.List.{All}
use Rattle.std.proofs.lemmas.Bool.{eq-eqb, eqb-false}
use Rattle.std.proofs.lemmas.List.Elements.{All-weaker}
use Rattle.lrc_code.specs.declared.numbers.NodeNo.{NodeNo}
use Rattle.lrc_code.specs.Numbers.{same_node}
use Rattle.lrc_topology.specs.declared.NodeInfo.{NodeInfo}
use Rattle.lrc_topology.specs.declared.seat.Seat.{Seat}
use Rattle.lrc_terms.specs.declared.mode.Mode.{Mode}
use Rattle.lrc_terms.specs.declared.mode.Mode.TheVariants.{Active, Draining, Gone}
use Rattle.lrc_terms.specs.Modes.{is_active, is_gone}
use Rattle.lrc_rules.specs.States.{State, has_number, without_number, mode_of, is_down, taken_seats}
use Rattle.lrc_rules.specs.Steps.{emptied, with_gone, without_draining, without_gone}
use Rattle.lrc_rules.proofs.RetiredLemmas.{gone-now}
use Rattle.lrc_rules.proofs.SeatedLemmas.{emptied-apart}
use Rattle.lrc_rules.proofs.ModeListLemmas.{left}

-- ---- modes and their tests

pub gone-mode : (m : Mode) → is_gone m ≡ true → m ≡ Gone
gone-mode Gone e = refl
gone-mode Active e = absurd (cc)
gone-mode Draining e = absurd (cc)

pub mode-gone : (m : Mode) → m ≡ Gone → is_gone m ≡ true
mode-gone Gone e = refl
mode-gone Active e = absurd (cc)
mode-gone Draining e = absurd (cc)

pub active-mode : (m : Mode) → is_active m ≡ true → m ≡ Active
active-mode Active e = refl
active-mode Gone e = absurd (cc)
active-mode Draining e = absurd (cc)

-- a failed test, and a proposition that the test decides
pub fails-not : (b : Bool) (X : Type 0) → (X → b ≡ true) → b ≡ false → ¬ X
fails-not b X hit miss x = (let both : true ≡ false = sym (hit x) ∙ miss in cc)

pub not-fails : (b : Bool) (X : Type 0) → (b ≡ true → X) → ¬ X → b ≡ false
not-fails true X hit other = absurd (other (hit refl))
not-fails false X hit other = refl

pub flips-false : (b : Bool) → not b ≡ false → b ≡ true
flips-false true e = refl
flips-false false e = absurd (cc)

pub flips-true : (b : Bool) → not b ≡ true → b ≡ false
flips-true false e = refl
flips-true true e = absurd (cc)

pub none-is : (a b : Bool) → (a || b) ≡ false → (a ≡ false) × (b ≡ false)
none-is false b e = (refl, e)
none-is true b e = absurd (cc)

pub is-none : (a b : Bool) → a ≡ false → b ≡ false → (a || b) ≡ false
is-none false b x y = y
is-none true b x y = absurd (cc)

-- ---- what holds for the node after it

-- the mode, by the two tests
abbrev mode_by : Bool → Bool → Mode
mode_by gone draining = if gone then Gone else (if draining then Draining else Active)

pub active-there : (gone draining : Bool) → mode_by gone draining ≡ Active → gone ≡ false
active-there false draining e = refl
active-there true draining e = absurd (cc)

draining-there : (gone draining : Bool) → mode_by gone draining ≡ Draining → gone ≡ false
draining-there false draining e = refl
draining-there true draining e = absurd (cc)

pub gone-there : (gone draining : Bool) → mode_by gone draining ≡ Gone → gone ≡ true
gone-there true draining e = refl
gone-there false true e = absurd (cc)
gone-there false false e = absurd (cc)

module _ (st : State) (n : NodeNo) where
  pub left-here : (numbers : List NodeNo) → has_number (without_number numbers n) n ≡ false
  left-here numbers = left numbers n n true (eq-eqb n.value n.value refl)

  -- the node is out of the store, and has no held seat
  pub record IsEmptied (next : State) : Type 0 where
    pub gone : mode_of next n ≡ Gone
    pub up : is_down next n ≡ false
    pub none : All (λ (seat : Seat). seat.node ≢ n) (taken_seats next)

  pub failed-here : (nodes : List NodeInfo) → IsEmptied (with_gone (emptied st n) n)
  failed-here nodes = record {
    gone = gone-now nodes (emptied st n) n;
    up = left-here st.down;
    none =
        All-weaker (λ (seat : Seat). same_node n seat.node ≡ false) (λ (seat : Seat). seat.node ≢ n)
        (λ seat miss same. eqb-false n.value seat.node.value miss (ap (λ (m : NodeNo). m.value) (sym same))) (taken_seats (emptied st n))
        (emptied-apart nodes st n);
  }

  pub undrained-here : mode_of st n ≡ Draining → mode_of (without_draining st n) n ≡ Active
  undrained-here draining = rw (draining-there (has_number st.gone n) (has_number st.draining n) draining, left-here st.draining) refl

  pub joined-here : has_number st.draining n ≡ false → mode_of (without_gone st n) n ≡ Active
  joined-here none = rw (left-here st.gone, none) refl
