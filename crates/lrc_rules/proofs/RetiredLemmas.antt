-- When a node retires, and what is left of it.
use Rattle.std.proofs.Common.{[], ◌≡◌, ◌≢◌, true, not, nat_lt, List, ◌∷◌, ◌++◌, IsSome, refl, ap, arith}
use Rattle.std.specs.List.{All}
use Rattle.std.proofs.lemmas.Bool.{eq-eqb, eqb-false, ne_eqb, ltb-false}
use Rattle.std.proofs.lemmas.List.Elements.{All-weaker, Contains-push}
use Rattle.lrc_code.specs.declared.numbers.NodeNo.{NodeNo}
use Rattle.lrc_code.specs.Numbers.{same_node}
use Rattle.lrc_code.proofs.NumbersLemmas.{equal_nodes}
use Rattle.lrc_topology.specs.declared.NodeInfo.{NodeInfo}
use Rattle.lrc_topology.specs.declared.seat.Seat.{Seat}
use Rattle.lrc_topology.specs.Nodes.{node_at}
use Rattle.lrc_topology.specs.Seats.{load_of}
use Rattle.lrc_terms.specs.declared.mode.Mode.{Mode}
use Rattle.lrc_terms.specs.declared.mode.Mode.TheVariants.{Active, Draining, Gone}
use Rattle.lrc_rules.specs.declared.node_command.NodeCommand.TheVariants.{Retire}
use Rattle.lrc_terms.specs.Modes.{is_draining}
use Rattle.lrc_rules.specs.States.{State, has_number, mode_of, taken_seats, load}
use Rattle.lrc_rules.specs.Steps.{with_gone}
use Rattle.lrc_rules.proofs.MemberLemmas.{list_any-member, count-none, none-count}
use Rattle.lrc_rules.proofs.NodeCommandLemmas.{IsAllowed}

-- ---- draining nodes, and nodes without held seats

pub draining-mode : (m : Mode) → is_draining m ≡ true → m ≡ Draining
draining-mode Draining e = refl
draining-mode Active e = absurd (cc)
draining-mode Gone e = absurd (cc)

pub mode-draining : (m : Mode) → m ≡ Draining → is_draining m ≡ true
mode-draining Draining e = refl
mode-draining Active e = absurd (cc)
mode-draining Gone e = absurd (cc)

load-none : (seats : List Seat) (n : NodeNo) → load_of seats n ≡ 0 → All (λ (seat : Seat). seat.node ≢ n) seats
load-none seats n none =
    All-weaker _ (λ (seat : Seat). seat.node ≢ n)
    (λ seat miss same. eqb-false seat.node.value n.value miss (ap (λ (m : NodeNo). m.value) same)) seats
    (count-none (λ (seat : Seat). same_node seat.node n) seats none)

none-load : (seats : List Seat) (n : NodeNo) → All (λ (seat : Seat). seat.node ≢ n) seats → load_of seats n ≡ 0
none-load seats n none =
    none-count (λ (seat : Seat). same_node seat.node n) seats
    (All-weaker (λ (seat : Seat). seat.node ≢ n) _
    (λ seat other. ne_eqb seat.node.value n.value (λ same. other (equal_nodes seat.node n same))) seats none)

module _ (nodes : List NodeInfo) (st : State) (n : NodeNo) where
  -- a node retires only without held seats
  pub retired-empty : IsAllowed nodes st Retire n → All (λ (seat : Seat). seat.node ≢ n) (taken_seats st)
  retired-empty allowed = load-none (taken_seats st) n (let low = ltb-false 0 (load st n) allowed.free in omega (arith, low))

  -- and always if it is draining
  pub empty-retired : IsSome (node_at nodes n) → mode_of st n ≡ Draining → All (λ (seat : Seat). seat.node ≢ n) (taken_seats st) → IsAllowed nodes st Retire n
  empty-retired known drains none = record {
    known = known;
    right = ap not (mode-draining (mode_of st n) drains);
    free = ap (nat_lt 0) (none-load (taken_seats st) n none);
  }

  pub gone-now : mode_of (with_gone st n) n ≡ Gone
  gone-now =
      let hit : has_number (st.gone ++ n ∷ []) n ≡ true = list_any-member (same_node n) (st.gone ++ n ∷ []) n (Contains-push st.gone n)
      (eq-eqb n.value n.value refl) in rw hit refl
