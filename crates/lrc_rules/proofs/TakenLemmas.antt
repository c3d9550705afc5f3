-- Which seats are held, as homes and targets are added and removed.
use Rattle.std.proofs.Common.{[], ◌≡◌, ◌⊎◌, ◌+◌, true, false, cond, nat_eq, eqb, List, ◌∷◌, map, refl, sym, ap, ◌∙◌, inl, inr}
use Rattle.std.proofs.Math.Path.{fun_ext}
use Rattle.std.specs.List.{Contains, count_by}
use Rattle.std.proofs.lemmas.Bool.{cases_Bool, false_from_ne_true}
use Rattle.std.proofs.lemmas.List.{map-append}
use Rattle.std.proofs.lemmas.List.Elements.{Contains-append_left, Contains-append_right, Contains-append_cases}
use Rattle.std.proofs.lemmas.List.Sums.{sum_by-append, sum_by-cons}
use Rattle.lrc_code.specs.declared.numbers.NodeNo.{NodeNo}
use Rattle.lrc_topology.specs.declared.seat.Seat.{Seat}
use Rattle.lrc_topology.specs.declared.seat.Held.{Held}
use Rattle.lrc_topology.specs.Seats.{load_of, is_taken}
use Rattle.lrc_terms.specs.declared.lease.Lease.{Lease}
use Rattle.lrc_rules.specs.States.{State, held_by, seats_of, taken_seats}
use Rattle.lrc_rules.proofs.MemberLemmas.{map-member, Contains-here, Contains-later, Contains-cases, not-Contains-nil}
use Rattle.lrc_rules.proofs.NodeLemmas.{member-taken, taken-member, seat_on}

-- ---- lists

-- a member of a mapped list comes from a member
pub member-map : {X Y : Type 0} (f : X → Y) (xs : List X) (y : Y) → Contains (map f xs) y → (x : X) × Contains xs x × (f x ≡ y)
member-map f [] y h = absurd (not-Contains-nil y h)
member-map f (x ∷ xs) y h = elim (Contains-cases (f x) y (map f xs) h) [
  | inl same ↦ (x, Contains-here x xs, same)
  | inr more ↦ let m = member-map f xs y more in (m.0, Contains-later x m.0 xs m.1, m.2)
]

-- lists with the same members take the same slots
pub taken-same : (xs ys : List Seat) → ((b : Seat) → Contains xs b → Contains ys b) → ((b : Seat) → Contains ys b → Contains xs b) → is_taken xs ≡ is_taken ys
taken-same xs ys down up = fun_ext (λ n. fun_ext (λ k. elim (cases_Bool (is_taken ys n k)) [
  | inl hit ↦ member-taken xs n k (up (seat_on n k) (taken-member ys n k hit)) ∙ sym hit
  | inr miss ↦ false_from_ne_true (is_taken xs n k) (λ hit. (
      let there = member-taken ys n k (down (seat_on n k) (taken-member xs n k hit)) in
      let both : true ≡ false = sym there ∙ miss in cc)) ∙ sym miss
]))

-- ---- the seats of a state

pub home-seat : (st : State) (h : Held) → Contains st.homes h → Contains (taken_seats st) h.seat
home-seat st h here = map-member (λ (g : Held). g.seat) (seats_of st) h (Contains-append_left st.homes (map held_by st.leases) h here)

pub target-seat : (st : State) (l : Lease) → Contains st.leases l → Contains (taken_seats st) l.target
target-seat st l here = map-member (λ (g : Held). g.seat) (seats_of st) (held_by l) (Contains-append_right st.homes (map held_by st.leases) (held_by l) (map-member held_by st.leases l here))

-- a held seat is a home or a target
pub taken-cases : (st : State) (b : Seat) → Contains (taken_seats st) b → ((h : Held) × Contains st.homes h × (h.seat ≡ b)) ⊎ ((l : Lease) × Contains st.leases l × (l.target ≡ b))
taken-cases st b here =
    let m = member-map (λ (g : Held). g.seat) (seats_of st) b here in
    elim (Contains-append_cases st.homes (map held_by st.leases) m.0 m.1) [
      | inl home ↦ inl (m.0, home, m.2)
      | inr target ↦ let t = member-map held_by st.leases m.0 target in inr (t.0, t.1, ap (λ (h : Held). h.seat) t.2 ∙ m.2)
    ]

-- ---- loads

pub count-held : (held : List Held) (n : NodeNo) → load_of (map (λ h. h.seat) held) n ≡ count_by (λ h. nat_eq h.seat.node.value n.value) held
count-held [] n = refl
count-held (h ∷ hs) n =
    rw (sum_by-cons (λ (a : Seat). cond (eqb a.node.value n.value) 1 0) h.seat (map (λ h. h.seat) hs), sum_by-cons (λ (a : Held). cond (eqb a.seat.node.value n.value) 1 0) h hs, count-held hs n) refl

pub count-targets : (ls : List Lease) (n : NodeNo) → load_of (map (λ (l : Lease). l.target) ls) n ≡ count_by (λ l. nat_eq l.target.node.value n.value) ls
count-targets [] n = refl
count-targets (l ∷ ls) n =
    rw (sum_by-cons (λ (a : Seat). cond (eqb a.node.value n.value) 1 0) l.target (map (λ (l : Lease). l.target) ls), sum_by-cons (λ (m : Lease). cond (eqb m.target.node.value n.value) 1 0) l ls, count-targets ls n) refl

-- the load of a node, as homes plus targets
pub load-parts : (st : State) (n : NodeNo) → load_of (taken_seats st) n ≡ load_of (map (λ h. h.seat) st.homes) n + load_of (map (λ (l : Lease). l.target) st.leases) n
load-parts st n =
    ap (λ (seats : List Seat). load_of seats n) (map-append (λ (h : Held). h.seat) st.homes (map held_by st.leases))
    ∙ sum_by-append (λ (a : Seat). cond (nat_eq a.node.value n.value) 1 0) (map (λ (h : Held). h.seat) st.homes) (map (λ (h : Held). h.seat) (map held_by st.leases))
    ∙ ap (λ (seats : List Seat). load_of (map (λ (h : Held). h.seat) st.homes) n + load_of seats n) (twice st.leases)
  where
    twice : (ls : List Lease) → map (λ (h : Held). h.seat) (map held_by ls) ≡ map (λ (l : Lease). l.target) ls
    twice [] = refl
    twice (l ∷ ls) = ap (λ seats. l.target ∷ seats) (twice ls)
