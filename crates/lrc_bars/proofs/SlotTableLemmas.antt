-- What the slot table keeps as seats are taken and given back.
use Rattle.std.proofs.Common.{◌≡◌, ◌≢◌, ◌⊎◌, ℕ, ◌<◌, Bool, true, false, not, ◌&&◌, ◌||◌, eqb, List, ◌∷◌, Option, Some, None, IsSome, refl, sym, ap, ◌∙◌, subst, inl, inr}
use Rattle.std.proofs.Math.Path.{fun_ext}
use Rattle.std.specs.List.{Contains}
use Rattle.std.specs.Option.{option_map_or}
use Rattle.std.proofs.lemmas.Bool.{cases_Bool, eqb-true, eq-eqb, and_parts, false_from_ne_true}
use Rattle.lrc_code.specs.declared.numbers.NodeNo.{NodeNo}
use Rattle.lrc_topology.specs.declared.NodeInfo.{NodeInfo}
use Rattle.lrc_topology.specs.declared.seat.Seat.{Seat}
use Rattle.lrc_topology.specs.Nodes.{AreNodes, node_at}
use Rattle.lrc_topology.specs.Seats.{load_of, is_seat, is_taken}
use Rattle.lrc_slots.specs.Slots.{with_taken, with_free, load_at, taken_count}
use Rattle.lrc_rules.specs.States.{State, taken_seats}
use Rattle.lrc_rules.specs.Goodness.{AreSeated}
use Rattle.lrc_bars.specs.Ties.{table_of}
use Rattle.lrc_rules.proofs.MemberLemmas.{Contains-here, Contains-later, Contains-cases}
use Rattle.lrc_rules.proofs.NodeLemmas.{member-node_at, member-taken, taken-member, seat_on}
use Rattle.lrc_bars.proofs.TieLemmas.{standing-slots, load-seats}
use Rattle.lrc_rules.proofs.TakenLemmas.{taken-same}

-- with one seat more taken
pub table-more : (nodes : List NodeInfo) (st : State) (a : Seat) (next : List Seat) → Contains next a → ((b : Seat) → Contains (taken_seats st) b → Contains next b)
    → ((b : Seat) → Contains next b → (a ≡ b) ⊎ Contains (taken_seats st) b) → with_taken (table_of nodes st) a.node (Some a.slot) ≡ record (table_of nodes st) { taken = is_taken next }
table-more nodes st a next own up down =
    ap (λ (t : NodeNo → ℕ → Bool). record (table_of nodes st) { taken = t }) (fun_ext (λ n. fun_ext (λ k. swap (is_taken (taken_seats st) n k) (is_seat a.node a.slot n k)))
    ∙ taken-same (a ∷ taken_seats st) next
    (λ b here. elim (Contains-cases a b (taken_seats st) here) [ inl same ↦ subst (Contains next) same own | inr more ↦ up b more ])
    (λ b here. elim (down b here) [ inl same ↦ subst (Contains (a ∷ taken_seats st)) same (Contains-here a (taken_seats st)) | inr more ↦ Contains-later a b (taken_seats st) more ]))
  where
    swap : (x y : Bool) → (x || y) ≡ (y || x)
    swap true true = refl
    swap true false = refl
    swap false true = refl
    swap false false = refl

-- with one given back
pub table-less : (nodes : List NodeInfo) (st : State) (a : Seat) (next : List Seat) → ((b : Seat) → Contains (taken_seats st) b → b ≢ a → Contains next b)
    → ((b : Seat) → Contains next b → Contains (taken_seats st) b × (b ≢ a)) → with_free (table_of nodes st) a.node a.slot ≡ record (table_of nodes st) { taken = is_taken next }
table-less nodes st a next up down =
    ap (λ (t : NodeNo → ℕ → Bool). record (table_of nodes st) { taken = t }) (fun_ext (λ n. fun_ext (λ k. at n k)))
  where
    own : (n : NodeNo) (k : ℕ) → is_seat a.node a.slot n k ≡ true → a ≡ seat_on n k
    own n k hit =
        let parts = and_parts (eqb a.node.value n.value) (eqb a.slot k) hit in
        ap (λ (v : ℕ). seat_on (record { value = v }) a.slot) (eqb-true _ _ parts.0) ∙ ap (seat_on n) (eqb-true _ _ parts.1)

    at : (n : NodeNo) (k : ℕ) → (is_taken (taken_seats st) n k && not (is_seat a.node a.slot n k)) ≡ is_taken next n k
    at n k = elim (cases_Bool (is_taken next n k)) [
      | inl hit ↦
          let m = down (seat_on n k) (taken-member next n k hit) in
          let there : is_taken (taken_seats st) n k ≡ true = member-taken (taken_seats st) n k m.0 in
          let apart : is_seat a.node a.slot n k ≡ false = false_from_ne_true _ (λ e. m.1 (sym (own n k e))) in
          rw (there, apart, hit) refl
      | inr miss ↦ elim (cases_Bool (is_taken (taken_seats st) n k)) [
        | inr free ↦ rw (free, miss) refl
        | inl there ↦ elim (cases_Bool (is_seat a.node a.slot n k)) [
          | inl same ↦ rw (there, same, miss) refl
          | inr other ↦ absurd (
              let e : seat_on n k ≢ a = λ same. (
              let hit : is_seat a.node a.slot n k ≡ true = subst (λ (b : Seat). is_seat b.node b.slot n k ≡ true) same (rw (eq-eqb n.value n.value refl, eq-eqb k k refl) refl) in
              let both : true ≡ false = sym hit ∙ other in cc) in
              let hit = member-taken next n k (up (seat_on n k) (taken-member (taken_seats st) n k there) e) in
              let both : true ≡ false = sym hit ∙ miss in cc)
        ]
      ]
    ]

-- where fewer seats are on a node, its load in the table is less
module _ (nodes : List NodeInfo) (known : AreNodes nodes) (before after : State) (good : AreSeated nodes before) (good_too : AreSeated nodes after) (n : NodeNo) where
  count : (st : State) → AreSeated nodes st → (x : NodeInfo) → node_at nodes x.number ≡ Some x → taken_count (table_of nodes st) x ≡ load_of (taken_seats st) x.number
  count st seated x found = load-seats nodes (taken_seats st) x found seated.single (standing-slots nodes st (taken_seats st) seated.standing)

  at-node : (o : Option NodeInfo) → node_at nodes n ≡ o → IsSome o → load_of (taken_seats after) n < load_of (taken_seats before) n
      → option_map_or (taken_count (table_of nodes after)) o 0 < option_map_or (taken_count (table_of nodes before)) o 0
  at-node None e some falls = absurd (let never : false ≡ true = some in cc)
  at-node (Some x) e some falls =
      let is : n ≡ x.number = (member-node_at nodes n x e).1 in
      let found : node_at nodes x.number ≡ Some x = subst (λ k. node_at nodes k ≡ Some x) is e in
      rw (count after good_too x found, count before good x found) (subst (λ k. load_of (taken_seats after) k < load_of (taken_seats before) k) is falls)

  pub load-falls : IsSome (node_at nodes n) → load_of (taken_seats after) n < load_of (taken_seats before) n → load_at (table_of nodes after) n < load_at (table_of nodes before) n
  load-falls some falls = at-node (node_at nodes n) refl some falls
