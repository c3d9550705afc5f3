-- The first ordinal, by load and then by ordinal, is that of the row that is chosen.
use Rattle.std.proofs.Common.{◌≡◌, ◌≢◌, ℕ, zero, suc, ◌<◌, ◌≤◌, ◌⊎◌, ◌↔◌, cond, set, Bool, true, false, not, ◌&&◌, ◌||◌, eqb, ltb, List, [], ◌∷◌, length, get_or, map, filter, Some, None, is_some, arith, refl, sym, ap, ◌∙◌, inl, inr}
use Rattle.std.proofs.lemmas.Bool.{cases_Bool, cases_eq, cases_lt, and_parts, and_from, not-true, not_from_false, eq-eqb, ne_eqb, eqb-true}
use Rattle.std.proofs.lemmas.Bool.Decides.{nat_tests}
use Rattle.std.proofs.lemmas.Option.{same_Some}
use Rattle.std.proofs.Math.ListN.{length-set}
use Rattle.std.proofs.Math.Seq.{map-set_same}
use Rattle.std.proofs.lemmas.List.{get_or_default, get_or-set_same, get_or-set_other}
use Rattle.std.proofs.lemmas.List.Elements.{All-from_recursion, recursion_from_All, All-contains}
use Rattle.std.specs.Cmp.{IsStrictWeakOrder}
use Rattle.std.specs.List.{All, AllByRecursion, Contains}
use Rattle.lrc_code.specs.declared.numbers.NodeNo.{NodeNo}
use Rattle.lrc_topology.specs.declared.NodeInfo.{NodeInfo}
use Rattle.lrc_code.specs.Order.{least, HasNoTies}
use Rattle.lrc_code.proofs.OrderLemmas.{all_kept, least-none, least-only}
use Rattle.lrc_topology.specs.Nodes.{AreNodes}
use Rattle.lrc_slots.specs.Slots.{least_free, taken_count}
use Rattle.lrc_slots.specs.Barred.{Barred}
use Rattle.lrc_slots.specs.Tables.{Row, Table, Bars, barred, row_at}
use Rattle.lrc_slots.specs.Rows.{alone, row_load, is_open, precedes}
use Rattle.lrc_slots.specs.Indexes.{listed, is_listed, is_in_fault, is_in_upgrade, ordinals_of, AreOrdinals, AreIndexed, Shows, IsJoined, IsLeastOutside}
use Rattle.lrc_slots.proofs.MarkLemmas.{or-true}
use Rattle.lrc_slots.proofs.LeastLemmas.{filter-none}
use Rattle.lrc_code.proofs.NumbersLemmas.{equal_nodes}
use Rattle.lrc_slots.proofs.ChoiceLemmas.{rows-found}
use Rattle.lrc_topology.proofs.SeatLemmas.{lighter-order}

-- load and number order the rows
precedes-order : IsStrictWeakOrder precedes
precedes-order = lighter-order (λ r. taken_count (alone r) r.node) (λ r. r.node.number)

-- an element that passes is in the filtered list
contains-filter : {X : Type 0} (test : X → Bool) (xs : List X) (k : ℕ) (d : X) → k < length xs → test (get_or xs k d) ≡ true
    → Contains (filter test xs) (get_or xs k d)
contains-filter test [] k d within hit = absurd (omega (arith, within))
contains-filter test (x ∷ xs) zero d within hit = rw hit (0, omega arith, refl)
contains-filter test (x ∷ xs) (suc k) d within hit =
    let rest = contains-filter test xs k d (omega (arith, within)) hit in
    elim (cases_Bool (test x)) [
      | inl kept ↦ rw kept (suc rest.0, omega (arith, rest.1), rest.2)
      | inr lost ↦ rw lost rest
    ]

-- what holds for each element that passes holds for the filtered list
pub all-left : {X : Type 0} (test : X → Bool) (P : X → Type 0) (xs : List X) → AllByRecursion (λ x. test x ≡ true → P x) xs
    → AllByRecursion P (filter test xs)
all-left test P [] all = tt
all-left test P (x ∷ xs) all = elim (cases_Bool (test x)) [
  | inl hit ↦ rw hit (all.0 hit, all-left test P xs all.1)
  | inr miss ↦ rw miss (all-left test P xs all.1)
]

-- if two keys tie, the numbers are equal
same_keys : (a m b n : ℕ) → (ltb a b || (eqb a b && ltb m n)) ≡ false → (ltb b a || (eqb b a && ltb n m)) ≡ false → m ≡ n
same_keys a m b n h k = grind (arith, nat_tests)

-- a later key does not come before an earlier one
later_key : (a m b n : ℕ) → (a < b) ⊎ ((a ≡ b) × (m ≤ n)) → (ltb b a || (eqb b a && ltb n m)) ≡ false
later_key a m b n (inl less) = grind (arith, nat_tests)
later_key a m b n (inr same) = let e = same.0 in let f = same.1 in grind (arith, nat_tests)

module _ (rows : Table) (known : AreNodes (map (λ r. r.node) rows)) where
  -- no two rows tie
  no_ties : (test : Row → Bool) → HasNoTies precedes (filter test rows)
  no_ties test a b in_a in_b one other =
      let found = all_kept (λ r. row_at rows r.node.number ≡ Some r) test rows (rows-found rows known) in
      let at_a : row_at rows a.node.number ≡ Some a = All-contains (λ r. row_at rows r.node.number ≡ Some r) (filter test rows) a
      (All-from_recursion (λ r. row_at rows r.node.number ≡ Some r) (filter test rows) found) in_a in
      let at_b : row_at rows b.node.number ≡ Some b = All-contains (λ r. row_at rows r.node.number ≡ Some r) (filter test rows) b
      (All-from_recursion (λ r. row_at rows r.node.number ≡ Some r) (filter test rows) found) in_b in
      let number = same_keys (taken_count (alone a) a.node) a.node.number.value (taken_count (alone b) b.node) b.node.number.value one other in
      same_Some a b (sym at_a ∙ (ap (row_at rows) (equal_nodes a.node.number b.node.number number) ∙ at_b))

  module _ {ordinals at : List ℕ} (h : AreOrdinals rows ordinals at) {loads : List (List Bool)} (s : Shows rows ordinals at is_listed loads)
      (b : Barred) (mask : ℕ → Bool)
      (m : (i : ℕ) (d : Row) → i < length rows → mask (get_or ordinals i 0)
      ≡ (b.faults (get_or rows i d).node.fault || b.upgrades (get_or rows i d).node.upgrade)) where
    -- a row that may take a seat is listed with its load, outside the mask
    open-listed : (i : ℕ) (d : Row) → i < length rows → is_open b (get_or rows i d) ≡ true
        → (listed loads (taken_count (alone (get_or rows i d)) (get_or rows i d).node) (get_or ordinals i 0) ≡ true) × (mask
        (get_or ordinals i 0) ≡ false)
    open-listed i d within hit =
        let r = get_or rows i d in
        let parts = and_parts (r.eligible && is_some (least_free (alone r) r.node)) (not (b.faults r.node.fault || b.upgrades r.node.upgrade)) hit in
        (s.shown i (taken_count (alone r) r.node) d within ∙ and_from _ _ parts.0 (eq-eqb _ _ refl), m i d within ∙ not-true _ parts.1)

    -- a row that is listed with a load, outside the mask, may take a seat and has that load
    listed-open : (i load : ℕ) (d : Row) → i < length rows → listed loads load (get_or ordinals i 0) ≡ true
        → mask (get_or ordinals i 0) ≡ false
        → (is_open b (get_or rows i d) ≡ true) × (taken_count (alone (get_or rows i d)) (get_or rows i d).node ≡ load)
    listed-open i load d within hit free =
        let r = get_or rows i d in
        let parts = and_parts (r.eligible && is_some (least_free (alone r) r.node)) (eqb (taken_count (alone r) r.node) load)
        (sym (s.shown i load d within) ∙ hit) in
        let bars : (b.faults r.node.fault || b.upgrades r.node.upgrade) ≡ false = sym (m i d within) ∙ free in
        (and_from _ _ parts.0 (not_from_false _ bars), eqb-true _ _ parts.1)

    -- ordinals have the order of node numbers
    ordered : (i load ordinal : ℕ) (d : Row) (j : ℕ) (e : Row) → i < length rows → j < length rows → get_or ordinals i 0 ≡ ordinal
        → taken_count (alone (get_or rows i d)) (get_or rows i d).node ≡ load
        → (load < taken_count (alone (get_or rows j e)) (get_or rows j e).node) ⊎
        ((load ≡ taken_count (alone (get_or rows j e)) (get_or rows j e).node) × (ordinal ≤ get_or ordinals j 0))
        → (taken_count (alone (get_or rows i d)) (get_or rows i d).node < taken_count (alone (get_or rows j e)) (get_or rows j e).node)
        ⊎ ((taken_count (alone (get_or rows i d)) (get_or rows i d).node ≡ taken_count (alone (get_or rows j e))
        (get_or rows j e).node) × ((get_or rows i d).node.number.value ≤ (get_or rows j e).node.number.value))
    ordered i load ordinal d j e in_i in_j same counted (inl less) = inl (rw counted less)
    ordered i load ordinal d j e in_i in_j same counted (inr tie) = inr (
      counted ∙ tie.0,
      elim (cases_lt (get_or rows j e).node.number.value (get_or rows i d).node.number.value) [
        | inl lower ↦ absurd (
            let turned : (get_or rows j e).node.number.value < (get_or rows i e).node.number.value = rw (get_or_default rows i e d in_i) lower in
            let rise = h.rising j i e in_j in_i turned in
            let most = tie.1 in
            omega (arith, rise, most, same))
        | inr more ↦ more
      ],
    )

    -- the row of the ordinal that is found precedes all others
    pub chosen-row : (load ordinal : ℕ) (d : Row) → IsLeastOutside loads mask load ordinal
        → least precedes (filter (is_open b) rows) ≡ Some (get_or rows (get_or at ordinal 0) d)
    chosen-row load ordinal d found =
        let i : ℕ = get_or at ordinal 0 in
        let own = s.known load ordinal found.here in
        let same : get_or ordinals i 0 ≡ ordinal = own.1 in
        let x = get_or rows i d in
        let seat = listed-open i load d own.0 (rw same found.here) (rw same found.free) in
        let after : All (λ y. is_open b y ≡ true → precedes y x ≡ false) rows = λ j e within hit.
        let y = get_or rows j e in
        let there = open-listed j e within hit in
        let order = found.first (taken_count (alone y) y.node) (get_or ordinals j 0) there.0 there.1 in
        later_key (taken_count (alone x) x.node) x.node.number.value (taken_count (alone y) y.node) y.node.number.value
        (ordered i load ordinal d j e own.0 within same seat.1 order) in
        least-only precedes precedes-order x (filter (is_open b) rows) (no_ties (is_open b)) (contains-filter (is_open b) rows i d own.0 seat.0)
        (All-from_recursion _ (filter (is_open b) rows) (all-left (is_open b) (λ y. precedes y x ≡ false) rows (recursion_from_All _ rows after)))

    -- if every listed ordinal is in the mask, no row may take a seat
    pub none-open : ((load ordinal : ℕ) → listed loads load ordinal ≡ true → mask ordinal ≡ true)
        → least precedes (filter (is_open b) rows) ≡ None
    none-open all = ap (least precedes)
        (filter-none (is_open b) rows (recursion_from_All (λ y. is_open b y ≡ false) rows
        (λ i d within. elim (cases_Bool (is_open b (get_or rows i d))) [
          | inl hit ↦ absurd (let there = open-listed i d within hit in let clash : true ≡ false = sym (all _ _ there.0) ∙ there.1 in cc)
          | inr miss ↦ miss
        ])))

    -- if an ordinal outside the mask is listed, some row may take a seat
    pub some-open : (load ordinal : ℕ) (d : Row) → listed loads load ordinal ≡ true → mask ordinal ≡ false
        → ¬ (least precedes (filter (is_open b) rows) ≡ None)
    some-open load ordinal d hit free none =
        let i : ℕ = get_or at ordinal 0 in
        let own = s.known load ordinal hit in
        let same : get_or ordinals i 0 ≡ ordinal = own.1 in
        let seat = listed-open i load d own.0 (rw same hit) (rw same free) in
        let left = contains-filter (is_open b) rows i d own.0 seat.0 in
        let empty = (least-none precedes (filter (is_open b) rows)).0 none in
        let short : length (filter (is_open b) rows) ≡ 0 = ap length empty in
        let within = left.1 in
        omega (arith, short, within)

-- ---- the mask of barred domains

-- what is not true is false
same_false : (b : Bool) → (b ≡ true → ⊥) → b ≡ false
same_false true refuted = absurd (refuted refl)
same_false false refuted = refl

module _ {rows : Table} {ordinals at : List ℕ} {faults upgrades : List (List Bool)} (f : Shows rows ordinals at is_in_fault faults)
    (u : Shows rows ordinals at is_in_upgrade upgrades) (bars : Bars) (mask : List Bool)
    (joined : (r : ℕ) → (get_or mask r false ≡ true) ↔ (IsJoined bars.faults faults r ⊎ IsJoined bars.upgrades upgrades r)) where
  -- the union has exactly the ordinals of the rows in barred domains
  pub mask-bars : (i : ℕ) (d : Row) → i < length rows
      → get_or mask (get_or ordinals i 0) false
      ≡ ((barred bars).faults (get_or rows i d).node.fault || (barred bars).upgrades (get_or rows i d).node.upgrade)
  unfolding barred
  mask-bars i d within =
      let x = get_or rows i d in
      let ordinal : ℕ = get_or ordinals i 0 in
      elim (cases_Bool (get_or mask ordinal false)) [
        | inl hit ↦ rw hit (elim ((joined ordinal).0 hit) [
          | inl by_fault ↦
              let same = eqb-true _ _ (sym (f.shown i by_fault.0 d within) ∙ by_fault.2) in
              let named : get_or bars.faults x.node.fault.value false ≡ true = rw same by_fault.1 in
              rw named refl
          | inr by_upgrade ↦
              let same = eqb-true _ _ (sym (u.shown i by_upgrade.0 d within) ∙ by_upgrade.2) in
              let named : get_or bars.upgrades x.node.upgrade.value false ≡ true = rw same by_upgrade.1 in
              rw (named, or-true (get_or bars.faults x.node.fault.value false)) refl
        ])
        | inr miss ↦
            let none_fault = same_false (get_or bars.faults x.node.fault.value false) (λ hit.
            let clash : true ≡ false = sym ((joined ordinal).1
            (inl (x.node.fault.value, hit, f.shown i x.node.fault.value d within ∙ eq-eqb _ _ refl))) ∙ miss in cc) in
            let none_upgrade = same_false (get_or bars.upgrades x.node.upgrade.value false) (λ hit.
            let clash : true ≡ false = sym ((joined ordinal).1
            (inr (x.node.upgrade.value, hit, u.shown i x.node.upgrade.value d within ∙ eq-eqb _ _ refl))) ∙ miss in cc) in
            rw (miss, none_fault, none_upgrade) refl
      ]

-- ---- replacing a row by another of the same node

module _ {rows : Table} {numbers : List NodeNo} {ordinals at counts : List ℕ} {loads faults upgrades : List (List Bool)}
    (h : AreIndexed rows numbers ordinals at counts loads faults upgrades) where
  module _ (i : ℕ) (y : Row) (d : Row) (within : i < length rows) (stays : y.node ≡ (get_or rows i d).node) where
    -- each row keeps its node
    node-kept : (j : ℕ) (e : Row) → j < length rows → (get_or (set rows i y) j e).node ≡ (get_or rows j e).node
    node-kept j e in_j = elim (cases_eq j i) [
      | inl same ↦ rw same (ap (λ (x : Row). x.node) (get_or-set_same rows i y e within)
          ∙ (stays ∙ ap (λ (x : Row). x.node) (get_or_default rows i d e within)))
      | inr other ↦ ap (λ (x : Row). x.node) (get_or-set_other rows i j y e other)
    ]

    -- the nodes stay
    nodes-kept : map (λ x. x.node) (set rows i y) ≡ map (λ x. x.node) rows
    nodes-kept = map-set_same (λ (x : Row). x.node) rows i y d stays

    -- the node numbers stay
    numbers-kept : map (λ x. x.node.number) (set rows i y) ≡ map (λ x. x.node.number) rows
    numbers-kept = map-set_same (λ (x : Row). x.node.number) rows i y d (ap (λ (n : NodeInfo). n.number) stays)

    -- sets that depend only on nodes stay
    domains-kept : (test : Row → ℕ → Bool) (sets : List (List Bool))
        → ((r s : Row) (k : ℕ) → r.node ≡ s.node → test r k ≡ test s k) → Shows rows ordinals at test sets
        → Shows (set rows i y) ordinals at test sets
    domains-kept test sets by_node s = record {
      shown = λ j k e in_j.
          let inside : j < length rows = rw length-set at in_j in
          s.shown j k e inside ∙ by_node (get_or rows j e) (get_or (set rows i y) j e) k (sym (node-kept j e inside));
      known = λ k r hit. let own = s.known k r hit in (rw (length-set rows i y) own.0, own.1);
    }

    -- the ordinals stay
    ordinals-kept : AreOrdinals (set rows i y) ordinals at
    ordinals-kept =
        let same = length-set rows i y in
        record {
          complete = h.by_ordinal.complete ∙ sym same;
          counted = h.by_ordinal.counted ∙ ap ordinals_of (sym nodes-kept);
          long = h.by_ordinal.long;
          low = λ j in_j. h.by_ordinal.low j (rw same at in_j);
          back = λ j in_j. h.by_ordinal.back j (rw same at in_j);
          rising = λ j k e in_j in_k less.
              let one : j < length rows = rw same at in_j in
              let other : k < length rows = rw same at in_k in
              let less_old : (get_or rows j e).node.number.value
              < (get_or rows k e).node.number.value = rw (← node-kept j e one, ← node-kept k e other) less in
              h.by_ordinal.rising j k e one other less_old;
        }

    -- the ordinal is listed with the new load
    loads-kept : (new : List (List Bool))
        → ((k r : ℕ) → listed new k r ≡ cond (eqb (get_or ordinals i 0) r) (is_listed y k) (listed loads k r))
        → Shows (set rows i y) ordinals at is_listed new
    loads-kept new moved = record {
      shown = λ j k e in_j.
          let inside : j < length rows = rw length-set at in_j in
          elim (cases_eq j i) [
            | inl same ↦ rw same (moved k (get_or ordinals i 0) ∙ rw (eq-eqb (get_or ordinals i 0) (get_or ordinals i 0) refl)
                (ap (λ x. is_listed x k) (sym (get_or-set_same rows i y e within))))
            | inr other ↦
                let apart : get_or ordinals i 0 ≢ get_or ordinals j 0 = λ e. other
                (sym (h.by_ordinal.back j inside) ∙ (ap (λ r. get_or at r 0) (sym e) ∙ h.by_ordinal.back i within)) in
                moved k (get_or ordinals j 0) ∙ rw (ne_eqb _ _ apart)
                (h.by_load.shown j k e inside ∙ ap (λ x. is_listed x k) (sym (get_or-set_other rows i j y e other)))
          ];
      known = λ k r hit. elim (cases_eq (get_or ordinals i 0) r) [
        | inl same ↦
            let back : get_or at r 0 ≡ i = ap (λ q. get_or at q 0) (sym same) ∙ h.by_ordinal.back i within in
            (rw (length-set rows i y, back) within, rw back same)
        | inr other ↦
            let was : listed loads k r ≡ true = sym (moved k r ∙ rw (ne_eqb _ _ other) refl) ∙ hit in
            let own = h.by_load.known k r was in
            (rw (length-set rows i y) own.0, own.1)
      ];
    }

    -- the row is replaced, and its ordinal is listed with the new load
    pub indexed-set : (anew : List ℕ) (new : List (List Bool)) → anew ≡ map row_load (set rows i y)
        → ((k r : ℕ) → listed new k r ≡ cond (eqb (get_or ordinals i 0) r) (is_listed y k) (listed loads k r))
        → AreIndexed (set rows i y) numbers ordinals at anew new faults upgrades
    indexed-set anew new counted moved = record {
      nodes = rw nodes-kept h.nodes;
      numbered = h.numbered ∙ sym numbers-kept;
      by_ordinal = ordinals-kept;
      counted = counted;
      by_load = loads-kept new moved;
      by_fault = domains-kept is_in_fault faults (λ r s k e. ap (λ (n : NodeInfo). eqb n.fault.value k) e) h.by_fault;
      by_upgrade = domains-kept is_in_upgrade upgrades (λ r s k e. ap (λ (n : NodeInfo). eqb n.upgrade.value k) e) h.by_upgrade;
    }
