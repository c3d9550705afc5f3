-- The row of a listed ordinal.
use Rattle.std.proofs.Common.{◌≡◌, ℕ, ◌<◌, Bool, true, false, ◌&&◌, ◌||◌, eqb, List, length, get_or, map, filter, Option, Some, None, is_some, arith, refl, sym, ap, ◌∙◌, subst}
use Rattle.std.proofs.lemmas.Bool.{and_parts}
use Rattle.std.proofs.lemmas.List.{get_or_default}
use Rattle.std.specs.List.{Contains}
use Rattle.lrc_code.specs.Order.{least}
use Rattle.lrc_topology.specs.Nodes.{AreNodes}
use Rattle.lrc_slots.specs.Barred.{Barred, no_bars}
use Rattle.lrc_slots.specs.Slots.{least_free, taken_count}
use Rattle.lrc_slots.specs.Next.{next_number}
use Rattle.lrc_slots.specs.Tables.{Row, Table, slots_of}
use Rattle.lrc_slots.specs.Rows.{alone, is_open, precedes}
use Rattle.lrc_slots.specs.Indexes.{listed, is_listed, is_barred_at, no_row, AreOrdinals, Shows}
use Rattle.lrc_slots.proofs.ChoiceLemmas.{next_number-rows}
use Rattle.lrc_slots.proofs.IndexLemmas.{none-open, some-open}

module _ {rows : Table} {ordinals at : List ℕ} {loads : List (List Bool)} (h : AreOrdinals rows ordinals at) (s : Shows rows ordinals at is_listed loads) where
  module _ (load ordinal : ℕ) (hit : listed loads load ordinal ≡ true) where
    -- the position for the ordinal is that of a row
    pub position-within : get_or at ordinal 0 < length rows
    position-within = (s.known load ordinal hit).0

    -- there is a position for the ordinal
    pub ordinal-within : ordinal < length at
    ordinal-within = let own = s.known load ordinal hit in omega (arith, h.long, h.low (get_or at ordinal 0) own.0, own.1)

    -- the row at the position for the ordinal has a free slot
    row-room : (d : Row) → is_some (least_free (alone (get_or rows (get_or at ordinal 0) d)) (get_or rows (get_or at ordinal 0) d).node) ≡ true
    row-room d =
        let own = s.known load ordinal hit in
        let r = get_or rows (get_or at ordinal 0) d in
        let here = s.shown (get_or at ordinal 0) load d own.0 in
        let parts = and_parts (r.eligible && is_some (least_free (alone r) r.node)) (eqb (taken_count (alone r) r.node) load)
        (sym here ∙ (ap (λ q. listed loads load q) own.1 ∙ hit)) in
        (and_parts r.eligible (is_some (least_free (alone r) r.node)) parts.0).1

    module _ (p : ℕ) (is_at : p ≡ get_or at ordinal p) where
      -- the position that was read is the one for the ordinal
      pub position-read : p ≡ get_or at ordinal 0
      position-read = is_at ∙ get_or_default at ordinal p 0 ordinal-within

      module _ (r : Row) (here : r ≡ get_or rows p r) where
        -- and so is the row
        pub row-read : r ≡ get_or rows (get_or at ordinal 0) r
        row-read = here ∙ ap (λ i. get_or rows i r) position-read

        -- the row is one of the table
        pub read-known : Contains rows r
        read-known = let within = position-within in (p, omega (arith, position-read, within), sym here)

        -- it has a free slot
        pub read-room : is_some (least_free (alone r) r.node) ≡ true
        read-room = subst (λ (x : Row). is_some (least_free (alone x) x.node) ≡ true) (sym row-read) (row-room r)

  -- the ordinal of a row is barred exactly if the row is
  pub barred-at : (b : Barred) (i : ℕ) (d : Row) → i < length rows
      → is_barred_at rows at b (get_or ordinals i 0) ≡ (b.faults (get_or rows i d).node.fault || b.upgrades (get_or rows i d).node.upgrade)
  barred-at b i d within = ap (λ (x : Row). b.faults x.node.fault || b.upgrades x.node.upgrade)
      (ap (λ p. get_or rows p no_row) (h.back i within) ∙ get_or_default rows i no_row d within)

-- some node gets a seat if an ordinal is listed
pub open-known : (rows : Table) {ordinals at : List ℕ} {loads : List (List Bool)} → AreNodes (map (λ r. r.node) rows)
    → AreOrdinals rows ordinals at → Shows rows ordinals at is_listed loads
    → (any : Bool) → (any ≡ true → (l r : ℕ) × (listed loads l r ≡ true)) → (any ≡ false → (l r : ℕ) → listed loads l r ≡ false)
    → any ≡ is_some (next_number (slots_of rows) no_bars)
open-known rows known h s false some none =
    let no = none-open rows known h s no_bars (λ r. false) (λ i d within. refl)
    (λ load ordinal hit. absurd (let clash : true ≡ false = sym hit ∙ none refl load ordinal in cc)) in
    rw (next_number-rows rows no_bars None known (sym no)) refl
open-known rows known h s true some none = go (least precedes (filter (is_open no_bars) rows)) refl where
  go : (o : Option Row) → o ≡ least precedes (filter (is_open no_bars) rows) → true ≡ is_some (next_number (slots_of rows) no_bars)
  go (Some r) first = rw (next_number-rows rows no_bars (Some r) known first) refl
  go None first = absurd (
      let here = some refl in
      some-open rows known h s no_bars (λ r. false) (λ i d within. refl) here.0 here.1 no_row here.2 refl (sym first))
