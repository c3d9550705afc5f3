-- What the published view shows of a state, and after a change of one level.
use Rattle.std.proofs.Common.{[], ◌≡◌, ℕ, ◌<◌, ◌≤◌, if◌then◌else◌, List, ◌∷◌, length, get_or, set, Option, None, option_map, refl, sym, ap, ◌∙◌, inl, inr, arith}
use Rattle.std.proofs.Math.Nat.{mod-eq_of_lt}
use Rattle.std.proofs.lemmas.Bool.{cases_Bool, eqb-true, eqb-false}
use Rattle.std.proofs.lemmas.List.{ext_get_or, get_or-set_same, get_or-set_other}
use Rattle.std.proofs.lemmas.List.FromFn.{get_or-map-range_with_len, length-map-range_with_len}
use Rattle.std.proofs.Common.{length-set}
use Rattle.lrc_code.specs.declared.numbers.StripeNo.{StripeNo}
use Rattle.lrc_code.specs.declared.numbers.NodeNo.{NodeNo}
use Rattle.lrc_code.specs.Numbers.{same_stripe, same_node}
use Rattle.lrc_code.proofs.NumbersLemmas.{equal_stripes}
use Rattle.lrc_topology.specs.declared.NodeInfo.{NodeInfo}
use Rattle.lrc_topology.specs.Nodes.{node_at}
use Rattle.lrc_terms.specs.declared.level.Level.{Level}
use Rattle.lrc_terms.specs.Stripes.{stripe_at}
use Rattle.lrc_rules.specs.States.{State, load, load_shown, level_shown}
use Rattle.lrc_rules.specs.Boards.{LevelChange, levels_by, levels_of, level_in, put_level, loads_by, loads_of, load_in}

-- ---- levels

own-number : (s : StripeNo) → stripe_at s.value ≡ s
own-number s = equal_stripes (stripe_at s.value) s (mod-eq_of_lt s.in_range)

pub level-by : (count : ℕ) (shown : StripeNo → Option Level) (s : StripeNo) → s.value < count → level_in (levels_by count shown) s ≡ shown s
level-by count shown s within = get_or-map-range_with_len (λ k. shown (stripe_at k)) 0 count s.value s.value None within (omega arith) ∙ ap shown (own-number s)

-- the published view shows the level of each stripe
pub level-of : (nodes : List NodeInfo) (st : State) (s : StripeNo) → level_in (levels_of nodes st) s ≡ level_shown nodes st s
unfolding levels_of
level-of nodes st s = level-by 4096 (level_shown nodes st) s s.in_range

-- the shown levels, with one changed
abbrev pub shown_with : LevelChange → (StripeNo → Option Level) → StripeNo → Option Level
shown_with change shown s = if same_stripe change.0 s then change.1 else shown s

module _ (count : ℕ) (few : count ≤ 4096) (shown : StripeNo → Option Level) (change : LevelChange) where
  put-at : (i : ℕ) → i < count → get_or (put_level (levels_by count shown) change) i None ≡ get_or (levels_by count (shown_with change shown)) i None
  put-at i within =
      let s : StripeNo = record { value = i; in_range = omega (arith, within, few) } in
      let whole : length (levels_by count shown) ≡ count = length-map-range_with_len (λ k. shown (stripe_at k)) 0 count in
      elim (cases_Bool (same_stripe change.0 s)) [
        | inl same ↦
            let e : change.0.value ≡ i = eqb-true change.0.value i same in
            ap (λ k. get_or (set (levels_by count shown) k change.1) i None) e
            ∙ get_or-set_same (levels_by count shown) i change.1 None (rw whole within)
            ∙ sym (level-by count (shown_with change shown) s within ∙ rw same refl)
        | inr other ↦
            get_or-set_other (levels_by count shown) change.0.value i change.1 None (λ e. eqb-false change.0.value i other (sym e))
            ∙ level-by count shown s within
            ∙ sym (level-by count (shown_with change shown) s within ∙ rw other refl)
      ]

  pub put-level-by : put_level (levels_by count shown) change ≡ levels_by count (shown_with change shown)
  put-level-by =
      let whole : length (levels_by count shown) ≡ count = length-map-range_with_len (λ k. shown (stripe_at k)) 0 count in
      let long : length (put_level (levels_by count shown) change) ≡ count = length-set (levels_by count shown) change.0.value change.1 ∙ whole in
      ext_get_or None (put_level (levels_by count shown) change) (levels_by count (shown_with change shown))
      (long ∙ sym (length-map-range_with_len (λ k. shown_with change shown (stripe_at k)) 0 count))
      (λ i within. put-at i (rw long at within))

-- writing a change changes one level
pub level-put : (nodes : List NodeInfo) (st : State) (change : LevelChange) (s : StripeNo)
    → level_in (put_level (levels_of nodes st) change) s ≡ shown_with change (level_shown nodes st) s
unfolding levels_of
level-put nodes st change s =
    ap (λ levels. level_in levels s) (put-level-by 4096 (omega arith) (level_shown nodes st) change)
    ∙ level-by 4096 (shown_with change (level_shown nodes st)) s s.in_range

-- ---- loads

pub load-by : (nodes : List NodeInfo) (loads : NodeNo → ℕ) (n : NodeNo) → load_in (loads_by nodes loads) n ≡ option_map (λ m. loads m.number) (node_at nodes n)
load-by [] loads n = refl
load-by (m ∷ ms) loads n = elim (cases_Bool (same_node n m.number)) [
  | inl hit ↦ rw hit refl
  | inr miss ↦ rw miss (load-by ms loads n)
]

-- the published view shows the load of each node
pub load-of : (nodes : List NodeInfo) (st : State) (n : NodeNo) → load_in (loads_of nodes st) n ≡ load_shown nodes st n
load-of nodes st n = load-by nodes (load st) n
