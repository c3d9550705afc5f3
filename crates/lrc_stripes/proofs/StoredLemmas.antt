-- The change of the stored stripes by a change of a row.
use Rattle.std.proofs.Common.{◌≡◌, ℕ, zero, suc, ◌-◌, inl, inr, Bool, true, false, not, ◌&&◌, ◌||◌, if◌then◌else◌, nat_eq, nat_lt, List, [], ◌∷◌, ◌++◌, length, map, get_or, set, replicate, Option, Some, None, IfSome, is_some, refl, sym, ap, ap₂, ◌∙◌}
use Rattle.std.proofs.Math.Path.{fun_ext}
use Rattle.std.specs.List.{slice_get}
use Rattle.std.specs.Option.{option_map_or}
use Rattle.std.proofs.lemmas.Bool.{cases_eq, eq-eqb, ne_eqb}
use Rattle.std.proofs.lemmas.List.{get_or-set_same, get_or-set_other}
use Rattle.lrc_code.specs.declared.numbers.StripeNo.{StripeNo}
use Rattle.lrc_code.specs.declared.numbers.Fragment.{Fragment}
use Rattle.lrc_code.specs.declared.codes.Code.{Code}
use Rattle.lrc_code.specs.declared.codes.Code.TheVariants.{Wide}
use Rattle.lrc_code.specs.Numbers.{same_stripe}
use Rattle.lrc_code.proofs.NumbersLemmas.{equal_stripes}
use Rattle.lrc_topology.specs.declared.NodeInfo.{NodeInfo}
use Rattle.lrc_topology.specs.declared.seat.Seat.{Seat}
use Rattle.lrc_topology.specs.Nodes.{node_at}
use Rattle.lrc_rows.specs.declared.row.Row.{Row}
use Rattle.lrc_stripes.specs.Stored.{Stored, has_slot, empty, with_stripe, with_homes, without_stripe, with_home}
use Rattle.lrc_rows.specs.NodeStates.{has_node, NodeStates, first_states, NodeLists}
use Rattle.lrc_homes.specs.Homes.{seated_homes}
use Rattle.lrc_rows.specs.Listed.{row_homes, row_code, rows_in}
use Rattle.lrc_stripes.specs.Tables.{stored_in}
use Rattle.lrc_stripes.proofs.KeptLemmas.{replicated}
use Rattle.lrc_nodes.specs.declared.node_state.NodeState.{NodeState}
use Rattle.lrc_terms.specs.Levels.{Homes}
use Rattle.lrc_rows.specs.Kept.{AreSameStripes}

-- the stored stripes that nodes and rows represent
abbrev pub stored_by : NodeStates → (StripeNo → Option Row) → Stored
stored_by z rows = record {
  nodes = z.list;
  stripes = λ s. is_some (rows s);
  code = λ s. row_code (rows s);
  homes = λ s. row_homes (rows s);
}

-- ---- at first

pub stored-first : (nodes : List NodeInfo) (z : NodeStates) (rows : StripeNo → Option Row) → z ≡ first_states nodes → rows ≡ (λ s. None) → stored_by z rows ≡ empty nodes
stored-first nodes z rows at none = ap₂ stored_by at none

-- ---- one row changed

-- the codes with one more row, and without one
codes-put : (s : StripeNo) (rows : StripeNo → Option Row) (o : Option Row) (code : Code) → row_code o ≡ code
    → ◌≡◌ {A = StripeNo → Code} (λ u. row_code (if same_stripe s u then o else rows u)) (λ u. if same_stripe s u then code else row_code (rows u))
codes-put s rows o code is = fun_ext (λ u. either (same_stripe s u) (rows u)) where
  either : (b : Bool) (p : Option Row) → row_code (if b then o else p) ≡ (if b then code else row_code p)
  either true p = is
  either false p = refl

stripes-added : (b : Bool) (o p : Option Row) → is_some o ≡ true → is_some (if b then o else p) ≡ (b || is_some p)
stripes-added true o p e = e
stripes-added false o p e = refl

stripes-removed : (b : Bool) (p : Option Row) → is_some (if b then None else p) ≡ (not b && is_some p)
stripes-removed true p = refl
stripes-removed false p = refl

homes-chosen : (b : Bool) (o p : Option Row) (f : ℕ) → row_homes o f ≡ None → row_homes (if b then o else p) f ≡ (if b then None else row_homes p f)
homes-chosen true o p f e = e
homes-chosen false o p f e = refl

module _ (z : NodeStates) (rows after : StripeNo → Option Row) (s : StripeNo) where
  abbrev before : Stored
  before = stored_by z rows

  -- a stripe without homes added
  pub stored-add : (code : Code) (r : Row) → r.losses.code ≡ code → r.homes ≡ replicate 16 None → after ≡ (λ u. if same_stripe s u then Some r else rows u)
      → stored_by z after ≡ with_stripe before code s
  stored-add code r coded bare is =
      let no_homes : (f : ℕ) → row_homes (Some r) f ≡ None = λ f. ap (λ (hs : List (Option Seat)). get_or hs f None) bare ∙ replicated 16 f None in
      ap (λ (a : StripeNo → Option Row). stored_by z a) is
      ∙ ap (λ (b : StripeNo → Bool). record before { stripes = b; code = λ u. row_code (if same_stripe s u then Some r else rows u); homes = λ u. row_homes (if same_stripe s u then Some r else rows u) }) (fun_ext (λ u. stripes-added (same_stripe s u) (Some r) (rows u) refl))
      ∙ ap (λ (h : StripeNo → ℕ → Option Seat). record (with_stripe before code s) { code = λ u. row_code (if same_stripe s u then Some r else rows u); homes = h }) (fun_ext (λ u. fun_ext (λ f. homes-chosen (same_stripe s u) (Some r) (rows u) f (no_homes f))))
      ∙ ap (λ (c : StripeNo → Code). record (with_stripe before code s) { code = c }) (codes-put s rows (Some r) code coded)

  -- a stripe with homes on seats added
  pub stored-seated : (code : Code) (r : Row) (seats : List Seat) → r.losses.code ≡ code → r.homes ≡ seated_homes seats → after ≡ (λ u. if same_stripe s u then Some r else rows u)
      → stored_by z after ≡ with_homes before code s seats
  stored-seated code r seats coded own is =
      ap (λ (a : StripeNo → Option Row). stored_by z a) is
      ∙ ap (λ (b : StripeNo → Bool). record before { stripes = b; code = λ u. row_code (if same_stripe s u then Some r else rows u); homes = λ u. row_homes (if same_stripe s u then Some r else rows u) }) (fun_ext (λ u. stripes-added (same_stripe s u) (Some r) (rows u) refl))
      ∙ ap (λ (h : StripeNo → ℕ → Option Seat). record (with_stripe before code s) { code = λ u. row_code (if same_stripe s u then Some r else rows u); homes = h }) (fun_ext (λ u. fun_ext (λ f. by (same_stripe s u) (rows u) f)))
      ∙ ap (λ (c : StripeNo → Code). record (with_homes before code s seats) { code = c }) (codes-put s rows (Some r) code coded)
    where
      mapped : (xs : List Seat) (n f : ℕ) → get_or (map Some xs ++ replicate n None) f None ≡ slice_get xs f
      mapped [] n f = replicated n f None
      mapped (x ∷ xs) n zero = refl
      mapped (x ∷ xs) n (suc f) = mapped xs n f

      by : (b : Bool) (p : Option Row) (f : ℕ) → row_homes (if b then Some r else p) f ≡ (if b then slice_get seats f else row_homes p f)
      by true p f = ap (λ (hs : List (Option Seat)). get_or hs f None) own ∙ mapped seats (16 - length seats) f
      by false p f = refl

  -- a stripe taken out with its homes
  pub stored-remove : after ≡ (λ u. if same_stripe s u then None else rows u) → stored_by z after ≡ without_stripe before s
  stored-remove is =
      ap (λ (a : StripeNo → Option Row). stored_by z a) is
      ∙ ap (λ (b : StripeNo → Bool). record before { stripes = b; code = λ u. row_code (if same_stripe s u then None else rows u); homes = λ u. row_homes (if same_stripe s u then None else rows u) }) (fun_ext (λ u. stripes-removed (same_stripe s u) (rows u)))
      ∙ ap (λ (h : StripeNo → ℕ → Option Seat). record (without_stripe before s) { code = λ u. row_code (if same_stripe s u then None else rows u); homes = h }) (fun_ext (λ u. fun_ext (λ f. homes-chosen (same_stripe s u) None (rows u) f refl)))
      ∙ ap (λ (c : StripeNo → Code). record (without_stripe before s) { code = c }) (codes-put s rows None Wide refl)

  module _ (r : Row) (found : rows s ≡ Some r) (q : Row) (f : Fragment) (home : Option Seat) (coded : q.losses.code ≡ r.losses.code) (homes : q.homes ≡ set r.homes f.value home) where
    own : (u : StripeNo) → s.value ≡ u.value → rows u ≡ Some r
    own u same = ap rows (sym (equal_stripes s u same)) ∙ found

    stripes-kept : (u : StripeNo) → is_some (if same_stripe s u then Some q else rows u) ≡ is_some (rows u)
    stripes-kept u = elim (cases_eq s.value u.value) [
      | inl same ↦ rw (eq-eqb _ _ same, own u same) refl
      | inr other ↦ rw (ne_eqb _ _ other) refl
    ]

    codes-kept : (u : StripeNo) → row_code (if same_stripe s u then Some q else rows u) ≡ row_code (rows u)
    codes-kept u = elim (cases_eq s.value u.value) [
      | inl same ↦ rw (eq-eqb _ _ same, own u same) coded
      | inr other ↦ rw (ne_eqb _ _ other) refl
    ]

    homes-set : (u : StripeNo) (g : ℕ) → row_homes (if same_stripe s u then Some q else rows u) g ≡ (if same_stripe s u && nat_eq f.value g then home else row_homes (rows u) g)
    homes-set u g = elim (cases_eq s.value u.value) [
      | inl same ↦ rw (eq-eqb _ _ same, own u same, homes) (elim (cases_eq f.value g) [
        | inl here ↦ rw (eq-eqb _ _ here, ← here) (get_or-set_same r.homes f.value home None (rw r.sixteen f.in_range))
        | inr there ↦ rw (ne_eqb _ _ there) (get_or-set_other r.homes f.value g home None (λ e. there (sym e)))
      ])
      | inr other ↦ rw (ne_eqb _ _ other) refl
    ]

    -- the home of one fragment set
    pub stored-home : after ≡ (λ u. if same_stripe s u then Some q else rows u) → stored_by z after ≡ with_home before s f home
    stored-home is =
        ap (λ (a : StripeNo → Option Row). stored_by z a) is
        ∙ ap (λ (b : StripeNo → Bool). record before { stripes = b; code = λ u. row_code (if same_stripe s u then Some q else rows u); homes = λ u. row_homes (if same_stripe s u then Some q else rows u) }) (fun_ext stripes-kept)
        ∙ ap (λ (c : StripeNo → Code). record before { code = c; homes = λ u. row_homes (if same_stripe s u then Some q else rows u) }) (fun_ext codes-kept)
        ∙ ap (λ (h : StripeNo → ℕ → Option Seat). record before { homes = h }) (fun_ext (λ u. fun_ext (λ g. homes-set u g)))

-- ---- seats

-- a node that has the slot is there
pub slot-known : (o : Option NodeInfo) (slot : ℕ) → option_map_or (λ n. nat_lt slot n.slots) o false ≡ true → is_some o ≡ true
slot-known None slot e = absurd (let f : false ≡ true = e in cc)
slot-known (Some n) slot e = refl

pub seat-known : (nodes : List NodeInfo) (home : Option Seat) → IfSome home (λ seat. has_slot nodes seat ≡ true) → IfSome home (λ seat. has_node nodes seat.node ≡ true)
seat-known nodes None slot = slot
seat-known nodes (Some seat) slot = slot-known (node_at nodes seat.node) seat.slot slot

pub stored_of : List NodeState → (StripeNo → Option Row) → Stored
stored_of nodes rows = record {
  nodes = nodes;
  stripes = λ s. is_some (rows s);
  code = λ s. row_code (rows s);
  homes = λ s. row_homes (rows s);
}

pub stored_of-states_in : (states : NodeLists) (rows : List (Option Row)) → stored_in (record { node_table = states.list; rows = rows }) ≡ stored_of states.list (rows_in rows)
unfolding stored_in stored_of
stored_of-states_in states rows = refl

pub stored_of-rows : (nodes : List NodeState) (rows rows' : StripeNo → Option Row) → AreSameStripes rows rows' → stored_of nodes rows' ≡ stored_of nodes rows
unfolding stored_of
stored_of-rows nodes rows rows' same =
    ap₂ (λ (stripes : StripeNo → Bool) (home : StripeNo → Homes). let s : Stored = record { nodes = nodes; stripes = stripes; code = λ s. row_code (rows' s); homes = home } in s)
    (fun_ext same.there) (fun_ext same.homes)
    ∙ ap (λ (c : StripeNo → Code). let s : Stored = record { nodes = nodes; stripes = λ s. is_some (rows s); code = c; homes = λ s. row_homes (rows s) } in s) (fun_ext same.codes)

-- the stores of tables that differ in the states of their nodes, with rows of the same stripes
pub stored-set : (old new : NodeLists) (list : List NodeState) (rows rows' : List (Option Row)) → new.list ≡ list → AreSameStripes (rows_in rows) (rows_in rows')
    → stored_in (record { node_table = new.list; rows = rows' }) ≡ record (stored_in (record { node_table = old.list; rows = rows })) { nodes = list }
unfolding stored_of
stored-set old new list rows rows' is same =
    stored_of-states_in new rows'
    ∙ (ap (λ (xs : List NodeState). stored_of xs (rows_in rows')) is
    ∙ (stored_of-rows list (rows_in rows) (rows_in rows') same
    ∙ ap (λ (s : Stored). record s { nodes = list }) (sym (stored_of-states_in old rows))))
