-- A store without stripes takes the row of one more node.
use Rattle.std.proofs.Common.{[], ◌≡◌, ◌≢◌, ◌||◌, ◌&&◌, inl, inr, Bool, true, false, if◌then◌else◌, not, List, ◌∷◌, ◌++◌, map, filter, None, refl, sym, ap, ap₂, ◌∙◌, subst, arith}
use Rattle.std.specs.List.{All, Contains}
use Rattle.std.proofs.lemmas.Bool.{cases_Bool, eqb-true, eq-eqb, ltb-true, and_from, false_from_ne_true}
use Rattle.std.proofs.lemmas.List.{map-append}
use Rattle.std.proofs.lemmas.List.Elements.{All-nil, All-contains, filter-append}
use Rattle.std.proofs.lemmas.List.Folds.{list_any-append}
use Rattle.lrc_code.specs.declared.numbers.NodeNo.{NodeNo}
use Rattle.lrc_code.specs.Numbers.{same_node}
use Rattle.lrc_code.proofs.NumbersLemmas.{equal_nodes}
use Rattle.lrc_topology.specs.declared.NodeInfo.{NodeInfo}
use Rattle.lrc_terms.specs.declared.mode.Mode.{Mode}
use Rattle.lrc_terms.specs.declared.mode.Mode.TheVariants.{Active, Draining, Gone}
use Rattle.lrc_terms.specs.Modes.{is_active, is_draining, is_gone}
use Rattle.lrc_slots.specs.Slots.{with_eligible}
use Rattle.lrc_slots.specs.Tables.{slots_of}
use Rattle.lrc_stripes.specs.Stored.{with_state}
use Rattle.lrc_stripes.specs.Tables.{stored_in}
use Rattle.lrc_rules.specs.States.{State, has_number, mode_of, is_down}
use Rattle.lrc_rules.specs.Goodness.{IsStanding, AreSeated}
use Rattle.lrc_rules.proofs.MemberLemmas.{All-members, list_any-member, member-list_any}
use Rattle.lrc_rules.proofs.LookUpLemmas.{test-sym}
use Rattle.lrc_rules.proofs.NodeCommandLemmas.{IsAsItWas}
use Rattle.lrc_rules.proofs.JoinedLemmas.{NoneBoth}
use Rattle.lrc_rules.proofs.NodeWordsLemmas.{mode-gone}
use Rattle.lrc_rules.proofs.SeatingLemmas.{IsWithin}
use Rattle.lrc_images.specs.declared.cause.Cause.TheVariants as cause
use Rattle.lrc_images.specs.declared.image.NodeRow.{NodeRow}
use Rattle.lrc_images.specs.declared.image.Image.{Image}
use Rattle.lrc_images.specs.Images.{nodes_where}
use Rattle.lrc_images.specs.Rising.{node_first}
use Rattle.lrc_images.specs.Causes.{is_out_of_order, node_cause}
use Rattle.lrc_images.proofs.AnswerLemmas.{if-none}
use Rattle.lrc_images.proofs.RisingLemmas.{number-row}
use Rattle.lrc_images.proofs.LawfulLemmas.{IsNodeRow, node-row_is}
use Rattle.lrc_store.specs.declared.store.Store.{Store}
use Rattle.lrc_store.specs.Stores.{IsOf}
use Rattle.lrc_store.proofs.ModeLemmas.{state-kept}
use Rattle.lrc_restore.specs.Stages.{with_nodes}

-- ---- order

pub in-order : (nodes : List NodeInfo) (before : List NodeRow) (r : NodeRow) → node_cause nodes before r ≡ None → is_out_of_order node_first before r ≡ false
in-order nodes before r none = (if-none (is_out_of_order node_first before r) cause.OutOfOrder _ none).0

-- ---- the nodes that pass a test, with one more row

module _ (test : NodeRow → Bool) (rows : List NodeRow) (r : NodeRow) (m : NodeNo) where
  -- they are those of the earlier rows, and the node of the new one if that passes
  pass-more : has_number (nodes_where test (rows ++ r ∷ [])) m ≡ (has_number (nodes_where test rows) m || has_number (nodes_where test (r ∷ [])) m)
  pass-more =
      ap (λ (numbers : List NodeNo). has_number numbers m) (ap (map (λ (r : NodeRow). r.node)) (filter-append test rows (r ∷ []))
      ∙ map-append (λ (r : NodeRow). r.node) (filter test rows) (filter test (r ∷ [])))
      ∙ list_any-append (same_node m) (nodes_where test rows) (nodes_where test (r ∷ []))

  own-pass : (b same : Bool) → test r ≡ b → same_node m r.node ≡ same → has_number (nodes_where test (r ∷ [])) m ≡ (b && same)
  own-pass true same is met = rw is (or-false (same_node m r.node) ∙ met) where
    or-false : (b : Bool) → (b || false) ≡ b
    or-false true = refl
    or-false false = refl
  own-pass false same is met = rw is refl

  -- another node is as it was
  pass-other : same_node r.node m ≡ false → has_number (nodes_where test (rows ++ r ∷ [])) m ≡ has_number (nodes_where test rows) m
  pass-other other = pass-more ∙ ap (λ (b : Bool). has_number (nodes_where test rows) m || b) (own-pass (test r) false refl (test-sym m.value r.node.value ∙ other)
      ∙ and-false (test r)) ∙ or-false (has_number (nodes_where test rows) m) where
        and-false : (b : Bool) → (b && false) ≡ false
        and-false true = refl
        and-false false = refl

        or-false : (b : Bool) → (b || false) ≡ b
        or-false true = refl
        or-false false = refl

-- the node of the new row passes as its row does
pass-own : (test : NodeRow → Bool) (rows : List NodeRow) (r : NodeRow) → All (λ b. node_first b r ≡ true) rows
    → has_number (nodes_where test (rows ++ r ∷ [])) r.node ≡ test r
pass-own test rows r after =
    pass-more test rows r r.node
    ∙ ap₂ (λ (a b : Bool). a || b) absent (own-pass test rows r r.node (test r) true refl (eq-eqb r.node.value r.node.value refl)) ∙ and-true (test r)
  where
    absent : has_number (nodes_where test rows) r.node ≡ false
    absent = false_from_ne_true (has_number (nodes_where test rows) r.node) (λ hit.
        let row = number-row test rows r.node hit in
        let less = ltb-true row.0.node.value r.node.value (All-contains (λ (b : NodeRow). node_first b r ≡ true) rows row.0 after row.1) in
        let same = ap (λ (n : NodeNo). n.value) row.3 in
        absurd (omega (arith, less, same)))

    and-true : (b : Bool) → (false || (b && true)) ≡ b
    and-true true = refl
    and-true false = refl

-- ---- the state

module _ (i : Image) (rows : List NodeRow) (r : NodeRow) where
  abbrev was : State
  was = with_nodes i rows

  abbrev now : State
  now = with_nodes i (rows ++ r ∷ [])

  now-other : (m : NodeNo) → same_node r.node m ≡ false → IsAsItWas was m now
  now-other m other = record {
    gone = pass-other (λ r. is_gone r.mode) rows r m other;
    draining = pass-other (λ r. is_draining r.mode) rows r m other;
    down = pass-other (λ r. r.is_down) rows r m other;
  }

  mode-other : (m : NodeNo) → same_node r.node m ≡ false → mode_of now m ≡ mode_of was m
  mode-other m other = let same = now-other m other in ap₂ (λ (g d : Bool). if g then Gone else (if d then Draining else Active)) same.gone same.draining

  module _ (nodes : List NodeInfo) (row : IsNodeRow nodes rows r) where
    now-mode : mode_of now r.node ≡ r.mode
    now-mode =
        ap₂ (λ (g d : Bool). if g then Gone else (if d then Draining else Active)) (pass-own (λ r. is_gone r.mode) rows r row.after)
        (pass-own (λ r. is_draining r.mode) rows r row.after)
        ∙ told r.mode where
          told : (m : Mode) → (if is_gone m then Gone else (if is_draining m then Draining else Active)) ≡ m
          told Active = refl
          told Draining = refl
          told Gone = refl

    now-down : is_down now r.node ≡ r.is_down
    now-down = pass-own (λ r. r.is_down) rows r row.after

    now-apart : NoneBoth was → NoneBoth now
    now-apart apart m gone = elim (cases_Bool (same_node r.node m)) [
      | inl here ↦
          subst (λ (n : NodeNo). has_number now.draining n ≡ false) (own here)
          (pass-own (λ r. is_draining r.mode) rows r row.after
          ∙ either r.mode (sym (pass-own (λ r. is_gone r.mode) rows r row.after) ∙ subst (λ (n : NodeNo). has_number now.gone n ≡ true) (sym (own here)) gone))
      | inr other ↦ let same = now-other m other in same.draining ∙ apart m (sym same.gone ∙ gone)
    ] where
      own : same_node r.node m ≡ true → r.node ≡ m
      own here = equal_nodes r.node m (eqb-true r.node.value m.value here)

      either : (m : Mode) → is_gone m ≡ true → is_draining m ≡ false
      either Active e = refl
      either Draining e = absurd (let never : false ≡ true = e in cc)
      either Gone e = refl

    -- no node that is down is gone
    now-reachable : All (λ n. mode_of was n ≢ Gone) was.down → All (λ n. mode_of now n ≢ Gone) now.down
    now-reachable reachable = All-members (λ n. mode_of now n ≢ Gone) now.down (λ m here gone.
        let down = list_any-member (same_node m) now.down m here (eq-eqb m.value m.value refl) in
        elim (cases_Bool (same_node r.node m)) [
          | inl own ↦
              let same = equal_nodes r.node m (eqb-true r.node.value m.value own) in
              let mode = sym now-mode ∙ ap (mode_of now) same ∙ gone in
              let too = sym now-down ∙ ap (is_down now) same ∙ down in
              (let both : true ≡ false = sym (and_from (is_gone r.mode) r.is_down (mode-gone r.mode mode) too) ∙ row.up in cc)
          | inr other ↦
              let m' = member-list_any (same_node m) was.down (sym (now-other m other).down ∙ down) in
              let there = subst (Contains was.down) (sym (equal_nodes m m'.0 (eqb-true m.value m'.0.value m'.2))) m'.1 in
              All-contains (λ (n : NodeNo). mode_of was n ≢ Gone) was.down m reachable there (sym (mode-other m other) ∙ gone)
        ])

-- a state without stripes has its seats in order, if no node that is down is gone
bare-seated : (nodes : List NodeInfo) (i : Image) (rows : List NodeRow) → All (λ n. mode_of (with_nodes i rows) n ≢ Gone) (with_nodes i rows).down → AreSeated nodes (with_nodes i rows)
bare-seated nodes i rows reachable = record {
  stripes = λ i j d below within. absurd (omega arith);
  single = λ i j d below within. absurd (omega arith);
  standing = All-nil (IsStanding nodes (with_nodes i rows));
  lawful = λ i j d below within. absurd (omega arith);
  one_home = λ i j d below within. absurd (omega arith);
  one_lease = λ i j d below within. absurd (omega arith);
  coded = All-nil (Contains (with_nodes i rows).stripes);
  there = All-nil (λ h. Contains (with_nodes i rows).stripes h.stripe);
  within = All-nil (IsWithin (with_nodes i rows));
  reachable = reachable;
}

-- with the state of its node set, what is kept is that of the rows with this one
pub row-kept : (i : Image) (rows : List NodeRow) (r : NodeRow) (k next : Store) → IsOf (with_nodes i rows) k → node_cause k.topology rows r ≡ None
    → next ≡ record k { table = next.table; stripes = next.stripes } → slots_of next.table ≡ with_eligible (slots_of k.table) r.node (is_active r.mode && not r.is_down)
    → stored_in next.stripes ≡ with_state (stored_in k.stripes) r.node r.mode r.is_down → IsOf (with_nodes i (rows ++ r ∷ [])) next
row-kept i rows r k next kept none rest table stripes =
    let row = node-row_is k.topology rows r none in
    let st = with_nodes i (rows ++ r ∷ []) in
    subst (IsOf st) (sym rest)
    (state-kept r.node (with_nodes i rows) st.gone st.draining st.down k kept
    (bare-seated k.topology i (rows ++ r ∷ []) (now-reachable i rows r k.topology row kept.seated.reachable))
    (now-apart i rows r k.topology row kept.apart) row.found (now-other i rows r) r.mode r.is_down (sym (now-mode i rows r k.topology row))
    (sym (now-down i rows r k.topology row)) next.table next.stripes table stripes)
