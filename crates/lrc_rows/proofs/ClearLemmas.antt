-- The stripes of nodes that are online.
use Rattle.std.proofs.Common.{◌≡◌, ℕ, ◌<◌, ◌≤◌, inl, inr, Bool, true, false, not, List, [], map, length, get_or, arith, refl, sym, ap, ◌∙◌}
use Rattle.std.proofs.lemmas.Bool.{cases_Bool, cases_lt}
use Rattle.std.proofs.lemmas.List.{get_or_past, get_or-map, get_or_default}
use Rattle.lrc_code.specs.declared.numbers.NodeNo.{NodeNo}
use Rattle.lrc_code.specs.declared.numbers.StripeNo.{StripeNo}
use Rattle.lrc_nodes.specs.declared.node_state.NodeState.{NodeState}
use Rattle.lrc_ranks.specs.Sets.{has}
use Rattle.lrc_rows.specs.NodeStates.{NodeLists, states_in}
use Rattle.lrc_nodes.specs.States.{is_node_online, is_node_offline, node_position}
use Rattle.lrc_nodes.proofs.StateLemmas.{no_state}
use Rattle.lrc_rows.proofs.NodeStateLemmas.{not-not, found-online}

module _ (states : List NodeState) (sets : List (List Bool)) (t : NodeLists) (view : ◌≡◌ {A = NodeLists} (record { list = states; stripes = sets }) t)
    (long : length sets ≡ length states) (s : StripeNo) where
  abbrev off : List Bool
  off = map is_node_offline states

  on-at : (n : NodeNo) → (states_in t).on n s ≡ has (get_or sets (node_position t.list n) []) s
  unfolding states_in
  on-at n = ap (λ (xs : List (List Bool)). has (get_or xs (node_position t.list n) []) s) (sym (ap (λ (y : NodeLists). y.stripes) view))

  -- where no node that is offline has the stripe, each node that has it is online
  pub clear-online : ((k : ℕ) → get_or off k false ≡ true → has (get_or sets k []) s ≡ false) → (n : NodeNo) → (states_in t).on n s ≡ true → (states_in t).online n ≡ true
  clear-online none n on =
      let p = node_position t.list n in
      let lists : length t.list ≡ length states = ap (λ (y : NodeLists). length y.list) (sym view) in
      let many : length t.stripes ≡ length t.list = ap (λ (y : NodeLists). length y.stripes) (sym view) ∙ (long ∙ sym lists) in
      elim (cases_lt p (length t.list)) [
        | inl within ↦ elim (cases_Bool (get_or off p false)) [
          | inl down ↦ absurd (let clash : true ≡ false = sym on ∙ (on-at n ∙ none p down) in cc)
          | inr up ↦
              let here = get_or states p no_state in
              let said : is_node_offline here ≡ false = sym (get_or-map is_node_offline states p no_state false (omega (arith, within, lists))) ∙ up in
              sym (found-online states sets t view n p (refl, within, many) here (sym (get_or_default states p here no_state (omega (arith, within, lists))))) ∙ (sym (not-not (is_node_online here)) ∙ ap not said)
        ]
        | inr past ↦
            absurd (let clash : true ≡ false = sym on ∙ (on-at n ∙ ap (λ (xs : List Bool). has xs s) (get_or_past sets p [] (omega (arith, past, lists, long)))) in cc)
      ]

-- what was found so far and what is not found after it
pub clear-so_far : (off : List Bool) (sets : List (List Bool)) (s : StripeNo) (from : ℕ)
    → ((k : ℕ) → k < from → get_or off k false ≡ true → has (get_or sets k []) s ≡ false) → ((k : ℕ) → from ≤ k → get_or off k false ≡ false)
    → (k : ℕ) → get_or off k false ≡ true → has (get_or sets k []) s ≡ false
clear-so_far off sets s from so_far none k down = elim (cases_lt k from) [
  | inl below ↦ so_far k below down
  | inr above ↦ absurd (let clash : true ≡ false = sym down ∙ none k above in cc)
]
