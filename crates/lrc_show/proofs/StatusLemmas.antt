-- The summary, from what is read of each stripe and each node.
use Rattle.std.proofs.Common.{◌≡◌, ℕ, ◌≤◌, List, ◌++◌, length, map, codes, ap, ◌∙◌, append_assoc, arith}
use Rattle.std.specs.Prelude.{decimal}
use Rattle.std.proofs.lemmas.List.{length-map}
use Rattle.std.proofs.lemmas.List.Folds.{fold-map}
use Rattle.lrc_topology.specs.declared.NodeInfo.{NodeInfo}
use Rattle.lrc_rules.specs.States.{State}
use Rattle.lrc_show.specs.declared.nodes.NodeFacts.{NodeFacts}
use Rattle.lrc_show.specs.declared.stripe_facts.StripeFacts.{StripeFacts}
use Rattle.lrc_book.specs.Looks.{stripes_of}
use Rattle.lrc_show.specs.Listed.{all_leases}
use Rattle.lrc_show.specs.Summed.{value_row, level_values, stripe_values, seat_values, node_values, time_values, status_table}
use Rattle.lrc_show.specs.Facts.{stripe_facts, level_lines, stripe_lines, node_facts, seat_lines, node_lines}
use Rattle.lrc_book.proofs.StripeLemmas.{few-stripes}

-- ---- rows that are written one after another

-- a text goes on
pub join : (start so_far more now next : List ℕ) → now ≡ start ++ so_far → next ≡ now ++ more → next ≡ start ++ (so_far ++ more)
join start so_far more now next first second = second ∙ ap (λ (l : List ℕ). l ++ more) first ∙ append_assoc start so_far more

-- and goes on by a row with a number
pub row-join : (start so_far name : List ℕ) (told value : ℕ) (now next : List ℕ) → now ≡ start ++ so_far → next ≡ now ++ value_row name (decimal told) → told ≡ value
    → next ≡ start ++ (so_far ++ value_row name (decimal value))
row-join start so_far name told value now next first second is =
    join start so_far (value_row name (decimal told)) now next first second ∙ ap (λ (n : ℕ). start ++ (so_far ++ value_row name (decimal n))) is

-- ---- the whole

module _ (nodes : List NodeInfo) (st : State) where
  levels-told : level_lines (map (stripe_facts nodes st) (stripes_of st)) ≡ level_values nodes st
  unfolding level_lines level_values
  levels-told = simp fold-map

  stripes-told : stripe_lines (map (stripe_facts nodes st) (stripes_of st)) ≡ stripe_values nodes st
  unfolding stripe_lines stripe_values
  stripes-told = simp (levels-told, fold-map, length-map)

  seats-told : seat_lines (length (all_leases st)) (map (node_facts st) nodes) ≡ seat_values nodes st
  unfolding seat_lines seat_values
  seats-told = simp fold-map

  nodes-told : node_lines (map (node_facts st) nodes) ≡ node_values nodes st
  unfolding node_lines node_values
  nodes-told = simp fold-map

  pub few-facts : (stripes : List StripeFacts) → stripes ≡ map (stripe_facts nodes st) (stripes_of st) → length stripes ≤ 4096
  few-facts stripes are =
      let long = ap length are ∙ length-map (stripes_of st) (stripe_facts nodes st) in
      let few = few-stripes st in omega (arith, long, few)

  module _ (stripes : List StripeFacts) (facts others : List NodeFacts) (leases entries : ℕ) (stripes-are : stripes ≡ map (stripe_facts nodes st) (stripes_of st))
      (facts-are : facts ≡ map (node_facts st) nodes) (others-are : others ≡ map (node_facts st) nodes) (leases-are : leases ≡ length (all_leases st)) where
    -- the summary is its head, and the rows on stripes, on seats, on nodes and on time
    pub status-told : (old h a b c s : List ℕ) → h ≡ old ++ codes "name,value\n" → a ≡ h ++ stripe_lines stripes → b ≡ a ++ seat_lines leases facts → c ≡ b ++ node_lines others
        → s ≡ c ++ time_values st entries → s ≡ old ++ status_table nodes st entries
    status-told old h a b c s first second third fourth fifth =
        let line = codes "name,value\n" in
        let on-stripes : stripe_lines stripes ≡ stripe_values nodes st = ap stripe_lines stripes-are ∙ stripes-told in
        let on-seats : seat_lines leases facts ≡ seat_values nodes st =
        ap (λ (n : ℕ). seat_lines n facts) leases-are ∙ ap (seat_lines (length (all_leases st))) facts-are ∙ seats-told in
        let on-nodes : node_lines others ≡ node_values nodes st = ap node_lines others-are ∙ nodes-told in
        let a-is : a ≡ old ++ (line ++ stripe_values nodes st) = join old line _ h a first (second ∙ ap (λ (l : List ℕ). h ++ l) on-stripes) in
        let b-is : b ≡ old ++ (line ++ stripe_values nodes st ++ seat_values nodes st) =
        join old _ _ a b a-is (third ∙ ap (λ (l : List ℕ). a ++ l) on-seats) in
        let c-is : c ≡ old ++ (line ++ stripe_values nodes st ++ seat_values nodes st ++ node_values nodes st) =
        join old _ _ b c b-is (fourth ∙ ap (λ (l : List ℕ). b ++ l) on-nodes) in
        join old _ _ c s c-is fifth
