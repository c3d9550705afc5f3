-- Alike states have one image.
use Rattle.std.proofs.Common.{◌≡◌, ℕ, ◌&&◌, if◌then◌else◌, List, map, flat_map, Some, None, option_map, is_some, ◌∙◌}
use Rattle.std.specs.Prelude.{option_to_list}
use Rattle.std.proofs.Math.Path.{fun_ext}
use Rattle.lrc_code.specs.declared.numbers.Fragment.{Fragment}
use Rattle.lrc_code.specs.Codes.{all_fragments}
use Rattle.lrc_topology.specs.declared.NodeInfo.{NodeInfo}
use Rattle.lrc_topology.specs.Nodes.{node_at}
use Rattle.lrc_terms.specs.Stripes.{stripe_at}
use Rattle.lrc_rules.specs.declared.entry.Entry.{Entry}
use Rattle.lrc_rules.specs.States.{State}
use Rattle.lrc_rules.specs.Leases.{grants}
use Rattle.lrc_rules.specs.Alike.{AreAlike}
use Rattle.lrc_rules.specs.Futures.{HaveSameGrants}
use Rattle.lrc_rules.specs.Goodness.{AreSeated}
use Rattle.lrc_rules.proofs.AlikeReadLemmas.{alike-there, alike-code, alike-mode, alike-down, alike-homes, alike-leases}
use Rattle.lrc_images.specs.declared.image.Image.{Image}
use Rattle.lrc_images.specs.Rising.{tells_node, tells_grants}
use Rattle.lrc_images.specs.Rows.{rows_below, node_no, row_of_node, node_rows, row_of_stripe, stripe_rows, row_of_grants, grant_rows, lease_row, lease_rows, IsImageOf}

-- ---- rows

module _ (nodes : List NodeInfo) (w v : State) (alike : AreAlike w v) where
  node-same : row_of_node w ≡ row_of_node v
  node-same =
      let mode = fun_ext (alike-mode w v alike) in
      let down = fun_ext (alike-down w v alike) in λ i n. record { node = n; mode = mode i n; is_down = down i n }

  -- the same nodes, with the same modes
  pub alike-node_rows : node_rows nodes w ≡ node_rows nodes v
  alike-node_rows =
      let row = node-same in
      λ i. rows_below node_no (λ n. option_to_list (if is_some (node_at nodes n) && tells_node (row i n) then Some (row i n) else None)) 65536

  module _ (seated : AreSeated nodes w) (seated' : AreSeated nodes v) where
    stripe-same : row_of_stripe w ≡ row_of_stripe v
    stripe-same =
        let code = alike-code w v alike in
        let homes = alike-homes nodes w v alike seated seated' in
        λ i s. record { stripe = s; code = code i s; homes = map (λ (f : Fragment). homes i s f.value) all_fragments }

    -- the same stripes, with the same codes and homes
    pub alike-stripe_rows : stripe_rows w ≡ stripe_rows v
    alike-stripe_rows =
        let there = alike-there w v alike in
        let row = stripe-same in λ i. rows_below stripe_at (λ s. option_to_list (if there i s then Some (row i s) else None)) 4096

    -- the same leases
    pub alike-lease_rows : lease_rows w ≡ lease_rows v
    alike-lease_rows =
        let leases = alike-leases nodes w v alike seated seated' in
        λ i. rows_below stripe_at (λ s. flat_map (λ (f : Fragment). option_to_list (option_map lease_row (leases i s f.value))) all_fragments) 4096

module _ (past past' : List Entry) (same : HaveSameGrants past past') where
  grants-same : row_of_grants past ≡ row_of_grants past'
  grants-same =
      let counts : grants past ≡ grants past' = fun_ext (λ s. fun_ext (λ f. same s f)) in
      λ i s. record { stripe = s; granted = map (λ (f : Fragment). counts i s f) all_fragments }

  -- the same counts of grants
  pub alike-grant_rows : grant_rows past ≡ grant_rows past'
  alike-grant_rows =
      let row = grants-same in
      λ i. rows_below stripe_at (λ s. option_to_list (if tells_grants (row i s) then Some (row i s) else None)) 4096

-- ---- the image

-- the image of a state is that of each alike state
pub alike-image : (nodes : List NodeInfo) (past past' : List Entry) (w v : State) (before : ℕ) (i : Image) → AreSeated nodes w → AreSeated nodes v
    → AreAlike w v → HaveSameGrants past past' → IsImageOf nodes past w before i → IsImageOf nodes past' v before i
alike-image nodes past past' w v before i seated seated' alike same is = record {
  before_is = is.before_is;
  clock_is = is.clock_is ∙ alike.clock;
  upgrading_is = is.upgrading_is ∙ alike.upgrading;
  nodes_are = is.nodes_are ∙ alike-node_rows nodes w v alike;
  stripes_are = is.stripes_are ∙ alike-stripe_rows nodes w v alike seated seated';
  grants_are = is.grants_are ∙ alike-grant_rows past past' same;
  leases_are = is.leases_are ∙ alike-lease_rows nodes w v alike seated seated';
}
