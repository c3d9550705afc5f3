use Rattle.std.proofs.Common.{◌≡◌, Bool, true, false, not, ◌&&◌, nat_lt, get_or, Option, Some, None, refl, ap, ◌∙◌}
use Rattle.std.specs.Option.{option_map_or}
use Rattle.lrc_topology.specs.declared.seat.Seat.{Seat}
use Rattle.lrc_homes.specs.Homes.{is_missing}
use Rattle.lrc_rows.specs.NodeStates.{states_in}
use Rattle.lrc_rows.proofs.row.present_of.Goals as goal

pub returns : goal.returns
returns c = λ f. c.fragments_where.ensures.on f ∙ ap (λ (b : Bool). nat_lt f 16 && b) (by (get_or c.args.homes.now f None)) where
  double : (b : Bool) → b ≡ not (not b)
  double true = refl
  double false = refl

  by : (home : Option Seat) → option_map_or (λ seat. get_or c.up.result.now seat.node.value false) home false ≡ not (is_missing (states_in c.args.node_table.now).up home)
  by None = refl
  by (Some seat) = c.up.ensures.each seat.node ∙ double ((states_in c.args.node_table.now).up seat.node)
