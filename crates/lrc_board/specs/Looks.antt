-- Internal: no public clause reaches these definitions.
-- The level of a stripe by its code, its homes and the nodes that are online.
use Rattle.std.specs.Prelude.{Bool, false, List, get_or, Option, None, option_map}
use Rattle.std.specs.Option.{option_map_or}
use Rattle.lrc_code.specs.declared.numbers.StripeNo.{StripeNo}
use Rattle.lrc_code.specs.declared.numbers.NodeNo.{NodeNo}
use Rattle.lrc_topology.specs.declared.seat.Seat.{Seat}
use Rattle.lrc_terms.specs.declared.level.Level.{Level}
use Rattle.lrc_terms.specs.Levels.{homeless_in, missing_in, level_by}
use Rattle.lrc_rules.specs.Boards.{Levels, levels_by}
use Rattle.lrc_board.specs.declared.stripe_homes.StripeHomes.{StripeHomes}
use Rattle.lrc_board.specs.Views.{Rows}

-- the node number is online
abbrev pub has_flag : List Bool → NodeNo → Bool
has_flag online n = get_or online n.value false

-- the home is on an online node
abbrev pub stands_in : List Bool → Option Seat → Bool
stands_in online home = option_map_or (λ seat. has_flag online seat.node) home false

-- the code and the homes of a stripe
abbrev pub homes_in : Rows → StripeNo → Option StripeHomes
homes_in rows s = get_or rows s.value None

-- the level of a stripe with this code and these homes
unfoldable pub level_with : List Bool → StripeHomes → Level
level_with online row =
    level_by row.code (homeless_in row.code (λ f. get_or row.homes f None)) (missing_in row.code (has_flag online) (λ f. get_or row.homes f None))

-- the level of a stripe; none if there is no such stripe
abbrev pub level_on : Rows → List Bool → StripeNo → Option Level
level_on rows online s = option_map (level_with online) (homes_in rows s)

-- the level of each of the 4,096 stripe numbers
unfoldable pub levels_on : Rows → List Bool → Levels
levels_on rows online = levels_by 4096 (level_on rows online)
