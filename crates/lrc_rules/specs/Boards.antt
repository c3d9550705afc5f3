-- What the published view shows of a state: the level of each stripe, and the load of each node.
use Rattle.std.specs.Prelude.{ℕ, List, map, find, get_or, slice_set, Option, None, option_map}
use Rattle.std.specs.List.{range_with_len}
use Rattle.lrc_code.specs.declared.numbers.StripeNo.{StripeNo}
use Rattle.lrc_code.specs.declared.numbers.NodeNo.{NodeNo}
use Rattle.lrc_code.specs.Numbers.{same_node}
use Rattle.lrc_topology.specs.declared.NodeInfo.{NodeInfo}
use Rattle.lrc_terms.specs.declared.level.Level.{Level}
use Rattle.lrc_terms.specs.Stripes.{stripe_at}
use Rattle.lrc_rules.specs.declared.entry.Entry.{Entry}
use Rattle.lrc_rules.specs.States.{State, load, level_shown}
use Rattle.lrc_rules.specs.Histories.{state_after}

-- ---- levels

-- the level for each stripe number, in ascending order; none if the store has no such stripe
abbrev pub Levels : Type 0
Levels = List (Option Level)

-- a stripe, and its new level; none if the stripe was dropped
abbrev pub LevelChange : Type 0
LevelChange = StripeNo × Option Level

-- the levels of the first `count` stripe numbers
abbrev pub levels_by : ℕ → (StripeNo → Option Level) → Levels
levels_by count shown = map (λ k. shown (stripe_at k)) (range_with_len 0 count)

-- the level of each of the 4,096 stripe numbers, in a state
unfoldable pub levels_of : List NodeInfo → State → Levels
levels_of nodes st = levels_by 4096 (level_shown nodes st)

-- the level of a stripe
abbrev pub level_in : Levels → StripeNo → Option Level
level_in levels s = get_or levels s.value None

-- the levels after one change
abbrev pub put_level : Levels → LevelChange → Levels
put_level levels change = slice_set levels change.0.value change.1

-- ---- loads

-- the number and the load of each node
abbrev pub Loads : Type 0
Loads = List (NodeNo × ℕ)

-- the loads of the nodes, in file order
abbrev pub loads_by : List NodeInfo → (NodeNo → ℕ) → Loads
loads_by nodes load = map (λ m. (m.number, load m.number)) nodes

-- the loads of the nodes in a state
abbrev pub loads_of : List NodeInfo → State → Loads
loads_of nodes st = loads_by nodes (load st)

-- (internal) the same after a history
abbrev pub loads_after : List NodeInfo → List Entry → Loads
loads_after nodes history = loads_of nodes (state_after nodes history)

-- the load of a node; none if the store has no such node
abbrev pub load_in : Loads → NodeNo → Option ℕ
load_in loads n = option_map (λ row. row.1) (find (λ row. same_node n row.0) loads)
