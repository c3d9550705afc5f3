-- What can be read from a state besides what commands need.
use Rattle.std.specs.Prelude.{Bool, ◌&&◌, if◌then◌else◌, false, List, map, filter, flat_map, Option, Some, None, option_map}
use Rattle.std.specs.List.{range_with_len}
use Rattle.std.specs.Option.{option_map_or}
use Rattle.lrc_code.specs.declared.numbers.StripeNo.{StripeNo}
use Rattle.lrc_code.specs.declared.numbers.NodeNo.{NodeNo}
use Rattle.lrc_code.specs.declared.numbers.Fragment.{Fragment}
use Rattle.lrc_code.specs.Numbers.{same_node}
use Rattle.lrc_code.specs.Codes.{fragments, all_fragments}
use Rattle.lrc_topology.specs.declared.NodeInfo.{NodeInfo}
use Rattle.lrc_topology.specs.Nodes.{node_at}
use Rattle.lrc_terms.specs.Levels.{homes_of}
use Rattle.lrc_terms.specs.Stripes.{StripeFragment, stripe_at}
use Rattle.lrc_rules.specs.declared.kind.Kind.{Kind}
use Rattle.lrc_rules.specs.States.{State, has_stripe, is_down}
use Rattle.lrc_rules.specs.Repairs.{needs, kind}
use Rattle.lrc_rules.specs.Urgency.{is_grantable}

-- ---- stripes and nodes

-- whether a node is down; none if the store has no such node
abbrev pub down_shown : List NodeInfo → State → NodeNo → Option Bool
down_shown nodes st n = option_map (λ m. is_down st m.number) (node_at nodes n)

-- every stripe number, in rising order
abbrev pub stripe_numbers : List StripeNo
stripe_numbers = map stripe_at (range_with_len 0 4096)

-- the stripes of the store, in rising order
unfoldable pub stripes_of : State → List StripeNo
stripes_of st = filter (has_stripe st) stripe_numbers

-- every fragment of every stripe number, in rising order of stripe and fragment
abbrev pub places : List StripeFragment
places = flat_map (λ s. map (λ f. (s, f)) all_fragments) stripe_numbers

-- the fragment has a home on the node
abbrev pub is_home_on : State → NodeNo → StripeFragment → Bool
is_home_on st n p = option_map_or (λ seat. same_node n seat.node) (homes_of st.homes p.0 p.1.value) false

-- the fragments with a home on a node, in rising order of stripe and fragment
unfoldable pub homes_on : State → NodeNo → List StripeFragment
homes_on st n = filter (is_home_on st n) places

-- ---- repair

-- how a fragment that needs a lease is rebuilt; none if the store has no such stripe, or the fragment needs no lease
abbrev pub kind_shown : List NodeInfo → State → StripeNo → Fragment → Option Kind
kind_shown nodes st s f = if has_stripe st s && needs nodes st s f then Some (kind nodes st s f) else None

-- a lease of the fragment would be granted
abbrev pub is_granted_now : List NodeInfo → State → StripeNo → Fragment → Bool
is_granted_now nodes st s f = has_stripe st s && is_grantable nodes st (s, f)
