-- Internal: no public clause reaches these definitions.
-- What is read of each stripe and each node before it is counted or printed.
use Rattle.std.specs.Prelude.{ℕ, ◌-◌, Bool, not, ◌&&◌, List, [], ◌∷◌, ◌++◌, codes, decimal, length, flat_map, count_by, sum_by}
use Rattle.lrc_code.specs.declared.numbers.StripeNo.{StripeNo}
use Rattle.lrc_code.specs.Numbers.{same_node}
use Rattle.lrc_code.specs.Losses.{size_of}
use Rattle.lrc_topology.specs.declared.NodeInfo.{NodeInfo}
use Rattle.lrc_terms.specs.declared.level.Level.{Level}
use Rattle.lrc_terms.specs.declared.level.Level.TheVariants.{Whole, AtRisk, Unavailable, Lost}
use Rattle.lrc_terms.specs.declared.lease.Lease.{Lease}
use Rattle.lrc_terms.specs.Modes.{is_active, is_draining, is_gone}
use Rattle.lrc_rules.specs.States.{State, code_of, load, mode_of, is_down, is_upgrading, is_online, homeless, missing, level}
use Rattle.lrc_book.specs.Looks.{homes_on}
use Rattle.lrc_forecast.specs.declared.outlook.Outlook.{Outlook}
use Rattle.lrc_text.specs.Tables.{table_line, mode_text, online_text}
use Rattle.lrc_capacity.specs.declared.room.NodeRoom.{NodeRoom}
use Rattle.lrc_show.specs.declared.nodes.NodeFacts.{NodeFacts}
use Rattle.lrc_show.specs.declared.stripe_facts.StripeFacts.{StripeFacts}
use Rattle.lrc_show.specs.Listed.{presence_word, why_words}
use Rattle.lrc_show.specs.Summed.{value_row, is_level}

-- ---- stripes

-- what is read of a stripe
abbrev pub stripe_facts : List NodeInfo → State → StripeNo → StripeFacts
stripe_facts nodes st s = record {
  level = level nodes st s;
  missing = size_of (code_of st s) (missing nodes st s);
  homeless = size_of (code_of st s) (homeless st s);
}

-- how many have this level
abbrev pub at_level : Level → List StripeFacts → ℕ
at_level l stripes = count_by (λ s. is_level l s.level) stripes

-- how many stripes have each level, by what is read of each
unfoldable pub level_lines : List StripeFacts → List ℕ
level_lines stripes =
    value_row (codes "whole") (decimal (at_level Whole stripes)) ++ value_row (codes "at_risk_margin_2") (decimal (at_level (AtRisk 2) stripes))
    ++ value_row (codes "at_risk_margin_1") (decimal (at_level (AtRisk 1) stripes)) ++ value_row (codes "at_risk_margin_0") (decimal (at_level (AtRisk 0) stripes))
    ++ value_row (codes "unavailable") (decimal (at_level Unavailable stripes)) ++ value_row (codes "lost") (decimal (at_level Lost stripes))

-- the rows on stripes, by what is read of each
unfoldable pub stripe_lines : List StripeFacts → List ℕ
stripe_lines stripes =
    value_row (codes "stripes") (decimal (length stripes)) ++ level_lines stripes ++ value_row (codes "missing_fragments") (decimal (sum_by (λ s. s.missing) stripes))
    ++ value_row (codes "homeless_fragments") (decimal (sum_by (λ s. s.homeless) stripes))

-- ---- nodes

-- what is read of a node
abbrev pub node_facts : State → NodeInfo → NodeFacts
node_facts st n = record {
  node = n;
  mode = mode_of st n.number;
  is_down = is_down st n.number;
  is_upgrading = is_upgrading st n;
  is_online = is_online st n;
  load = load st n.number;
}

-- the row of a node with this many homes, and this many targets of leases
abbrev pub node_line : NodeFacts → ℕ → ℕ → List ℕ
node_line n homes targets =
    table_line (decimal n.node.number.value ∷ decimal n.node.fault.value ∷ decimal n.node.upgrade.value ∷ mode_text n.mode ∷ online_text n.is_down
    ∷ online_text n.is_upgrading ∷ online_text n.is_online ∷ decimal homes ∷ decimal targets ∷ decimal n.load ∷ decimal n.node.slots ∷ [])

-- the row of a node, by what is read of it and all live leases
unfoldable pub facts_row : State → List Lease → NodeFacts → List ℕ
facts_row st leases n = node_line n (length (homes_on st n.node.number)) (count_by (λ l. same_node n.node.number l.target.node) leases)

-- the rows on leases and seats, by their number and what is read of each node
unfoldable pub seat_lines : ℕ → List NodeFacts → List ℕ
seat_lines leases nodes =
    value_row (codes "leases") (decimal leases) ++ value_row (codes "held_seats") (decimal (sum_by (λ n. n.load) nodes))
    ++ value_row (codes "slots") (decimal (sum_by (λ n. n.node.slots) nodes))

-- the rows on nodes, by what is read of each
unfoldable pub node_lines : List NodeFacts → List ℕ
node_lines nodes =
    value_row (codes "nodes_active") (decimal (count_by (λ n. is_active n.mode) nodes)) ++ value_row (codes "nodes_draining") (decimal (count_by (λ n. is_draining n.mode) nodes))
    ++ value_row (codes "nodes_gone") (decimal (count_by (λ n. is_gone n.mode) nodes)) ++ value_row (codes "nodes_down") (decimal (count_by (λ n. n.is_down) nodes))
    ++ value_row (codes "nodes_online") (decimal (count_by (λ n. n.is_online) nodes))

-- ---- capacity

-- what the choice of a seat reads of a node
abbrev pub room_in : NodeFacts → NodeRoom
room_in n = record { node = n.node; is_active = is_active n.mode; is_online = n.is_online; load = n.load }

-- ---- fragments

-- the fields of a fragment with its home on a node, by what is read of the node
abbrev pub facts_fields : NodeFacts → List (List ℕ)
facts_fields n =
    decimal n.node.fault.value ∷ decimal n.node.upgrade.value ∷ presence_word n.is_online ∷ mode_text n.mode ∷ why_words n.is_down n.is_upgrading ∷ []

-- ---- domains

-- how many of these leases have their target on one of the nodes
abbrev pub target_sum : List Lease → List NodeFacts → ℕ
target_sum leases ns = sum_by (λ n. count_by (λ l. same_node n.node.number l.target.node) leases) ns

-- the fields on nodes, by what is read of each and these leases, with a comma before each
unfoldable pub sum_line : State → List Lease → List NodeFacts → List ℕ
sum_line st leases ns =
    flat_map (λ f. codes "," ++ f) (decimal (length ns) ∷ decimal (count_by (λ n. n.is_online) ns) ∷ decimal (sum_by (λ n. length (homes_on st n.node.number)) ns)
    ∷ decimal (target_sum leases ns) ∷ decimal (sum_by (λ n. n.load) ns) ∷ decimal (sum_by (λ n. n.node.slots) ns) ∷ [])

-- how many stripes have this level then
abbrev pub outlook_count : Level → List Outlook → ℕ
outlook_count l rows = count_by (λ o. is_level l o.after) rows

-- how many of these stripes, none of which is whole then, have each level then
abbrev pub risk_fields : List Outlook → List (List ℕ)
risk_fields rows =
    decimal (outlook_count (AtRisk 2) rows) ∷ decimal (outlook_count (AtRisk 1) rows) ∷ decimal (outlook_count (AtRisk 0) rows)
    ∷ decimal (outlook_count Unavailable rows) ∷ decimal (outlook_count Lost rows) ∷ []

-- the last fields of a row, with a comma before each: so many stripes have a home in the domain; and how many of all stripes have
-- each level then, by the rows of those that are not whole
unfoldable pub outlook_line : ℕ → ℕ → List Outlook → List ℕ
outlook_line hit stripes rows = flat_map (λ f. codes "," ++ f) (decimal hit ∷ decimal (stripes - length rows) ∷ risk_fields rows)

-- the stripe is lost then, and not now
abbrev pub is_newly_lost : Outlook → Bool
is_newly_lost o = is_level Lost o.after && not (is_level Lost o.before)
