-- The summary that `lrcman show` prints, and its tables of domains.
use Rattle.std.specs.Prelude.{ℕ, Bool, true, false, nat_eq, List, [], ◌∷◌, ◌++◌, codes, decimal, length, map, filter, flat_map, count_by, sum_by, Option, Some, None}
use Rattle.std.specs.List.{list_any, range_with_len}
use Rattle.lrc_code.specs.declared.numbers.StripeNo.{StripeNo}
use Rattle.lrc_code.specs.declared.numbers.NodeNo.{NodeNo}
use Rattle.lrc_code.specs.declared.numbers.UpgradeNo.{UpgradeNo}
use Rattle.lrc_code.specs.Numbers.{same_node, same_fault, same_upgrade}
use Rattle.lrc_code.specs.Codes.{all_fragments}
use Rattle.lrc_code.specs.Losses.{size_of}
use Rattle.lrc_topology.specs.declared.NodeInfo.{NodeInfo}
use Rattle.lrc_terms.specs.declared.level.Level.{Level}
use Rattle.lrc_terms.specs.declared.level.Level.TheVariants.{Whole, AtRisk, Unavailable, Lost}
use Rattle.lrc_terms.specs.Levels.{homes_of}
use Rattle.lrc_terms.specs.Modes.{is_active, is_draining, is_gone}
use Rattle.lrc_rules.specs.States.{State, code_of, load, mode_of, is_down, is_online, homeless, missing, level}
use Rattle.lrc_rules.specs.Repairs.{kind}
use Rattle.lrc_book.specs.Looks.{stripes_of, homes_on}
use Rattle.lrc_forecast.specs.declared.outlook.Outage.{Outage}
use Rattle.lrc_forecast.specs.declared.outlook.Outage.TheVariants.{Stop, Lose}
use Rattle.lrc_forecast.specs.Forecasts.{state_with, is_on_any}
use Rattle.lrc_groups.specs.declared.named.Named.{Named}
use Rattle.lrc_groups.specs.declared.named.Named.TheVariants as named
use Rattle.lrc_groups.specs.Groups.{has_named, numbers_in}
use Rattle.lrc_text.specs.Tables.{table_line}
use Rattle.lrc_show.specs.declared.domains.DomainKind.{DomainKind}
use Rattle.lrc_show.specs.declared.domains.DomainKind.TheVariants as domain
use Rattle.lrc_show.specs.Listed.{all_leases, target_count}

-- ---- status

-- the levels are the same
abbrev pub is_level : Level → Level → Bool
is_level Whole Whole = true
is_level (AtRisk m) (AtRisk n) = nat_eq m n
is_level Unavailable Unavailable = true
is_level Lost Lost = true
is_level _ _ = false

-- how many stripes have this level
abbrev pub level_count : List NodeInfo → State → Level → ℕ
level_count nodes st l = count_by (λ s. is_level l (level nodes st s)) (stripes_of st)

-- how many fragments have no home
abbrev pub homeless_count : State → ℕ
homeless_count st = sum_by (λ s. size_of (code_of st s) (homeless st s)) (stripes_of st)

-- how many fragments are missing
abbrev pub missing_count : List NodeInfo → State → ℕ
missing_count nodes st = sum_by (λ s. size_of (code_of st s) (missing nodes st s)) (stripes_of st)

-- the domain that is upgrading
abbrev pub domain_field : Option UpgradeNo → List ℕ
domain_field (Some u) = decimal u.value
domain_field None = codes "none"

-- a row of a name and a value
abbrev pub value_row : List ℕ → List ℕ → List ℕ
value_row name value = table_line (name ∷ value ∷ [])

-- how many stripes have each level
unfoldable pub level_values : List NodeInfo → State → List ℕ
level_values nodes st =
    value_row (codes "whole") (decimal (level_count nodes st Whole)) ++ value_row (codes "at_risk_margin_2") (decimal (level_count nodes st (AtRisk 2)))
    ++ value_row (codes "at_risk_margin_1") (decimal (level_count nodes st (AtRisk 1))) ++ value_row (codes "at_risk_margin_0") (decimal (level_count nodes st (AtRisk 0)))
    ++ value_row (codes "unavailable") (decimal (level_count nodes st Unavailable)) ++ value_row (codes "lost") (decimal (level_count nodes st Lost))

-- the rows on stripes. A fragment that is missing has no home, or one on a node that is offline.
unfoldable pub stripe_values : List NodeInfo → State → List ℕ
stripe_values nodes st =
    value_row (codes "stripes") (decimal (length (stripes_of st))) ++ level_values nodes st ++ value_row (codes "missing_fragments") (decimal (missing_count nodes st))
    ++ value_row (codes "homeless_fragments") (decimal (homeless_count st))

-- the rows on leases and seats
unfoldable pub seat_values : List NodeInfo → State → List ℕ
seat_values nodes st =
    value_row (codes "leases") (decimal (length (all_leases st))) ++ value_row (codes "held_seats") (decimal (sum_by (λ n. load st n.number) nodes))
    ++ value_row (codes "slots") (decimal (sum_by (λ n. n.slots) nodes))

-- the rows on nodes
unfoldable pub node_values : List NodeInfo → State → List ℕ
node_values nodes st =
    value_row (codes "nodes_active") (decimal (count_by (λ n. is_active (mode_of st n.number)) nodes))
    ++ value_row (codes "nodes_draining") (decimal (count_by (λ n. is_draining (mode_of st n.number)) nodes))
    ++ value_row (codes "nodes_gone") (decimal (count_by (λ n. is_gone (mode_of st n.number)) nodes))
    ++ value_row (codes "nodes_down") (decimal (count_by (λ n. is_down st n.number) nodes))
    ++ value_row (codes "nodes_online") (decimal (count_by (is_online st) nodes))

-- the upgrading domain, the clock, and the number of entries of the store
abbrev pub time_values : State → ℕ → List ℕ
time_values st entries = value_row (codes "upgrading") (domain_field st.upgrading) ++ value_row (codes "clock") (decimal st.clock) ++ value_row (codes "entries") (decimal entries)

-- the summary
abbrev pub status_table : List NodeInfo → State → ℕ → List ℕ
status_table nodes st entries = codes "name,value\n" ++ stripe_values nodes st ++ seat_values nodes st ++ node_values nodes st ++ time_values st entries

-- ---- domains

-- the domain of this kind and number
abbrev pub domain_at : DomainKind → ℕ → Named
domain_at domain.Fault number = named.Fault (record { value = number })
domain_at domain.Upgrade number = named.Upgrade (record { value = number })

-- the domains of a kind that have a node, in rising order
unfoldable pub all_domains : List NodeInfo → DomainKind → List Named
all_domains nodes kind = filter (has_named nodes) (map (domain_at kind) (range_with_len 0 256))

-- what the forecast of a domain is of: a fault domain is lost, an upgrade domain stops
abbrev pub outage_for : DomainKind → Outage
outage_for domain.Fault = Lose
outage_for domain.Upgrade = Stop

-- the number of a domain, or of a node
abbrev pub shown_number : Named → ℕ
shown_number (named.Node n) = n.value
shown_number (named.Fault d) = d.value
shown_number (named.Upgrade u) = u.value

-- the node is the one that is named, or is in the domain
abbrev pub is_among : Named → NodeInfo → Bool
is_among (named.Node m) n = same_node n.number m
is_among (named.Fault d) n = same_fault n.fault d
is_among (named.Upgrade u) n = same_upgrade n.upgrade u

-- the stripe has a home on one of the nodes
abbrev pub is_hit : State → List NodeNo → StripeNo → Bool
is_hit st ns s = list_any (λ f. is_on_any ns (homes_of st.homes s f.value)) all_fragments

-- the state with the outage of all that are named
abbrev pub state_without : List NodeInfo → State → Outage → Named → State
state_without nodes st outage d = state_with outage st (numbers_in nodes (d ∷ []))

-- how many of the stripes of the store have this level in another state
abbrev pub level_count_in : List NodeInfo → State → State → Level → ℕ
level_count_in nodes st after l = count_by (λ s. is_level l (level nodes after s)) (stripes_of st)

-- how many of them have each level then
abbrev pub level_fields : List NodeInfo → State → State → List (List ℕ)
level_fields nodes st after =
    decimal (level_count_in nodes st after Whole) ∷ decimal (level_count_in nodes st after (AtRisk 2)) ∷ decimal (level_count_in nodes st after (AtRisk 1))
    ∷ decimal (level_count_in nodes st after (AtRisk 0)) ∷ decimal (level_count_in nodes st after Unavailable) ∷ decimal (level_count_in nodes st after Lost) ∷ []

-- the fields on these nodes: how many they are, and how many online; the homes, the targets of live leases, all held seats; the slots
abbrev pub sum_fields : State → List NodeInfo → List (List ℕ)
sum_fields st ns =
    decimal (length ns) ∷ decimal (count_by (is_online st) ns) ∷ decimal (sum_by (λ n. length (homes_on st n.number)) ns)
    ∷ decimal (sum_by (λ n. target_count st n.number) ns) ∷ decimal (sum_by (λ n. load st n.number) ns) ∷ decimal (sum_by (λ n. n.slots) ns) ∷ []

-- the row of a domain: its nodes; how many stripes have a home there; and the levels after the outage of all its nodes
unfoldable pub shown_domain : List NodeInfo → State → Outage → Named → List ℕ
shown_domain nodes st outage d =
    table_line (decimal (shown_number d) ∷ sum_fields st (filter (is_among d) nodes)
    ++ (decimal (count_by (is_hit st (numbers_in nodes (d ∷ []))) (stripes_of st)) ∷ level_fields nodes st (state_without nodes st outage d)))

-- a row for each domain of a kind
abbrev pub domains_table : List NodeInfo → State → DomainKind → List ℕ
domains_table nodes st kind =
    codes "domain,nodes,online,homes,targets,load,slots,stripes,whole,at_risk_margin_2,at_risk_margin_1,at_risk_margin_0,unavailable,lost\n"
    ++ flat_map (shown_domain nodes st (outage_for kind)) (all_domains nodes kind)
