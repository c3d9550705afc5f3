-- What `lrcman show` prints of a state: the table that is asked for. What is printed of a forecast.
use Rattle.std.specs.Prelude.{ℕ, Bool, false, List, [], ◌∷◌, ◌++◌, codes, decimal, flat_map, Option, Some, None}
use Rattle.lrc_code.specs.Codes.{code_name}
use Rattle.lrc_code.specs.Losses.{bits_set}
use Rattle.lrc_topology.specs.declared.NodeInfo.{NodeInfo}
use Rattle.lrc_terms.specs.declared.level.Level.{Level}
use Rattle.lrc_terms.specs.declared.level.Level.TheVariants.{Whole, AtRisk, Unavailable, Lost}
use Rattle.lrc_rules.specs.States.{State}
use Rattle.lrc_rules.specs.Repairs.{kind}
use Rattle.lrc_forecast.specs.declared.outlook.Outlook.{Outlook}
use Rattle.lrc_forecast.specs.Forecasts.{is_harmed}
use Rattle.lrc_text.specs.Tables.{table_line, level_text, margin_field, online_text}
use Rattle.lrc_show.specs.declared.view.View.{View}
use Rattle.lrc_show.specs.declared.view.View.TheVariants as view
use Rattle.lrc_show.specs.Listed.{hex_field, fragments_field, members_of, stripes_table, leases_table, nodes_table, work_table, fragments_table}
use Rattle.lrc_show.specs.Summed.{status_table, domains_table}
use Rattle.lrc_show.specs.CapacityRows.{capacity_table}
use Rattle.lrc_show.specs.Reasons.{health_table, is_in_danger}

-- ---- forecasts

-- how many more losses a stripe of the level survives, whichever fragments are lost
abbrev pub margin_at : Level → Option ℕ
margin_at Whole = Some 3
margin_at (AtRisk margin) = Some margin
margin_at Unavailable = None
margin_at Lost = None

-- the row of a stripe
unfoldable pub forecast_row : Outlook → List ℕ
forecast_row o =
    table_line (decimal o.stripe.value ∷ code_name o.code ∷ level_text o.before ∷ margin_field (margin_at o.before) ∷ level_text o.after ∷ margin_field (margin_at o.after)
    ∷ hex_field o.missing.bits ∷ fragments_field (members_of o.code (bits_set o.missing.bits)) ∷ decimal o.leases_ended ∷ online_text (is_harmed o) ∷ [])

-- a row for each stripe
abbrev pub forecast_text : List Outlook → List ℕ
forecast_text rows =
    codes "stripe,code,level_before,margin_before,level_after,margin_after,missing_after,missing_fragments_after,leases_ended,harmed\n" ++ flat_map forecast_row rows

-- ---- the table that is asked for

abbrev pub view_text : View → List NodeInfo → State → ℕ → List ℕ
view_text view.Status nodes st entries = status_table nodes st entries
view_text view.Stripes nodes st entries = stripes_table nodes st
view_text view.Nodes nodes st entries = nodes_table nodes st
view_text view.Leases nodes st entries = leases_table st
view_text view.Work nodes st entries = work_table nodes st
view_text view.Fragments nodes st entries = fragments_table nodes st
view_text (view.Domains kind) nodes st entries = domains_table nodes st kind
view_text view.Health nodes st entries = health_table nodes st
view_text view.Capacity nodes st entries = capacity_table nodes st

-- the table tells of danger
abbrev pub tells_danger : View → List NodeInfo → State → Bool
tells_danger view.Health nodes st = is_in_danger nodes st
tells_danger _ nodes st = false
