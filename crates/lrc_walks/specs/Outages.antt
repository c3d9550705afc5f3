-- What C asks and is told of an outage of nodes.
use Rattle.std.specs.Prelude.{ℕ, Bool, if◌then◌else◌, nat_eq, List, map, Option, Some, None, is_some}
use Rattle.std.specs.List.{list_all}
use Rattle.lrc_topology.specs.Nodes.{node_at}
use Rattle.lrc_images.specs.Rows.{node_no}
use Rattle.lrc_book.specs.Books.{BookView, state_of}
use Rattle.lrc_forecast.specs.declared.outlook.Outage.{Outage}
use Rattle.lrc_forecast.specs.declared.outlook.Outage.TheVariants.{Stop, Lose}
use Rattle.lrc_forecast.specs.declared.outlook.Outlook.{Outlook}
use Rattle.lrc_forecast.specs.Forecasts.{forecast, is_harmed}
use Rattle.lrc_records.specs.declared.outlook.LrcOutlook.{LrcOutlook}
use Rattle.lrc_records.specs.Shown.{encoded_outlook}

-- the outage of a number
abbrev pub outage_of : ℕ → Option Outage
outage_of number = if nat_eq number 1 then Some Stop else (if nat_eq number 2 then Some Lose else None)

-- the store has all these nodes
abbrev pub are_nodes : BookView → List ℕ → Bool
are_nodes b nodes = list_all (λ n. is_some (node_at b.nodes (node_no n))) nodes

-- what becomes of the stripes if this happens to these nodes
abbrev pub outlooks_of : BookView → Outage → List ℕ → List Outlook
outlooks_of b outage nodes = forecast b.nodes (state_of b) outage (map node_no nodes)

-- the row of an outlook
abbrev pub outlook_row : Outlook → LrcOutlook
outlook_row o = encoded_outlook o.stripe o.code o.missing o.newly_missing (is_harmed o) o.leases_ended (o.before, o.after)
