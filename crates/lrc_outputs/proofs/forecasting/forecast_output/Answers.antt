use Rattle.std.proofs.Common.{◌≡◌, List, ap, ◌∙◌}
use Rattle.lrc_code.specs.declared.numbers.NodeNo.{NodeNo}
use Rattle.lrc_topology.specs.declared.NodeInfo.{NodeInfo}
use Rattle.lrc_book.specs.Books.{state_of}
use Rattle.lrc_forecast.specs.Forecasts.{forecast, harms_none}
use Rattle.lrc_groups.specs.Groups.{numbers_in}
use Rattle.lrc_show.specs.Shown.{forecast_text}
use Rattle.lrc_outputs.specs.Sequels.{safety_status, forecast_of}
use Rattle.lrc_outputs.proofs.forecasting.forecast_output.Goals as goal

pub returns-clause-output : goal.returns-clause-output
returns-clause-output c =
    let book = c.args.book.now in
    let named = c.args.named.now in
    let numbers = c.as_slice.ensures.value ∙ c.in_ok-nodes.ensures ∙ ap (λ (nodes : List NodeInfo). numbers_in nodes named) c.topology.ensures in
    let rows : c.in_ok-rows.rows.items ≡ forecast_of c.args.outage named book =
    c.in_ok-rows.ensures.value ∙ ap (λ (ns : List NodeNo). forecast book.nodes (state_of book) c.args.outage ns) numbers in (
      c.answer.ensures.text ∙ c.in_ok-text.ensures.text ∙ ap forecast_text (c.as_slice-2.ensures.value ∙ rows),
      c.answer.ensures.status ∙ c.safety_status-status.ensures.status ∙ ap safety_status (c.is_safe.ensures ∙ ap harms_none (c.as_slice-3.ensures.value ∙ rows)),
    )
