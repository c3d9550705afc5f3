use Rattle.std.proofs.Common.{ap, ◌∙◌}
use Rattle.lrc_show.specs.Shown.{forecast_text}
use Rattle.lrc_walks.specs.Outages.{outlooks_of}
use Rattle.lrc_embed.proofs.PrintedLemmas.{put_other}
use Rattle.lrc_embed.proofs.exports.tables.put_forecast_table.Goals as goal

pub returns-clause-done : goal.returns-clause-done
returns-clause-done c = λ done. put_other (forecast_text (outlooks_of c.args.book.now c.args.outage c.args.nodes.now)) c.as_slice-3.result.now
    c.args.text.now c.put_text.new.text c.put_text.new.needed
    (c.as_slice-3.ensures.value ∙ c.in-Ok-shown_forecast.ensures.text ∙ ap forecast_text (c.as_slice.ensures.value ∙ c.in-Ok.ensures.value))
    (c.put_text.ensures.needed, c.put_text.ensures.done done)
