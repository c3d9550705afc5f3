use Rattle.std.proofs.Common.{sym, subst, ◌∙◌}
use Rattle.lrc_book.specs.Books.{BookView}
use Rattle.lrc_show.specs.Shown.{forecast_text}
use Rattle.lrc_walks.specs.Outages.{outlooks_of}
use Rattle.lrc_embed.specs.Printed.{IsTextPut}
use Rattle.lrc_embed.proofs.OfLemmas.{of_some}
use Rattle.lrc_embed.proofs.exports.tables.lrc_embed_forecast_table.Goals as goal

pub returns-clause-done : goal.returns-clause-done
returns-clause-done c = λ done. of_some _ c.in-Some-take.ensures.book (
  c.in-Some.outage,
  sym c.outage_numbered.ensures ∙ c.in-Some.is,
  subst (λ (b : BookView). IsTextPut (forecast_text (outlooks_of b c.in-Some.outage c.args.nodes.now)) c.args.text.now c.put_forecast_table-status.new.text c.put_forecast_table-status.new.length)
      c.deref.ensures (c.put_forecast_table-status.ensures.done done),
)
