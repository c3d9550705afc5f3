use Rattle.std.proofs.Common.{rules, ◌≡◌, ◌∷◌, [], ap, ◌∙◌}
use Rattle.std.specs.List.{list_any}
use Rattle.lrc_book.specs.Books.{state_of}
use Rattle.lrc_book.specs.Looks.{stripes_of}
use Rattle.lrc_forecast.specs.declared.outlook.Outage.TheVariants.{Lose}
use Rattle.lrc_forecast.specs.Forecasts.{forecast}
use Rattle.lrc_groups.specs.Groups.{numbers_in}
use Rattle.lrc_show.specs.Facts.{is_newly_lost}
use Rattle.lrc_show.proofs.HealthLemmas.{lost-told}
use Rattle.lrc_show.proofs.health.loses_stripe.Goals as goal

pub returns-clause-value : goal.returns-clause-value
returns-clause-value c =
    let nodes = c.args.book.now.nodes in
    let st = state_of c.args.book.now in
    let d = c.args.domain in
    let rows : c.as_slice-2.result.now ≡ forecast nodes st Lose (numbers_in nodes (d ∷ [])) = search rules in
    c.is_any_lost.ensures ∙ ap (list_any is_newly_lost) rows ∙ lost-told nodes st Lose (numbers_in nodes (d ∷ [])) (stripes_of st)
