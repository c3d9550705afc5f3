use Rattle.std.proofs.Common.{rules, ◌≡◌, not, get_or, sym, ap, ◌∙◌}
use Rattle.lrc_terms.specs.Levels.{is_whole}
use Rattle.lrc_book.specs.Books.{state_of}
use Rattle.lrc_forecast.specs.declared.outlook.Outlook.{Outlook}
use Rattle.lrc_forecast.specs.Forecasts.{outlook}
use Rattle.lrc_forecast.proofs.RowLemmas.{row-hit, row-miss}
use Rattle.lrc_forecast.proofs.forecasts.forecast.Goals as goal
use Rattle.lrc_forecast.proofs.forecasts.forecast.Goals.{then-not-is_whole+in_ok-push, else-not-is_whole}

pub loop-stripe-preserved : goal.loop-stripe-preserved
loop-stripe-preserved c =
    let nodes = c.args.book.now.nodes in
    let st = state_of c.args.book.now in
    let outage = c.args.outage in
    let ns = c.args.nodes.now in
    let stripes = c.as_slice-stripe-items.result.now in
    let i = c.loop-stripe.stripe-index in
    let d = c.stripe-item.result in
    let o = c.outlook_of-outlook.result in
    let item : d ≡ get_or stripes i d = search rules in
    let is : o ≡ outlook nodes st outage ns (get_or stripes i d) =
    c.outlook_of-outlook.ensures ns c.set_of-hit_nodes.ensures.each ∙ ap (outlook nodes st outage ns) item in
    let whole = ap (λ (x : Outlook). is_whole x.after) (sym is) ∙ sym c.is_whole.ensures in
    elim c.if-not-is_whole.branch [
      | then-not-is_whole+in_ok-push w ↦
          ap (λ v. v.items) w.rows-is ∙ w.in_ok-push.ensures.items
          ∙ row-hit nodes st outage ns stripes i d c.loop-stripe-test.true c.loop-stripe.rows.items c.loop-stripe.invariant o is (ap not (whole ∙ w.if-not-is_whole.true))
      | else-not-is_whole w ↦
          ap (λ v. v.items) w.rows-is
          ∙ row-miss nodes st outage ns stripes i d c.loop-stripe-test.true c.loop-stripe.rows.items c.loop-stripe.invariant o is (ap not (whole ∙ w.if-not-is_whole.false))
    ]
