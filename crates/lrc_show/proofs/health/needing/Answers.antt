use Rattle.std.proofs.Common.{rules, ◌≡◌, ap, ◌∙◌}
use Rattle.std.specs.Prelude.{flat_map}
use Rattle.std.proofs.lemmas.List.{take_all}
use Rattle.lrc_rules.specs.Urgency.{work}
use Rattle.lrc_book.specs.Books.{state_of}
use Rattle.lrc_show.specs.Reasons.{needing_of}
use Rattle.lrc_show.proofs.HealthLemmas.{needs-more}
use Rattle.lrc_show.proofs.health.needing.Goals as goal

pub loop-stripe-preserved : goal.loop-stripe-preserved
loop-stripe-preserved c =
    let nodes = c.args.book.now.nodes in
    let st = state_of c.args.book.now in
    let items = c.as_slice-stripe-items.result.now in
    let all : items ≡ work nodes st = search rules in
    needs-more nodes st items all c.loop-stripe.stripe-index c.stripe-item.result c.loop-stripe-test.true c.stripe-item.is c.loop-stripe.rows.items _
    c.loop-stripe.invariant c.in_ok-gather_needing.ensures.value

pub returns-clause-value : goal.returns-clause-value
returns-clause-value c =
    let nodes = c.args.book.now.nodes in
    let st = state_of c.args.book.now in
    let items = c.as_slice-stripe-items.result.now in
    let all : items ≡ work nodes st = search rules in
    c.loop-stripe.invariant ∙ ap (flat_map (needing_of nodes st)) (take_all c.loop-stripe.stripe-index items c.loop-stripe-test.false ∙ all)
