use Rattle.std.proofs.Common.{rules, ◌≡◌, codes, string_bytes}
use Rattle.lrc_rules.specs.Urgency.{work}
use Rattle.lrc_book.specs.Books.{state_of}
use Rattle.lrc_show.specs.Listed.{work_rows}
use Rattle.lrc_show.proofs.ListLemmas.{table-all}
use Rattle.lrc_show.proofs.WorkLemmas.{stripe-more}
use Rattle.lrc_show.proofs.work.push_work.Goals as goal

pub loop-stripe-preserved : goal.loop-stripe-preserved
loop-stripe-preserved c =
    let nodes = c.args.book.now.nodes in
    let st = state_of c.args.book.now in
    let items = c.as_slice-stripe-items.result.now in
    let all : items ≡ work nodes st = search rules in
    stripe-more nodes st items all c.loop-stripe.stripe-index c.stripe-item.result c.loop-stripe-test.true c.stripe-item.is _ (string_bytes c.loop-stripe.out) _
    c.loop-stripe.invariant c.in_ok-push_stripe_work.ensures

pub returns-clause-text : goal.returns-clause-text
returns-clause-text c =
    let nodes = c.args.book.now.nodes in
    let st = state_of c.args.book.now in
    let items = c.as_slice-stripe-items.result.now in
    let all : items ≡ work nodes st = search rules in
    table-all (work_rows nodes st) items (work nodes st) c.loop-stripe.stripe-index (codes "stripe,fragment,kind,sources,reads,standing,holder,epoch\n") (string_bytes c.args.out.now) _
    (string_bytes c.loop-stripe.out) c.loop-stripe-test.false c.loop-stripe.invariant c.in_ok-push_str.ensures.bytes all
