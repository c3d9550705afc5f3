use Rattle.std.proofs.Common.{rules, ◌≡◌, codes, string_bytes}
use Rattle.lrc_book.specs.Books.{state_of}
use Rattle.lrc_book.specs.Looks.{stripes_of}
use Rattle.lrc_show.specs.Listed.{fragment_rows}
use Rattle.lrc_show.proofs.ListLemmas.{table-all}
use Rattle.lrc_show.proofs.fragments.push_fragment_table.Goals as goal

pub returns-clause-text : goal.returns-clause-text
returns-clause-text c =
    let nodes = c.args.book.now.nodes in
    let st = state_of c.args.book.now in
    let items = c.as_slice-stripe-items.result.now in
    let all : items ≡ stripes_of st = search rules in
    table-all (fragment_rows nodes st) items (stripes_of st) c.loop-stripe.stripe-index (codes "stripe,fragment,node,slot,fault,upgrade,state,mode,why,target,holder,epoch,expiry\n")
    (string_bytes c.args.out.now) _ (string_bytes c.loop-stripe.out) c.loop-stripe-test.false c.loop-stripe.invariant c.in_ok-push_str.ensures.bytes all
