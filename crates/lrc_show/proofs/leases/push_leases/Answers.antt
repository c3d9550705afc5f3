use Rattle.std.proofs.Common.{rules, ◌≡◌, codes, string_bytes}
use Rattle.lrc_book.specs.Books.{state_of}
use Rattle.lrc_show.specs.Listed.{shown_lease, all_leases}
use Rattle.lrc_show.proofs.ListLemmas.{table-all}
use Rattle.lrc_show.proofs.leases.push_leases.Goals as goal

pub returns-clause-text : goal.returns-clause-text
returns-clause-text c =
    let st = state_of c.args.book.now in
    let items = c.as_slice-lease-items.result.now in
    let all : items ≡ all_leases st = search rules in
    table-all shown_lease items (all_leases st) c.loop-lease.lease-index (codes "stripe,fragment,holder,target,epoch,expiry\n") (string_bytes c.args.out.now) _ (string_bytes c.loop-lease.out)
    c.loop-lease-test.false c.loop-lease.invariant c.in_ok-push_str.ensures.bytes all
