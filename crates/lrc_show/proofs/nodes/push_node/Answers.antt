use Rattle.std.proofs.Common.{◌≡◌, length, string_bytes, ap, arith}
use Rattle.lrc_book.specs.Looks.{homes_on}
use Rattle.lrc_book.specs.Books.{state_of}
use Rattle.lrc_show.proofs.NodeLemmas.{row-told}
use Rattle.lrc_show.proofs.nodes.push_node.Goals as goal

pub returns-clause-text : goal.returns-clause-text
returns-clause-text c =
    let st = state_of c.args.book.now in
    let number = c.args.node.now.node.number in
    let all = ap length c.in_ok-homes_on.ensures.value in
    let homed : c.len-homes.result ≡ length (homes_on st number) = omega (arith, all, c.len-homes.ensures, c.in_ok-homes_on.field-0.ok.0) in
    row-told st c.args.leases.now c.args.node.now c.len-homes.result c.count_targets-targets.result (string_bytes c.args.out.now) (string_bytes c.push_node_line.new.out)
    c.in_ok-push_node_line.ensures homed c.count_targets-targets.ensures
