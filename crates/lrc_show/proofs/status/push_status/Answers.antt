use Rattle.std.proofs.Common.{rules, ◌≡◌, ◌+◌, length, map, string_bytes, ap, arith}
use Rattle.lrc_book.specs.Books.{state_of}
use Rattle.lrc_book.specs.Looks.{stripes_of}
use Rattle.lrc_show.specs.Listed.{all_leases}
use Rattle.lrc_show.specs.Facts.{stripe_facts, node_facts}
use Rattle.lrc_show.proofs.StatusLemmas.{few-facts, status-told}
use Rattle.lrc_show.proofs.status.push_status.Goals as goal

pub push_stripe_values-requires : goal.push_stripe_values-requires
push_stripe_values-requires c =
    let nodes = c.args.book.now.nodes in
    let st = state_of c.args.book.now in
    let are : c.as_slice.result.now ≡ map (stripe_facts nodes st) (stripes_of st) = search rules in
    record { few = few-facts nodes st c.as_slice.result.now are }

pub returns-clause-text : goal.returns-clause-text
returns-clause-text c =
    let nodes = c.args.book.now.nodes in
    let st = state_of c.args.book.now in
    let entries = c.args.book.now.before + length c.args.book.now.history in
    let stripes-are : c.as_slice.result.now ≡ map (stripe_facts nodes st) (stripes_of st) = search rules in
    let facts-are : c.as_slice-2.result.now ≡ map (node_facts st) nodes = search rules in
    let others-are : c.as_slice-3.result.now ≡ map (node_facts st) nodes = search rules in
    let all = ap length c.in_ok-leases_of.ensures.value in
    let leases-are : c.len-leases.result ≡ length (all_leases st) = omega (arith, all, c.len-leases.ensures, c.in_ok-leases_of.field-0.ok.0) in
    status-told nodes st c.as_slice.result.now c.as_slice-2.result.now c.as_slice-3.result.now c.len-leases.result entries stripes-are facts-are others-are leases-are
    (string_bytes c.args.out.now) (string_bytes c.push_str.new.self) (string_bytes c.push_stripe_values.new.out) (string_bytes c.push_seat_values.new.out)
    (string_bytes c.push_node_values.new.out) (string_bytes c.push_time_values.new.out) c.in_ok-push_str.ensures.bytes c.in_ok-push_stripe_values.ensures
    c.in_ok-push_seat_values.ensures c.in_ok-push_node_values.ensures c.in_ok-push_time_values.ensures
