use Rattle.std.proofs.Common.{rules, ◌≡◌, ℕ, ◌∷◌, [], ◌++◌, decimal, length, filter, string_bytes, ap, ◌∙◌, arith}
use Rattle.std.specs.Prelude.{count_by}
use Rattle.lrc_book.specs.Books.{state_of}
use Rattle.lrc_book.specs.Looks.{stripes_of}
use Rattle.lrc_forecast.specs.Forecasts.{forecast}
use Rattle.lrc_groups.specs.Groups.{numbers_in}
use Rattle.lrc_show.specs.declared.nodes.NodeFacts.{NodeFacts}
use Rattle.lrc_show.specs.Listed.{all_leases}
use Rattle.lrc_show.specs.Summed.{is_among, is_hit}
use Rattle.lrc_show.proofs.DomainLemmas.{few-kept, fewer-rows, members-told, domain-told}
use Rattle.lrc_show.proofs.domains.push_domain.Goals as goal

pub push_sums-requires : goal.push_sums-requires
push_sums-requires c =
    let are : c.as_slice-3.result.now ≡ filter (λ (n : NodeFacts). is_among c.args.domain n.node) c.args.nodes.now = search rules in
    record { few = few-kept (λ (n : NodeFacts). is_among c.args.domain n.node) c.args.nodes.now c.as_slice-3.result.now 512 are c.requires.few }

pub push_outlooks-requires : goal.push_outlooks-requires
push_outlooks-requires c =
    let nodes = c.args.book.now.nodes in
    let st = state_of c.args.book.now in
    let numbers = c.as_slice-2.result.now in
    let rows : c.as_slice-4.result.now ≡ forecast nodes st c.args.outage numbers = search rules in
    let long : c.len.result ≡ length (stripes_of st) = search rules in
    let fewer = fewer-rows nodes st c.args.outage numbers (stripes_of st) in
    let as_long = ap length rows in record { fewer = omega (arith, fewer, as_long, long) }

pub returns-clause-text : goal.returns-clause-text
returns-clause-text c =
    let nodes = c.args.book.now.nodes in
    let st = state_of c.args.book.now in
    let d = c.args.domain in
    let members = c.as_slice-3.result.now in
    let numbers = c.as_slice-2.result.now in
    let picked : members ≡ filter (λ (n : NodeFacts). is_among d n.node) c.args.nodes.now = search rules in
    let named : numbers ≡ numbers_in nodes (d ∷ []) = search rules in
    let rows : c.as_slice-4.result.now ≡ forecast nodes st c.args.outage numbers = search rules in
    let long : c.len.result ≡ length (stripes_of st) = search rules in
    let all : c.args.leases.now ≡ all_leases st = c.requires.leases in
    let hits : c.in_ok-hit.hit ≡ count_by (is_hit st numbers) (stripes_of st) = search rules in
    domain-told nodes st c.args.outage d c.args.leases.now members numbers c.in_ok-hit.hit c.len.result c.as_slice-4.result.now (string_bytes c.args.out.now)
    (string_bytes c.write.new.self) (string_bytes c.push_sums.new.out) (string_bytes c.push_outlooks.new.out) _ all (picked ∙ members-told nodes st d c.args.nodes.now c.requires.nodes)
    named hits long rows (c.in_ok-write.ensures.bytes ∙ ap (λ (n : ℕ). string_bytes c.args.out.now ++ decimal n) c.shown_number-number.ensures)
    c.in_ok-push_sums.ensures.text c.in_ok-push_outlooks.ensures c.in_ok-push_str.ensures.bytes
