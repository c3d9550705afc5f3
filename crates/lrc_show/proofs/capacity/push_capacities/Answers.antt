use Rattle.std.specs.Prelude.{string_bytes}
use Rattle.lrc_book.specs.Books.{state_of}
use Rattle.lrc_show.proofs.CapacityRowLemmas.{table-told}
use Rattle.lrc_show.proofs.capacity.push_capacities.Goals as goal

pub returns-clause-text : goal.returns-clause-text
returns-clause-text c =
    table-told c.args.book.now.nodes (state_of c.args.book.now) c.in_ok-wide.wide c.in_ok-narrow.narrow (string_bytes c.args.out.now) (string_bytes c.push_str.new.self)
    (string_bytes c.push_capacity.new.out) (string_bytes c.push_capacity-2.new.out) c.in_ok-wide.ensures.value c.in_ok-narrow.ensures.value
    c.in_ok-push_str.ensures.bytes c.in_ok-push_capacity.ensures c.in_ok-push_capacity-2.ensures
