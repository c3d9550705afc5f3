use Rattle.std.proofs.Common.{map, ap, ◌∙◌}
use Rattle.std.proofs.lemmas.List.{take_all}
use Rattle.lrc_book.specs.Books.{state_of}
use Rattle.lrc_show.specs.Facts.{room_in}
use Rattle.lrc_show.proofs.CapacityRowLemmas.{rooms-told}
use Rattle.lrc_show.proofs.capacity.rooms_of.Goals as goal

pub returns-clause-value : goal.returns-clause-value
returns-clause-value c =
    let items = c.as_slice-node-items.result.now in
    c.loop-node.invariant ∙ ap (map room_in) (take_all c.loop-node.node-index items c.loop-node-test.false ∙ c.as_slice-node-items.ensures.value)
    ∙ rooms-told (state_of c.args.book.now) c.args.book.now.nodes c.in_ok-nodes.nodes.items c.in_ok-nodes.ensures.value
