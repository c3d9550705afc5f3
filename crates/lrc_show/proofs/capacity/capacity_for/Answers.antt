use Rattle.std.proofs.Common.{◌≡◌, ◌-◌, length, arith, ◌∙◌}
use Rattle.lrc_book.specs.Books.{state_of}
use Rattle.lrc_show.specs.CapacityRows.{unused, capacity_for}
use Rattle.lrc_show.proofs.CapacityRowLemmas.{unused-is, unused-count}
use Rattle.lrc_show.proofs.capacity.capacity_for.Goals as goal

pub overflow_sub-unused : goal.overflow_sub-unused
overflow_sub-unused c =
    let stripes = c.in_ok-stripes.field-0 in
    let count = unused-count (state_of c.args.book.now) stripes.items c.in_ok-stripes.ensures.value in
    omega (arith, count, stripes.ok.0, c.len-unused.ensures)

pub returns-clause-value : goal.returns-clause-value
unfolding capacity_for
returns-clause-value c =
    let nodes = c.args.book.now.nodes in
    let st = state_of c.args.book.now in
    let stripes = c.in_ok-stripes.field-0 in
    let count = unused-count st stripes.items c.in_ok-stripes.ensures.value in
    let long : length (unused st) ≡ 4096 - c.len-unused.result = omega (arith, count, stripes.ok.0, c.len-unused.ensures) in
    c.in_ok-capacity_of.ensures nodes st (unused st) c.history.ensures.nodes c.history.ensures.good.seated
    (c.as_mut_slice.ensures.value ∙ c.in_ok-rooms.ensures.value) (unused-is st) long
