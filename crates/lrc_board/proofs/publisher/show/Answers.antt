use Rattle.std.proofs.Common.{◌≡◌, sym, ap, ◌∙◌, subst}
use Rattle.lrc_board.specs.Views.{BoardView, IsBoard}
use Rattle.lrc_board.specs.Refreshed.{both_changes, renewed}
use Rattle.lrc_board.proofs.publisher.show.Goals as goal

pub show_as-requires : goal.show_as-requires
show_as-requires g c views shown at =
    let n = g.N.ViewNaming in
    let after : BoardView → BoardView = λ x. renewed x c.args.book.now (both_changes c.args.last.now c.args.now.now) c.args.count c.args.prefix.now.log in
    let is : c.refresh.new.self ≡ after c.args.writer.desk.spare.value = c.refresh.ensures ∙ ap after (c.deref_mut.ensures.value ∙ c.open-open.ensures.values.1) in
    let next : IsBoard n.log n.start n.topology c.refresh.new.self = subst (λ (x : BoardView). IsBoard n.log n.start n.topology x) (sym is) c.requires.next in
    (tt, next, next)
