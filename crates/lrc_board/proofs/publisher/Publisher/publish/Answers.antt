use Rattle.std.proofs.Common.{rules, ◌≡◌, List, subst}
use Rattle.lrc_rules.specs.declared.entry.Entry.{Entry}
use Rattle.lrc_rules.specs.Histories.{state_after}
use Rattle.lrc_board.specs.Lines.{written}
use Rattle.lrc_board.specs.Views.{published}
use Rattle.lrc_board.specs.Refreshed.{OthersStay, AreBoards}
use Rattle.lrc_board.proofs.BoardLemmas.{board-whole, board-renewed}
use Rattle.lrc_board.proofs.publisher.Publisher.publish.Goals as goal

pub show-writer-requires-clause-whole : goal.show-writer-requires-clause-whole
show-writer-requires-clause-whole g c =
    let n = g.N.ViewNaming in
    let desk = c.unwrap-writer.result.desk in
    let boards : AreBoards n.log n.start n.topology c.self.inside.last desk.shown.value desk.spare.value = search rules in
    rw c.requires.book.0 (board-whole n.log n.start n.topology desk.spare.value boards.spare_is)

pub show-writer-requires-clause-next : goal.show-writer-requires-clause-next
show-writer-requires-clause-next g c =
    let n = g.N.ViewNaming in
    let desk = c.unwrap-writer.result.desk in
    let boards : AreBoards n.log n.start n.topology c.self.inside.last desk.shown.value desk.spare.value = search rules in
    let before : c.args.self.now ≡ published n.start desk.shown.value = search rules in
    let after = state_after n.topology (written n.start c.args.prefix.now.log) in
    let stay = subst (λ (h : List Entry). OthersStay n.topology c.args.changes.now (state_after n.topology h) after) before c.requires.changes in
    board-renewed n.log n.start n.topology c.self.inside.last c.args.changes.now desk.shown.value desk.spare.value c.args.book.now c.args.count
    c.args.prefix.now.log boards c.requires.book.0 c.requires.book.1 c.requires.book.2 c.requires.count c.requires.legal stay
