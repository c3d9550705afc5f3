use Rattle.lrc_book.specs.Books.{state_of}
use Rattle.lrc_board.proofs.ModeLemmas.{online-some, online-none}
use Rattle.lrc_board.proofs.board.is_online.Goals as goal

pub returns-in-Some : goal.returns-in-Some
returns-in-Some c = online-some c.args.book.now.nodes (state_of c.args.book.now) c.args.node _ c.in-Some.ensures

pub returns-in-None : goal.returns-in-None
returns-in-None c = online-none c.args.book.now.nodes (state_of c.args.book.now) c.args.node c.in-None.ensures
