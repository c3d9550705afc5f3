use Rattle.lrc_rules.proofs.BoardLemmas.{level-of, load-of}
use Rattle.lrc_rules.proofs.laws.boards.boards_show_what_books_show.Goals as goal

pub returns : goal.returns
returns c = record { levels = level-of; loads = load-of }
