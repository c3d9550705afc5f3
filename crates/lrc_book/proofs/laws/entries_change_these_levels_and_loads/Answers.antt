use Rattle.lrc_book.proofs.ShownLemmas.{shown-after}
use Rattle.lrc_book.proofs.laws.entries_change_these_levels_and_loads.Goals as goal

pub returns : goal.returns
returns c = λ b e is. shown-after b e is
