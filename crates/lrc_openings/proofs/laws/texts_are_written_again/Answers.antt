use Rattle.lrc_openings.proofs.TextLemmas.{not-spent, written-again}
use Rattle.lrc_openings.proofs.laws.texts_are_written_again.Goals as goal

pub returns-clause-free : goal.returns-clause-free
returns-clause-free c = λ d nodes text begun spent. not-spent d nodes text begun spent

pub returns-clause-text : goal.returns-clause-text
returns-clause-text c = λ d nodes text other begun told. written-again d nodes text begun other told
