use Rattle.lrc_openings.proofs.TextLemmas.{no-line, some-begun, only-memory}
use Rattle.lrc_openings.proofs.laws.texts_of_books_are_taken.Goals as goal

pub returns-clause-lines : goal.returns-clause-lines
returns-clause-lines c = λ b text n book free is. no-line b book free text is n

pub returns-clause-begun : goal.returns-clause-begun
returns-clause-begun c = λ b nodes text book free is over. some-begun b book free text is nodes over

pub returns-clause-refused : goal.returns-clause-refused
returns-clause-refused c = λ b nodes text e book free is over why. only-memory b book free text is nodes over e why
