use Rattle.lrc_book.proofs.BeginLemmas.{begun-alike, begun-grants, begun-looks, begun-image}
use Rattle.lrc_book.proofs.laws.books_begin_alike.Goals as goal

pub returns-clause-alike : goal.returns-clause-alike
returns-clause-alike c = λ b c' i book is begun. begun-alike b c' i book is begun

pub returns-clause-counts : goal.returns-clause-counts
returns-clause-counts c = λ b c' i book is begun. begun-grants b c' i book is begun

pub returns-clause-image : goal.returns-clause-image
returns-clause-image c = λ b c' i book book' is begun. begun-image b c' i book is begun book'

pub returns-clause-looks : goal.returns-clause-looks
returns-clause-looks c = λ b c' i book book' is begun. begun-looks b c' i book is begun book'
