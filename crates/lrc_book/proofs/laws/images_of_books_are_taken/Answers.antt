use Rattle.std.proofs.Common.{◌+◌, length}
use Rattle.lrc_book.proofs.ForgetLemmas.{imaged-taken, unspent-counts, unspent-ticks, unspent-entries}
use Rattle.lrc_book.proofs.laws.images_of_books_are_taken.Goals as goal

pub returns : goal.returns
returns c = λ b i book free is.
    imaged-taken b.nodes book.nodes b.base b.history book.based book.legal (b.before + length b.history) i is
    (unspent-counts b free) (unspent-ticks b free) (unspent-entries b free)
