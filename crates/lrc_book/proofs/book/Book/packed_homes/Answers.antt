use Rattle.std.proofs.Common.{ap, ◌∙◌}
use Rattle.lrc_terms.specs.Levels.{homes_if}
use Rattle.lrc_stripes.specs.Stored.{Stored, homes_shown}
use Rattle.lrc_book.proofs.book.Book.packed_homes.Goals as goal

pub returns : goal.returns
unfolding homes_if
returns c = c.packed_homes.ensures ∙ ap (λ (x : Stored). homes_shown x c.args.stripe) c.store.ensures.kept.stripes_is
