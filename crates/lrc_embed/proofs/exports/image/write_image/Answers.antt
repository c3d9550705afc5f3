use Rattle.std.proofs.Common.{sym, subst}
use Rattle.lrc_openings.specs.ImageTexts.{IsTextOfBook}
use Rattle.lrc_embed.proofs.exports.image.write_image.Goals as goal

pub returns-in-Ok-clause-done : goal.returns-in-Ok-clause-done
returns-in-Ok-clause-done c = λ done.
    (c.deref.result.now, subst (IsTextOfBook c.args.book.now) (sym c.deref.ensures.value) c.in-Ok.ensures.value, c.put_text.ensures.needed, c.put_text.ensures.done done)

pub returns-in-Ok-clause-short : goal.returns-in-Ok-clause-short
returns-in-Ok-clause-short c = λ short. (
  c.deref.result.now,
  subst (IsTextOfBook c.args.book.now) (sym c.deref.ensures.value) c.in-Ok.ensures.value,
  c.put_text.ensures.needed,
  (c.put_text.ensures.short short).1,
)
