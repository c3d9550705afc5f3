use Rattle.std.proofs.Common.{◌≡◌, ℕ, ◌+◌, Some, List, slice_get, ap, subst, ◌∙◌}
use Rattle.lrc_rules.specs.declared.entry.Entry.{Entry}
use Rattle.lrc_text.specs.Texts.{reply_line}
use Rattle.lrc_embed.proofs.PrintedLemmas.{put_other, too_long_other}
use Rattle.lrc_embed.proofs.exports.tables.put_reply_line.Goals as goal

pub returns-in-Ok-clause-done : goal.returns-in-Ok-clause-done
returns-in-Ok-clause-done c = λ done.
    let w = c.in-Ok.ensures in (
      w.0,
      subst (λ (h : List Entry). slice_get h c.args.index ≡ Some w.0) c.history-history.ensures.value w.1,
      put_other (reply_line (c.args.book.now.before + c.args.index + 1) w.0.reply) c.as_slice.result.now c.args.text.now c.put_text.new.text c.put_text.new.needed
          (c.as_slice.ensures.value ∙ w.2 ∙ ap (λ (n : ℕ). reply_line (n + c.args.index + 1) w.0.reply) c.before-before.ensures)
          (c.put_text.ensures.needed, c.put_text.ensures.done done),
    )

pub returns-in-Ok-clause-short : goal.returns-in-Ok-clause-short
returns-in-Ok-clause-short c = λ short.
    let w = c.in-Ok.ensures in (
      w.0,
      subst (λ (h : List Entry). slice_get h c.args.index ≡ Some w.0) c.history-history.ensures.value w.1,
      too_long_other (reply_line (c.args.book.now.before + c.args.index + 1) w.0.reply) c.as_slice.result.now c.args.text.now c.put_text.new.needed
          (c.as_slice.ensures.value ∙ w.2 ∙ ap (λ (n : ℕ). reply_line (n + c.args.index + 1) w.0.reply) c.before-before.ensures)
          (c.put_text.ensures.needed, (c.put_text.ensures.short short).1),
    )
