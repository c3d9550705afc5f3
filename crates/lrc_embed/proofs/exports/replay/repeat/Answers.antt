use Rattle.std.proofs.Common.{rules, refl, sym, ap, ◌∙◌}
use Rattle.std.proofs.lemmas.Bool.Decides.{not_from_Decides}
use Rattle.lrc_records.specs.Replies.{encoded_reply}
use Rattle.lrc_embed.proofs.exports.replay.repeat.Goals as goal

pub returns-in-Ok-clause-done : goal.returns-in-Ok-clause-done
returns-in-Ok-clause-done c = λ _. (
  record { session = c.in-Some.session; command = c.in-Some-read.command; reply = c.in-Ok.reply },
  (
    (c.in-Some.ensures.value, c.in-Some-read.ensures.value),
    c.if-is_of.ensures.0 refl,
  ),
  sym c.in-Ok.ensures.reply,
  c.in-Ok.ensures.entry,
  c.call.ensures.same.0,
  c.call.ensures.same.1,
  c.call.ensures.same.2,
  c.call.ensures.same.3,
)

pub returns-in-Ok-2-clause-different : goal.returns-in-Ok-2-clause-different
returns-in-Ok-2-clause-different c = λ _. (
  c.in-Some.session,
  c.in-Some-read.command,
  (c.in-Some.ensures.value, c.in-Some-read.ensures.value),
  λ e. not_from_Decides _ c.if-is_of.ensures refl (e ∙ sym (ap encoded_reply c.in-Ok.ensures.reply)),
)

pub returns-in-Err-HistoryFull-clause-full : goal.returns-in-Err-HistoryFull-clause-full
returns-in-Err-HistoryFull-clause-full c = λ _. (
  c.in-Some.session,
  c.in-Some-read.command,
  (c.in-Some.ensures.value, c.in-Some-read.ensures.value),
  search rules,
)

pub returns-in-Err-OutOfMemory-clause-memory : goal.returns-in-Err-OutOfMemory-clause-memory
returns-in-Err-OutOfMemory-clause-memory c = λ _. (
  c.in-Some.session,
  c.in-Some-read.command,
  (c.in-Some.ensures.value, c.in-Some-read.ensures.value),
  search rules,
)
