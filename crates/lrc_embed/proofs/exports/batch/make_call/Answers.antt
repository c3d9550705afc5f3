use Rattle.std.proofs.Common.{arith}
use Rattle.lrc_embed.proofs.BatchLemmas.{full_other, callable_other}
use Rattle.lrc_embed.proofs.exports.batch.make_call.Goals as goal

pub returns-clause-done : goal.returns-clause-done
returns-clause-done c = λ done. (
  c.in-Some.session,
  c.in-Some-read.command,
  c.in-Some.ensures.value,
  c.in-Some-read.ensures.value,
  c.step_entry.ensures.head done,
  c.step_entry.ensures.done done,
)

pub returns-clause-full : goal.returns-clause-full
returns-clause-full c = λ full. (
  c.in-Some.session,
  c.in-Some-read.command,
  (c.in-Some.ensures.value, c.in-Some-read.ensures.value),
  full_other c.step_entry.new.book c.args.book.now (c.step_entry.ensures.unchanged (λ done. absurd (omega (arith, full, done)))) (c.step_entry.ensures.full.0 full),
)

pub returns-clause-memory : goal.returns-clause-memory
returns-clause-memory c = λ memory. (
  c.in-Some.session,
  c.in-Some-read.command,
  (c.in-Some.ensures.value, c.in-Some-read.ensures.value),
  callable_other c.step_entry.new.book c.args.book.now (c.step_entry.ensures.unchanged (λ done. absurd (omega (arith, memory, done))))
      (λ all. absurd (omega (arith, memory, c.step_entry.ensures.full.1 all))),
)
