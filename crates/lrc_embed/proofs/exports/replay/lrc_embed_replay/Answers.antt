use Rattle.lrc_embed.specs.Replays.{IsUnreadable, IsFull, IsCallable, IsDifferent}
use Rattle.lrc_embed.proofs.OfLemmas.{of_some}
use Rattle.lrc_embed.proofs.ReplayLemmas.{replay_more, stops_at}
use Rattle.lrc_embed.proofs.exports.replay.lrc_embed_replay.Goals as goal

pub returns-then-status-ne-DONE-clause-range : goal.returns-then-status-ne-DONE-clause-range
returns-then-status-ne-DONE-clause-range c = λ is. of_some _ c.in-Some.ensures.book
    (stops_at IsUnreadable c.args.entries.now c.loop-i.i _ c.in-Some.book.value c.loop-i.book.value c.deref_mut.result.now
    c.loop-i-test.true c.loop-i.invariant.replayed c.deref_mut.ensures.value (c.repeat-status.ensures.range is))

pub returns-then-status-ne-DONE-clause-full : goal.returns-then-status-ne-DONE-clause-full
returns-then-status-ne-DONE-clause-full c = λ is. of_some _ c.in-Some.ensures.book
    (stops_at IsFull c.args.entries.now c.loop-i.i _ c.in-Some.book.value c.loop-i.book.value c.deref_mut.result.now
    c.loop-i-test.true c.loop-i.invariant.replayed c.deref_mut.ensures.value (c.repeat-status.ensures.full is))

pub returns-then-status-ne-DONE-clause-memory : goal.returns-then-status-ne-DONE-clause-memory
returns-then-status-ne-DONE-clause-memory c = λ is. of_some _ c.in-Some.ensures.book
    (stops_at IsCallable c.args.entries.now c.loop-i.i _ c.in-Some.book.value c.loop-i.book.value c.deref_mut.result.now
    c.loop-i-test.true c.loop-i.invariant.replayed c.deref_mut.ensures.value (c.repeat-status.ensures.memory is))

pub returns-then-status-ne-DONE-clause-different : goal.returns-then-status-ne-DONE-clause-different
returns-then-status-ne-DONE-clause-different c = λ is. of_some _ c.in-Some.ensures.book
    (stops_at IsDifferent c.args.entries.now c.loop-i.i _ c.in-Some.book.value c.loop-i.book.value c.deref_mut.result.now
    c.loop-i-test.true c.loop-i.invariant.replayed c.deref_mut.ensures.value (c.repeat-status.ensures.different is))

pub loop-i-preserved : goal.loop-i-preserved
loop-i-preserved c = record {
  replayed = replay_more c.args.entries.now c.loop-i.i _ c.in-Some.book.value c.loop-i.book.value c.deref_mut.result.now c.repeat-status.new.book c.loop-i-test.true
      c.loop-i.invariant.replayed c.deref_mut.ensures.value (c.repeat-status.ensures.done c.if-status-ne-DONE.false);
  empty = c.loop-i.invariant.empty;
  unwritten = c.loop-i.invariant.unwritten;
}
