use Rattle.std.proofs.Common.{◌≡◌, ℕ, length, subst, arith}
use Rattle.lrc_embed.specs.Replays.{IsUnreadable, IsFull, IsCallable}
use Rattle.lrc_embed.specs.Batches.{AreMade}
use Rattle.lrc_embed.proofs.BatchLemmas.{made_none, made_more, made_same, stops_before}
use Rattle.lrc_embed.proofs.exports.batch.make_calls.Goals as goal

pub loop-i-init : goal.loop-i-init
loop-i-init c = made_none c.args.entries.now c.args.book.now

pub returns-then-status-ne-DONE-clause-made : goal.returns-then-status-ne-DONE-clause-made
returns-then-status-ne-DONE-clause-made c =
    made_same c.args.entries.now c.loop-i.entries c.loop-i.i _ c.args.book.now c.loop-i.book c.loop-i.invariant c.make_call-status.new.entry c.make_call-status.new.book
    (c.make_call-status.ensures.unwritten c.if-status-ne-DONE.true) (c.make_call-status.ensures.unchanged c.if-status-ne-DONE.true)

pub returns-then-status-ne-DONE-clause-range : goal.returns-then-status-ne-DONE-clause-range
returns-then-status-ne-DONE-clause-range c = λ is.
    stops_before c.args.entries.now c.loop-i.entries c.loop-i.i _ c.args.book.now c.loop-i.book c.loop-i.invariant IsUnreadable c.make_call-status.new.book
    c.loop-i-test.true (c.make_call-status.ensures.range is)

pub returns-then-status-ne-DONE-clause-full : goal.returns-then-status-ne-DONE-clause-full
returns-then-status-ne-DONE-clause-full c = λ is.
    stops_before c.args.entries.now c.loop-i.entries c.loop-i.i _ c.args.book.now c.loop-i.book c.loop-i.invariant IsFull c.make_call-status.new.book
    c.loop-i-test.true (c.make_call-status.ensures.full is)

pub returns-then-status-ne-DONE-clause-memory : goal.returns-then-status-ne-DONE-clause-memory
returns-then-status-ne-DONE-clause-memory c = λ is.
    stops_before c.args.entries.now c.loop-i.entries c.loop-i.i _ c.args.book.now c.loop-i.book c.loop-i.invariant IsCallable c.make_call-status.new.book
    c.loop-i-test.true (c.make_call-status.ensures.memory is)

pub loop-i-preserved : goal.loop-i-preserved
loop-i-preserved c =
    made_more c.args.entries.now c.loop-i.entries c.loop-i.i _ c.args.book.now c.loop-i.book c.loop-i.invariant c.make_call-status.new.entry c.make_call-status.new.book
    c.loop-i-test.true (omega (arith, c.loop-i-test.true, c.loop-i.auto.entries)) (c.make_call-status.ensures.done c.if-status-ne-DONE.false)

pub returns-clause-made : goal.returns-clause-made
returns-clause-made c =
    let all : c.loop-i.i ≡ length c.loop-i.entries = omega (arith, c.loop-i-test.false, c.loop-i.auto.entries, c.loop-i.auto.i-end) in
    subst (λ (k : ℕ). AreMade k c.args.entries.now c.loop-i.entries c.args.book.now c.loop-i.book) all c.loop-i.invariant
