use Rattle.std.proofs.Common.{rules, ◌≡◌, ◌+◌, ◌≤◌, ◌++◌, length, length-append, is_some, true, false, sym, ap, ◌∙◌, refl, arith}
use Rattle.std.specs.Slice.Iter.{chunks_rest}
use Rattle.lrc_sessions.specs.Runs.{Passes}
use Rattle.lrc_sessions.proofs.ScriptLemmas.{HasRun, within_script, run_chunk, run_stopped, run_ended, all_made, left_behind, full_more}
use Rattle.lrc_sessions.proofs.worker.make_calls.Goals as goal

pub returns-then-is_some : goal.returns-then-is_some
returns-then-is_some g c =
    let v = c.loop-calls.invariant in
    let steps = c.in-Some.ensures.steps in
    let script = c.args.script.now in
    let chunk = c.in-Some.calls.now in
    let done = c.loop-calls.done in
    let made = c.make_batch-stopped in
    let b = made.result.0 in
    let passes = Passes g.G.Gate.lets g.G.Gate.tells in
    let left = v.left ∙ steps.1.0 in
    let size : length chunk ≤ g.G.Gate.most = search rules in
    let run = run_chunk g.N.ViewNaming.topology g.G.Gate.most passes script chunk (chunks_rest c.next.new.self) c.args.session.now c.loop-calls.session made.new.session
    c.loop-calls.batches.items c.keep.new.batches.items done b v.run left size made.ensures.made made.ensures.some made.ensures.passed c.keep.ensures.items in
    run_stopped g.N.ViewNaming.limit g.G.Gate.most g.G.Gate.may_stop passes script chunk c.args.session.now made.new.session c.keep.new.batches.items done b.count made.result.1
    run (search rules) (within_script script chunk (chunks_rest c.next.new.self) done v.run.few left) made.ensures.stopped made.ensures.seen

pub loop-calls-preserved : goal.loop-calls-preserved
loop-calls-preserved g c =
    let v = c.loop-calls.invariant in
    let steps = c.in-Some.ensures.steps in
    let script = c.args.script.now in
    let chunk = c.in-Some.calls.now in
    let rest = chunks_rest c.next.new.self in
    let done = c.loop-calls.done in
    let made = c.make_batch-stopped in
    let b = made.result.0 in
    let later = c.keep.new.batches.items in
    let passes = Passes g.G.Gate.lets g.G.Gate.tells in
    let left = v.left ∙ steps.1.0 in
    let size : length chunk ≤ g.G.Gate.most = search rules in
    let none : is_some made.result.1 ≡ false = search rules in
    let all : b.count ≡ length chunk = all_made g.G.Gate.may_stop chunk b.count made.result.1 none made.ensures.stopped in
    record {
      can_next = search rules;
      finite = tt;
      size = steps.0 ∙ v.size;
      left = left_behind script chunk rest done b.count left all;
      full = λ some.
          let parts = ap length steps.1.0 ∙ length-append chunk rest in
          let whole : b.count ≡ c.args.most = omega (arith, all, steps.1.1, parts, some, v.size) in
          full_more done b.count c.args.most c.loop-calls.batches.items later b (v.full steps.1.2) whole c.requires.most.0 refl c.keep.ensures.items;
      room = search rules;
      run = run_chunk g.N.ViewNaming.topology g.G.Gate.most passes script chunk rest c.args.session.now c.loop-calls.session made.new.session
          c.loop-calls.batches.items later done b v.run left size made.ensures.made made.ensures.some made.ensures.passed c.keep.ensures.items;
    }
