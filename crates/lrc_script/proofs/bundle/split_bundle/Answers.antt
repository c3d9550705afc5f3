use Rattle.std.proofs.Common.{arith, ◌+◌, None, Some, sym, subst}
use Rattle.lrc_script.proofs.BundleLemmas.{IsSplit, IsSplit-start, IsSplit-next, topology_of-first, more_scripts, passed-next, shorter, AreTextsOf-all}
use Rattle.lrc_script.proofs.bundle.split_bundle.Goals as goal

pub loop-behind-init : goal.loop-behind-init
loop-behind-init c =
    let first = c.cut_part-first in
    let start = IsSplit-start c.args.bundle.now first.result.text.now first.result.lines first.result.behind first.ensures in
    record { split = subst (λ ts. IsSplit c.args.bundle.now ts first.result.lines first.result.behind) (sym c.new-scripts.ensures.items) start; few = omega arith }

pub returns-then-len-most-clause-many : goal.returns-then-len-most-clause-many
returns-then-len-most-clause-many c = λ _.
    let split : IsSplit c.args.bundle.now c.loop-behind.scripts.items c.loop-behind.passed (Some c.in-Some.rest) = rw c.in-Some.is at c.loop-behind.invariant.split in
    let more = more_scripts c.args.bundle.now c.loop-behind.scripts.items c.loop-behind.passed c.in-Some.rest split in
    omega (arith, more, c.loop-behind.scripts.ok.0)

pub overflow_add-passed : goal.overflow_add-passed
overflow_add-passed c =
    let split : IsSplit c.args.bundle.now c.loop-behind.scripts.items c.loop-behind.passed (Some c.in-Some.rest) = rw c.in-Some.is at c.loop-behind.invariant.split in
    let part = c.cut_part-part in
    let fits = passed-next c.args.bundle.now c.loop-behind.scripts.items c.loop-behind.passed c.in-Some.rest split part.result.text.now part.result.lines part.result.behind part.ensures in
    omega (arith, fits)

pub overflow_add-passed-in-Some : goal.overflow_add-passed-in-Some
overflow_add-passed-in-Some c =
    let split : IsSplit c.args.bundle.now c.loop-behind.scripts.items c.loop-behind.passed (Some c.in-Some.rest) = rw c.in-Some.is at c.loop-behind.invariant.split in
    let part = c.cut_part-part in
    let fits = passed-next c.args.bundle.now c.loop-behind.scripts.items c.loop-behind.passed c.in-Some.rest split part.result.text.now part.result.lines part.result.behind part.ensures in
    omega (arith, fits)

pub loop-behind-smaller : goal.loop-behind-smaller
loop-behind-smaller c =
    let split : IsSplit c.args.bundle.now c.loop-behind.scripts.items c.loop-behind.passed (Some c.in-Some.rest) = rw c.in-Some.is at c.loop-behind.invariant.split in
    let part = c.cut_part-part in
    rw c.in-Some.is (shorter c.args.bundle.now c.loop-behind.scripts.items c.loop-behind.passed c.in-Some.rest split part.result.text.now part.result.lines part.result.behind part.ensures)

pub loop-behind-preserved : goal.loop-behind-preserved
loop-behind-preserved c =
    let split : IsSplit c.args.bundle.now c.loop-behind.scripts.items c.loop-behind.passed (Some c.in-Some.rest) = rw c.in-Some.is at c.loop-behind.invariant.split in
    let part = c.cut_part-part in
    let more = IsSplit-next c.args.bundle.now c.loop-behind.scripts.items c.loop-behind.passed c.in-Some.rest split part.result.text part.result.lines part.result.behind part.ensures in
    record { split = subst (λ ts. IsSplit c.args.bundle.now ts (c.loop-behind.passed + (1 + part.result.lines)) part.result.behind) (sym c.in_ok-push.ensures.items) more; few = omega (arith, c.in_ok-push.ensures.len) }

pub returns-clause-topology : goal.returns-clause-topology
returns-clause-topology c =
    let first = c.cut_part-first in
    topology_of-first c.args.bundle.now first.result.text.now first.result.lines first.result.behind first.ensures

pub returns-clause-scripts : goal.returns-clause-scripts
returns-clause-scripts c =
    let split : IsSplit c.args.bundle.now c.loop-behind.scripts.items c.loop-behind.passed None = rw c.in_default.is at c.loop-behind.invariant.split in
    AreTextsOf-all c.args.bundle.now c.loop-behind.scripts.items c.loop-behind.passed split
