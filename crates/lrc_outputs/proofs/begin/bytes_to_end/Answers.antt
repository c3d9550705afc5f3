use Rattle.std.proofs.Common.{rules, arith, ◌≡◌, ◌≢◌, true, Some, None, codes}
use Rattle.lrc_script.specs.Cuts.{IsCut}
use Rattle.lrc_script.proofs.ScriptLemmas.{same_text-own, same_text-false}
use Rattle.lrc_outputs.specs.Sequels.{is_end}
use Rattle.lrc_outputs.proofs.SequelLemmas.{cut_end, cut_last, cut_next, cut_short}
use Rattle.lrc_outputs.proofs.begin.bytes_to_end.Goals as goal

pub overflow_add-bytes-in-loop-behind : goal.overflow_add-bytes-in-loop-behind
overflow_add-bytes-in-loop-behind c = omega (arith, c.loop-behind.invariant.room, c.requires, cut_short c.loop-behind.rest.now c.cut_line.result.0.now c.cut_line.result.1 c.cut_line.ensures)

pub returns-then-eq : goal.returns-then-eq
returns-then-eq c =
    let same : c.cut_line.result.0.now ≡ codes "end" = search rules in
    let last : is_end c.cut_line.result.0.now ≡ true = same_text-own c.cut_line.result.0.now (codes "end") same in
    omega (arith, c.loop-behind.invariant.sum, cut_end c.loop-behind.rest.now c.cut_line.result.0.now c.cut_line.result.1 c.cut_line.ensures last)

pub returns-in_default : goal.returns-in_default
returns-in_default c =
    let cut : IsCut 10 c.loop-behind.rest.now c.cut_line.result.0.now None = rw c.in_default.is at c.cut_line.ensures in
    omega (arith, c.loop-behind.invariant.sum, cut_last c.loop-behind.rest.now c.cut_line.result.0.now cut)

pub loop-behind-preserved : goal.loop-behind-preserved
loop-behind-preserved c =
    let line = c.cut_line.result.0.now in
    let other : line ≢ codes "end" = search rules in
    let cut : IsCut 10 c.loop-behind.rest.now line (Some c.in-Some.next) = rw c.in-Some.is at c.cut_line.ensures in
    let next = cut_next c.loop-behind.rest.now line c.in-Some.next cut (same_text-false line (codes "end") other) in
    record {
      sum = omega (arith, c.loop-behind.invariant.sum, next.0);
      room = omega (arith, c.loop-behind.invariant.room, next.1);
    }
