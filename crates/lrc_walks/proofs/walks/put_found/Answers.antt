use Rattle.std.proofs.Common.{◌+◌, ◌<◌, length, take, drop, sym, ap, ap₂, ◌∙◌, arith}
use Rattle.std.proofs.lemmas.List.{drop-set-lt, length-set}
use Rattle.std.proofs.lemmas.Grind.{drop_more_same}
use Rattle.lrc_walks.proofs.FoundLemmas.{found-full, found-hit, found-miss}
use Rattle.lrc_walks.proofs.walks.put_found.Goals as goal
use Rattle.lrc_walks.proofs.walks.put_found.Goals.{in-Some, in_default}

pub returns-then-count-rows : goal.returns-then-count-rows
returns-then-count-rows g c = λ f is.
    let kept = c.loop-i.invariant in
    found-full f c.args.start c.args.end c.loop-i.i c.loop-i.count c.loop-i.rows c.args.rows.now kept.begun kept.as_long kept.room kept.rest (kept.written f is) kept.within
    c.if-count-rows.true

pub loop-i-preserved : goal.loop-i-preserved
loop-i-preserved g c =
    let kept = c.loop-i.invariant in
    let rows = c.loop-i.rows in
    let count = c.loop-i.count in
    let room : count < length rows = omega (arith, kept.room, c.if-count-rows.false) in
    elim c.match-find.branch [
      | in-Some w ↦ record {
        written = λ f is.
            ap₂ (λ k l. take k l) w.count-is w.rows-is
            ∙ found-hit f c.args.start c.loop-i.i count rows kept.begun (kept.written f is) w.in-Some.row room (sym (is c.loop-i.i c.find.result kept.begun c.loop-i-test.true c.find.ensures) ∙ w.in-Some.is);
        rest =
            ap₂ (λ k l. drop k l) w.count-is w.rows-is ∙ drop-set-lt (count + 1) rows count w.in-Some.row (omega arith) ∙ drop_more_same rows c.args.rows.now count kept.rest
            ∙ sym (ap (λ k. drop k c.args.rows.now) w.count-is);
        as_long = ap length w.rows-is ∙ length-set rows count w.in-Some.row ∙ kept.as_long;
        room = omega (arith, w.count-is, room, ap length w.rows-is ∙ length-set rows count w.in-Some.row);
        begun = omega (arith, kept.begun);
        within = omega (arith, kept.begun, c.loop-i-test.true);
      }
      | in_default w ↦ record {
        written = λ f is.
            ap₂ (λ k l. take k l) w.count-is w.rows-is
            ∙ found-miss f c.args.start c.loop-i.i count rows kept.begun (kept.written f is) (sym (is c.loop-i.i c.find.result kept.begun c.loop-i-test.true c.find.ensures) ∙ w.in_default.is);
        rest = ap₂ (λ k l. drop k l) w.count-is w.rows-is ∙ kept.rest ∙ sym (ap (λ k. drop k c.args.rows.now) w.count-is);
        as_long = ap length w.rows-is ∙ kept.as_long;
        room = omega (arith, w.count-is, kept.room, ap length w.rows-is);
        begun = omega (arith, kept.begun);
        within = omega (arith, kept.begun, c.loop-i-test.true);
      }
    ]
