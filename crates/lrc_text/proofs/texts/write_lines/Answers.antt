use Rattle.std.proofs.Common.{rules, arith, ◌≡◌, ◌+◌, ◌-◌, ◌*◌, ◌/◌, ◌%◌, ◌≤◌, drop}
use Rattle.lrc_text.proofs.PairLemmas.{part_long, part_more}
use Rattle.lrc_text.proofs.texts.write_lines.Goals as goal

pub loop-left-preserved : goal.loop-left-preserved
loop-left-preserved c =
    let before = c.loop-left.invariant in
    let records = c.args.records.now in
    let left = c.loop-left.left in
    let many = c.min-many.result in
    let last = c.args.first + left - 1 in
    let most : many ≤ left = search (rules, c.min-many.ensures) in
    let same : many ≤ last % 100 + 1 = search (rules, c.min-many.ensures) in
    let below : left - many ≤ left = omega arith in
    let long = part_long records (left - many) left below before.left in
    let place : last / 100 * 100 + (last % 100 + 1 - many) ≡ c.args.first + (left - many) = omega (arith, most, same, c.loop-left-test.true) in
    let told = c.write_hundred-at in
    record {
      left = omega (arith, before.left);
      room = omega (arith, before.room, told.ensures.start, long, most);
      within = omega (arith, before.within, told.ensures.start);
      written =
          part_more records c.args.first (left - many) left (last / 100 * 100 + (last % 100 + 1 - many)) c.loop-left.at told.result told.new.text c.loop-left.text
          (drop c.args.end c.args.text.now) below before.left place told.ensures.written before.written;
    }
