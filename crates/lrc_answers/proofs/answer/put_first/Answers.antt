use Rattle.std.proofs.Common.{◌≤◌, length, ◌∙◌, arith}
use Rattle.std.proofs.lemmas.List.{take_all, take-append-le}
use Rattle.lrc_answers.proofs.answer.put_first.Goals as goal

pub returns : goal.returns
returns c =
    let is = c.copy_from_slice.ensures.after in
    let ten : 10 ≤ length c.copy_from_slice.new.self = rw is (omega (arith, c.told-seats)) in
    take-append-le 10 c.copy_from_slice.new.self _ ten ∙ rw is (take_all 10 c.args.seats.now (omega (arith, c.told-seats)))
