use Rattle.std.proofs.Common.{◌≤◌, length, decimal, arith, rules}
use Rattle.std.proofs.lemmas.Fmt.{length-decimal-le}
use Rattle.lrc_text.proofs.texts.write_line.Goals as goal
use Rattle.lrc_text.proofs.texts.write_line.Goals.{After-write_reply-start}

-- a number has at most twenty digits
short : (c : After-write_reply-start) → length (decimal c.args.number) ≤ 20
short c = length-decimal-le 20 c.args.number (omega arith) (omega (arith, c.ranges.number.fits)) (omega (arith, c.ranges.number.fits))

pub write_digits-requires : goal.write_digits-requires
write_digits-requires c =
    let few = short (goal.at.write_digits-requires c).After-write_reply-start in
    (omega (arith, few, c.requires.0, c.write_reply-start.ensures.start), search rules)

pub returns-clause-start : goal.returns-clause-start
returns-clause-start c =
    let few = short (goal.at.returns-clause-start c).After-write_reply-start in
    let digits = c.write_digits.ensures.start in
    let reply = c.write_reply-start.ensures.start in
    (omega (arith, few, digits, reply), omega (arith, few, digits, reply))
