use Rattle.std.proofs.Common.{◌≤◌, length, decimal, arith}
use Rattle.std.proofs.lemmas.Fmt.{length-decimal-le}
use Rattle.lrc_text.proofs.parts.write_u16.Goals as goal
use Rattle.lrc_text.proofs.parts.write_u16.Goals.{After-from}

-- a number of 16 bits has at most five digits
short : (c : After-from) → length (decimal c.from.result) ≤ 5
short c = let fits = c.ranges.number.fits in length-decimal-le 5 c.from.result (omega arith) (omega (arith, c.from.ensures, fits)) (omega (arith, c.from.ensures, fits))

pub write_digits-requires : goal.write_digits-requires
write_digits-requires c = let few = short (goal.at.write_digits-requires c).After-from in (omega (arith, few, c.requires.0), c.requires.1)

pub returns-clause-start : goal.returns-clause-start
returns-clause-start c =
    let few = short (goal.at.returns-clause-start c).After-from in
    let digits = c.write_digits.ensures.start in
    (omega (arith, few, digits), omega (arith, digits))
