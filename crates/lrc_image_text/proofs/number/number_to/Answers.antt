use Rattle.std.proofs.Common.{arith}
use Rattle.std.proofs.lemmas.Fmt.{length-decimal-le}
use Rattle.lrc_image_text.proofs.WordLemmas.{none_as, few_digits}
use Rattle.lrc_image_text.proofs.number.number_to.Goals as goal

pub returns-clause-none : goal.returns-clause-none
returns-clause-none c =
    none_as c.number_in_front.result (λ front n rest below is.
    let short = length-decimal-le 10 n (omega arith) (omega (arith, below, c.requires.0)) (omega (arith, below, c.requires.0)) in
    front n rest below (omega (arith, c.min.ensures, short, few_digits c.args.text.now n c.args.end rest is)) c.requires.1 is)
    c.number_in_front.ensures.none
