use Rattle.std.proofs.Common.{◌<◌, ◌++◌, drop, decimal, ap, ◌∙◌, arith}
use Rattle.lrc_text.proofs.PairLemmas.{count_within, short_written}
use Rattle.lrc_text.proofs.digits.write_below_1000.Goals as goal

pub overflow_sub-result : goal.overflow_sub-result
overflow_sub-result c =
    let small : c.from.result < 1000 = omega (arith, c.from.ensures, c.requires.number) in
    let few = count_within c.from.result c.from-2.result _ small c.from-2.ensures in
    omega (arith, few.1, c.requires.room.0)

pub returns-clause-start : goal.returns-clause-start
returns-clause-start c =
    let small : c.from.result < 1000 = omega (arith, c.from.ensures, c.requires.number) in
    let few = count_within c.from.result c.from-2.result _ small c.from-2.ensures in
    (omega (arith, few.0, few.1, c.requires.room.0), omega (arith, few.1, c.requires.room.0))

pub returns-clause-written : goal.returns-clause-written
returns-clause-written c =
    let line = c.write_words in
    let small : c.from.result < 1000 = omega (arith, c.from.ensures, c.requires.number) in
    short_written c.from.result line.result c.args.end c.from-2.result line.new.text c.args.text.now _ small line.ensures.start c.from-2.ensures line.ensures.written
    ∙ ap (λ n. decimal n ++ drop c.args.end c.args.text.now) c.from.ensures
