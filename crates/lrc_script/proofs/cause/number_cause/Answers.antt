use Rattle.std.proofs.Common.{arith, ◌≡◌, true, get_or, sym, ◌∙◌}
use Rattle.std.specs.Char.{is_ascii_digit}
use Rattle.lrc_front.proofs.DigitLemmas.{digits_value-next, digits-next}
use Rattle.lrc_script.proofs.cause.number_cause.Goals as goal
use Rattle.lrc_script.proofs.cause.number_cause.Goals.{then-number-bound, else-number-bound}

pub loop-byte-preserved : goal.loop-byte-preserved
loop-byte-preserved c =
    let word = c.args.word.now in
    let i = c.loop-byte.byte-index in
    let digit : is_ascii_digit (get_or word i 0) ≡ true = sym c.is_ascii_digit.ensures.value ∙ c.if-not-is_ascii_digit.false in
    let next = digits_value-next word i c.loop-byte-test.true digit in
    let digits = digits-next word i c.loop-byte-test.true c.loop-byte.invariant.digits digit in
    elim c.if-number-bound.branch [
      | then-number-bound w ↦
          let before = c.loop-byte.invariant.so_far w.if-number-bound.true in
          record { digits = digits; so_far = λ _. omega (arith, next, before, w.number-is); beyond = λ past. omega (arith, past, next, before, w.number-is) }
      | else-number-bound w ↦
          let before = c.loop-byte.invariant.beyond w.if-number-bound.false in
          record { digits = digits; so_far = λ below. omega (arith, below, w.if-number-bound.false, w.number-is); beyond = λ _. omega (arith, next, before) }
    ]
