use Rattle.std.proofs.Common.{rules, arith, ◌≡◌, ◌<◌, true, length, get_or, sym, ◌∙◌}
use Rattle.std.specs.Char.{is_ascii_digit}
use Rattle.lrc_front.proofs.DigitLemmas.{digits_value-next, digits-next}
use Rattle.lrc_image_text.proofs.NumberLemmas.{few}
use Rattle.lrc_image_text.proofs.number.digits_in_front.Goals as goal

pub overflow_mul-number : goal.overflow_mul-number
overflow_mul-number c =
    let before = c.loop-at.invariant in
    let low = few c.args.text.now c.loop-at.at c.loop-at.number (omega (arith, before.within, c.requires.0)) (omega (arith, before.within, c.requires.1)) before.digits before.value in
    omega (arith, low)

pub overflow_add-number : goal.overflow_add-number
overflow_add-number c =
    let before = c.loop-at.invariant in
    let low = few c.args.text.now c.loop-at.at c.loop-at.number (omega (arith, before.within, c.requires.0)) (omega (arith, before.within, c.requires.1)) before.digits before.value in
    let digit : c.from.result < 256 = search rules in
    omega (arith, low, digit)

pub loop-at-preserved : goal.loop-at-preserved
loop-at-preserved c =
    let text = c.args.text.now in
    let at = c.loop-at.at in
    let within : at < length text = omega (arith, c.loop-at-test.true, c.requires.1) in
    let digit : is_ascii_digit (get_or text at 0) ≡ true = sym c.is_ascii_digit.ensures.value ∙ c.if-is_ascii_digit.true in
    let next = digits_value-next text at within digit in
    record {
      within = omega (arith, c.loop-at-test.true);
      digits = digits-next text at within c.loop-at.invariant.digits digit;
      value = omega (arith, next, c.loop-at.invariant.value, c.from.ensures);
    }

pub returns-after-loop-at-clause-stopped : goal.returns-after-loop-at-clause-stopped
returns-after-loop-at-clause-stopped c = λ more. absurd (omega (arith, c.loop-at-test.false, more))

pub returns-else-is_ascii_digit-clause-stopped : goal.returns-else-is_ascii_digit-clause-stopped
returns-else-is_ascii_digit-clause-stopped c = λ more. sym c.is_ascii_digit.ensures.value ∙ c.if-is_ascii_digit.false
