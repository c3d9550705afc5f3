use Rattle.std.proofs.Common.{rules, arith, ◌≡◌, ◌≢◌, ◌+◌, ◌^◌, ◌<◌, ◌∷◌, ◌++◌, length, get_or, drop, sym, ap, ◌∙◌, decimal, refl}
use Rattle.std.proofs.lemmas.List.{take_rest}
use Rattle.std.proofs.lemmas.Fmt.{length-decimal-le}
use Rattle.lrc_front.proofs.DigitLemmas.{front_number}
use Rattle.lrc_front.proofs.NumberLemmas.{number_found}
use Rattle.lrc_image_text.proofs.WordLemmas.{few_digits}
use Rattle.lrc_image_text.proofs.number.long_number_to_end.Goals as goal
use Rattle.lrc_image_text.proofs.number.long_number_to_end.Goals.{then-at-eq0-via-then-at-eq0, then-at-eq0-via-else-at-eq0+then-text-at-ne10, then-at-eq0-via-else-at-eq0+else-text-at-ne10+then-text-eq48, then-at-gt1, else-at-gt1, then-at-eq0-via-else-at-eq0+else-text-at-ne10+else-text-eq48+then-number-from}

pub returns-clause-some : goal.returns-clause-some
returns-clause-some c =
    let text = c.args.text.now in
    let read = c.digits_in_front-number in
    let at = read.result.1 in
    let some : 0 < at = omega (arith, c.if-at-eq0.false) in
    let within : at < length text = omega (arith, read.ensures.within, c.min-most.ensures, some) in
    let end : get_or text at 0 ≡ 10 = search rules in
    let first : 1 < at → get_or text 0 0 ≢ 48 = λ long. elim c.if-at-gt1.branch [ then-at-gt1 w ↦ search rules | else-at-gt1 w ↦ search rules ] in
    let value = read.ensures.value in
    let small : read.result.0 < 2 ^ 64 = search rules in (
      small,
      front_number text at 10 within some end read.ensures.digits first (omega (arith, value, small))
          ∙ ap (λ n. decimal n ++ 10 ∷ drop (at + 1) text) (sym value)
          ∙ ap (λ rest. decimal read.result.0 ++ 10 ∷ rest) (sym (take_rest text (at + 1))),
    )

pub returns-then-at-eq0-clause-none : goal.returns-then-at-eq0-clause-none
returns-then-at-eq0-clause-none c = λ n rest below is.
    let text = c.args.text.now in
    let read = c.digits_in_front-number in
    let at = read.result.1 in
    let short = length-decimal-le 20 n (omega arith) (omega (arith, below)) below in
    let found = number_found text n 10 at c.min-most.result rest is below (omega (arith, c.min-most.ensures, short, few_digits text n 10 rest is)) refl read.ensures.digits read.ensures.stopped in
    elim c.then-at-eq0.branch [
      | then-at-eq0-via-then-at-eq0 w ↦ omega (arith, w.if-at-eq0.true, found.some)
      | then-at-eq0-via-else-at-eq0+then-text-at-ne10 w ↦ w.if-text-at-ne10.true found.here
      | then-at-eq0-via-else-at-eq0+else-text-at-ne10+then-text-eq48 w ↦ elim w.if-at-gt1.branch [
        | then-at-gt1 w' ↦ found.first w'.if-at-gt1.true (search rules)
        | else-at-gt1 w' ↦ search rules
      ]
      | then-at-eq0-via-else-at-eq0+else-text-at-ne10+else-text-eq48+then-number-from w ↦
          omega (arith, w.if-number-from.true, w.from.ensures, read.ensures.value, found.value, below)
    ]
