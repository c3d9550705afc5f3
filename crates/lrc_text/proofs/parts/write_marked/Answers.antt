use Rattle.std.proofs.Common.{◌≡◌, ◌+◌, ◌-◌, ◌∷◌, drop, ap, ◌∙◌, arith}
use Rattle.std.proofs.lemmas.List.{drop-set}
use Rattle.lrc_text.proofs.parts.write_marked.Goals as goal

pub returns-clause-written : goal.returns-clause-written
returns-clause-written c =
    let w = c.write_u16-digits in
    let back : w.result - 1 + 1 ≡ w.result = omega (arith, c.requires.0, w.ensures.start) in
    drop-set w.new.text (w.result - 1) c.args.mark (omega (arith, c.requires.0, c.requires.1, w.ensures.start))
    ∙ ap (λ n. c.args.mark ∷ drop n w.new.text) back ∙ ap (λ t. c.args.mark ∷ t) w.ensures.written
