use Rattle.std.proofs.Common.{option_map, sym, ap, ◌∙◌}
use Rattle.std.proofs.lemmas.Bool.{true≢false}
use Rattle.lrc_script.specs.Scripts.{Form}
use Rattle.lrc_script.proofs.TableLemmas.{form_in-next, form_in-here}
use Rattle.lrc_script.proofs.forms.bounds_in.Goals as goal

pub loop-name-preserved : goal.loop-name-preserved
loop-name-preserved c =
    c.loop-name.invariant
    ∙ form_in-next c.args.forms.now c.args.word.now c.loop-name.name-index _ c.loop-name-test.true (λ same. true≢false (sym (c.is_word.ensures.1 same) ∙ c.if-is_word.false))

pub returns-then-is_word-clause-some : goal.returns-then-is_word-clause-some
returns-then-is_word-clause-some c =
    ap (option_map (λ (form : Form). form.bounds))
    (c.loop-name.invariant ∙ form_in-here c.args.forms.now c.args.word.now c.loop-name.name-index _ c.loop-name-test.true (c.is_word.ensures.0 c.if-is_word.true))
