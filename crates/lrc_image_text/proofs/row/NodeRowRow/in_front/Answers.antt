use Rattle.std.proofs.Common.{arith, codes}
use Rattle.lrc_image_text.specs.Lines.{standing_words}
use Rattle.lrc_image_text.specs.Fronts.{words_on}
use Rattle.lrc_image_text.proofs.RowLemmas.{behind_words, standing_space}
use Rattle.lrc_image_text.proofs.row.NodeRowRow.in_front.Goals as goal

pub returns-in-None-standing_to_end-clause-none : goal.returns-in-None-standing_to_end-clause-none
returns-in-None-standing_to_end-clause-none c = λ row rest readable is.
    let found = c.in-Some.ensures.some in
    let space = standing_space row.mode row.is_down rest readable.1 in
    c.in-None-standing_to_end.ensures.none row.mode row.is_down rest readable.1
    (behind_words c.args.text.now (codes "node ") c.in-Some.number row.node.value c.in-Some.rest.now (words_on (standing_words row.mode row.is_down) rest) space.0
    (omega (arith, found.0)) (omega (arith, readable.0)) found.1 space.1 is)
