use Rattle.lrc_image_text.proofs.RowLemmas.{no_standing}
use Rattle.lrc_image_text.proofs.part.standing_to_end.Goals as goal

pub returns-clause-none : goal.returns-clause-none
returns-clause-none c =
    no_standing c.args.text.now c.in_default.ensures.none c.in_default-behind.ensures.none c.in_default-behind-2.ensures.none c.in_default-behind-3.ensures.none c.in_default-behind-4.ensures.none
