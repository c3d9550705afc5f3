use Rattle.lrc_image_text.proofs.WordLemmas.{none_as}
use Rattle.lrc_image_text.proofs.RowLemmas.{no_stripe}
use Rattle.lrc_image_text.proofs.row.StripeRowRow.in_front.Goals as goal

pub returns-in-None-clause-none : goal.returns-in-None-clause-none
returns-in-None-clause-none c =
    none_as c.stripe_line_in_front-in-None.result (no_stripe c.args.text.now c.in-None.ensures.none) c.stripe_line_in_front-in-None.ensures.none
