use Rattle.std.proofs.Common.{◌∙◌, inr}
use Rattle.lrc_outputs.proofs.SequelLemmas.{not_full}
use Rattle.lrc_outputs.proofs.sequel.image_output.Goals as goal

pub returns-in-Ok-clause-output : goal.returns-in-Ok-clause-output
returns-in-Ok-clause-output c =
    let value = c.in-Ok.ensures.value in
    inr (λ spent. not_full c.in-Ok.text (c.in-Ok.ensures.full.1 spent), c.done.ensures.status, value.0, value.1, c.done.ensures.text ∙ value.2)
