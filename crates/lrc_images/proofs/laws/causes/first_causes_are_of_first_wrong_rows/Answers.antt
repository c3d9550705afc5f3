use Rattle.lrc_images.proofs.CutLemmas.{cut-before, cut-after, cut-only, within_rows, cut-of}
use Rattle.lrc_images.proofs.laws.causes.first_causes_are_of_first_wrong_rows.Goals as goal

pub returns-clause-before : goal.returns-clause-before
returns-clause-before c = λ nodes i j p count c is cut above. cut-before nodes i j count cut p c is above

pub returns-clause-after : goal.returns-clause-after
returns-clause-after c = λ nodes i j p count c is cut low. cut-after nodes i j count cut p c is low

pub returns-clause-only : goal.returns-clause-only
returns-clause-only c = λ nodes i j l p count c cut none more is. cut-only nodes i j l p count c cut none more is

pub returns-clause-within : goal.returns-clause-within
returns-clause-within c = within_rows

pub returns-clause-cut : goal.returns-clause-cut
returns-clause-cut c = cut-of
