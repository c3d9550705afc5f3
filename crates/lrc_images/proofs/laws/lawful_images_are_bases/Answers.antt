use Rattle.lrc_images.proofs.LawfulLemmas.{cause-lawful, lawful-rising, lawful-entries}
use Rattle.lrc_images.proofs.SeatedRowsLemmas.{lawful-base}
use Rattle.lrc_images.proofs.laws.lawful_images_are_bases.Goals as goal

pub returns-clause-rising : goal.returns-clause-rising
returns-clause-rising c = λ nodes i none. lawful-rising nodes i (cause-lawful nodes i none)

pub returns-clause-base : goal.returns-clause-base
returns-clause-base c = λ nodes i known none. lawful-base nodes known i (cause-lawful nodes i none)

pub returns-clause-entries : goal.returns-clause-entries
returns-clause-entries c = λ nodes i none. lawful-entries nodes i (cause-lawful nodes i none)
