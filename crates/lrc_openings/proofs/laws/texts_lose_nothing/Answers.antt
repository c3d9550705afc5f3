use Rattle.lrc_openings.proofs.TextLemmas.{text-alike, text-looks, text-grants, text-before, text-again}
use Rattle.lrc_openings.proofs.laws.texts_lose_nothing.Goals as goal

pub returns-clause-alike : goal.returns-clause-alike
returns-clause-alike c = λ b d nodes text book free is begun same. text-alike b book free text is nodes d begun same

pub returns-clause-looks : goal.returns-clause-looks
returns-clause-looks c = λ b d nodes text book free is begun same. text-looks b book free text is nodes d begun same

pub returns-clause-counts : goal.returns-clause-counts
returns-clause-counts c = λ b d nodes text book free is begun same. text-grants b book free text is nodes d begun same

pub returns-clause-before : goal.returns-clause-before
returns-clause-before c = λ b d nodes text book free is begun same. text-before b book free text is nodes d begun same

pub returns-clause-text : goal.returns-clause-text
returns-clause-text c = λ b d nodes text other book free is begun same. text-again b book free text is nodes d begun same other
