use Rattle.lrc_images.proofs.SameRowsLemmas.{same-nodes, same-stripes, same-grants, same-leases}
use Rattle.lrc_images.proofs.laws.alike_images_have_the_same_rows.Goals as goal

pub returns-clause-nodes : goal.returns-clause-nodes
returns-clause-nodes c = λ i j rising rising' alike. same-nodes i j rising rising' alike

pub returns-clause-stripes : goal.returns-clause-stripes
returns-clause-stripes c = λ i j rising rising' alike whole whole'. same-stripes i j rising rising' alike whole whole'

pub returns-clause-grants : goal.returns-clause-grants
returns-clause-grants c = λ i j rising rising' alike whole whole' counts. same-grants i j rising rising' alike whole whole' counts

pub returns-clause-leases : goal.returns-clause-leases
returns-clause-leases c = λ i j rising rising' alike. same-leases i j rising rising' alike
