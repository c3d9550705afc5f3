use Rattle.lrc_openings.proofs.ResultLemmas.{IfOk-map, IfErr-map}
use Rattle.lrc_openings.proofs.OpeningLemmas.{begun_in_texts, unopened_texts}
use Rattle.lrc_openings.proofs.opening.begin.Goals as goal

pub returns-clause-begun : goal.returns-clause-begun
returns-clause-begun c =
    let nodes = c.in_ok-topology in
    let image = c.in_ok-image in
    IfOk-map c.begin_over.result _ _
    (λ b. begun_in_texts c.args.nodes.now c.args.text.now nodes.topology image.image nodes.ensures.ok image.ensures.read b.value)
    c.begin_over.ensures.begun

pub returns-clause-refused : goal.returns-clause-refused
returns-clause-refused c =
    let nodes = c.in_ok-topology in
    let image = c.in_ok-image in
    IfErr-map c.begin_over.result _ _
    (unopened_texts c.args.nodes.now c.args.text.now nodes.topology image.image nodes.ensures.ok image.ensures.read)
    c.begin_over.ensures.refused
