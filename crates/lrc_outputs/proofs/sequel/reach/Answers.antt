use Rattle.lrc_openings.proofs.ResultLemmas.{IfOk-map, IfErr-map}
use Rattle.lrc_outputs.specs.Judged.{lists_of}
use Rattle.lrc_outputs.specs.Sequels.{IsReached}
use Rattle.lrc_outputs.proofs.ErrorLemmas.{refused_as}
use Rattle.lrc_outputs.proofs.SequelLemmas.{imaged_by}
use Rattle.lrc_outputs.proofs.sequel.reach.Goals as goal

pub returns-in_ok-make_scripts-in-Image-clause-output : goal.returns-in_ok-make_scripts-in-Image-clause-output
returns-in_ok-make_scripts-in-Image-clause-output c =
    let made = c.in_ok-make_scripts-in-Image.ensures in
    IfOk-map c.image_output.result _ _
    (λ o h. rw c.in-Image.is (imaged_by o.text.items o.status c.args.book.now c.make_scripts.new.book c.args.scripts.now made.same.0 made.same.1 made.same.2 made.legal made.made made.only h))
    c.image_output.ensures.output

pub returns-in_ok-make_scripts-in-Image-clause-refused : goal.returns-in_ok-make_scripts-in-Image-clause-refused
returns-in_ok-make_scripts-in-Image-clause-refused c =
    let made = c.in_ok-make_scripts-in-Image.ensures in
    let old = c.args.book.now in
    IfErr-map c.image_output.result _ _
    (refused_as _ (IsReached c.args.goal old.nodes old.base old.before (lists_of c.args.scripts.now))
    (λ text status h. rw c.in-Image.is (imaged_by text status c.args.book.now c.make_scripts.new.book c.args.scripts.now made.same.0 made.same.1 made.same.2 made.legal made.made made.only h)))
    c.image_output.ensures.refused
