use Rattle.std.proofs.Common.{◌∙◌, length}
use Rattle.std.proofs.lemmas.Result.{err_from_is_err_and}
use Rattle.lrc_script.specs.Bundles.{scripts_of}
use Rattle.lrc_outputs.specs.Sequels.{bundle_part}
use Rattle.lrc_outputs.specs.Checks.{counting}
use Rattle.lrc_outputs.proofs.SequelLemmas.{good_told}
use Rattle.lrc_outputs.proofs.CheckLemmas.{all_counted, check_behind, sequel_check_refused, begun_warned}
use Rattle.lrc_outputs.proofs.checking.check_sequel.Goals as goal

pub bundle_of-bundle-requires : goal.bundle_of-bundle-requires
bundle_of-bundle-requires c = c.in_ok-begun.ensures.begun.short

pub returns-in_err-begun-clause-refused : goal.returns-in_err-begun-clause-refused
returns-in_err-begun-clause-refused c =
    let p = err_from_is_err_and c.from_residual.result c.from_residual.ensures.1 in
    rw (p.1, p.2) (sequel_check_refused c.args.sequel.now c.requires c.in_err-begun.field-0.0 c.in_err-begun.ensures.refused)

pub returns-clause-line : goal.returns-clause-line
returns-clause-line c =
    let sequel = c.args.sequel.now in
    let begun = c.in_ok-begun.begun in
    let nodes = begun.book.value.nodes in
    let scripts = begun.scripts.items in
    let good = c.in_ok-begun.ensures.begun in
    let checked = c.in_ok-checked in
    let output = checked.checked.output in
    let line = (rw (c.as_slice.ensures.value, c.topology.ensures, c.deref.ensures) at checked.ensures.line) ∙ all_counted (length nodes) (scripts_of (bundle_part sequel)) scripts good.accepted.commands in
    check_behind sequel (output.text.items) output.status c.requires (good_told counting sequel (output.text.items) output.status begun.book.value scripts good (line, checked.ensures.status))

pub returns-clause-warned : goal.returns-clause-warned
returns-clause-warned c =
    let begun = c.in_ok-begun.begun in
    let checked = c.in_ok-checked in
    let warned = rw (c.as_slice.ensures.value, c.topology.ensures, c.deref.ensures, c.bundle_of-bundle.ensures) at checked.ensures.warned in
    begun_warned c.args.sequel.now (checked.checked.warnings.items) checked.checked.output.status begun.book.value begun.scripts.items c.requires c.in_ok-begun.ensures.begun
    warned checked.ensures.status
