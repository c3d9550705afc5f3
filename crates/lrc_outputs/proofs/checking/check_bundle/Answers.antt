use Rattle.std.proofs.Common.{◌∙◌, length}
use Rattle.std.proofs.lemmas.Result.{err_from_is_err_and}
use Rattle.lrc_script.specs.Bundles.{scripts_of}
use Rattle.lrc_outputs.specs.Checks.{IsCountedLine}
use Rattle.lrc_outputs.proofs.JudgedLemmas.{good_to_any}
use Rattle.lrc_outputs.proofs.CheckLemmas.{all_counted, check_alone, bundle_check_refused, accepted_warned}
use Rattle.lrc_outputs.proofs.checking.check_bundle.Goals as goal

pub returns-in_err-accepted-clause-refused : goal.returns-in_err-accepted-clause-refused
returns-in_err-accepted-clause-refused c =
    let p = err_from_is_err_and c.from_residual.result c.from_residual.ensures.1 in
    rw (p.1, p.2) (bundle_check_refused c.args.bundle.now c.requires c.in_err-accepted.field-0.0 c.in_err-accepted.ensures.refused)

pub returns-clause-line : goal.returns-clause-line
returns-clause-line c =
    let bundle = c.args.bundle.now in
    let accepted = c.in_ok-accepted.accepted in
    let scripts = accepted.scripts.items in
    let good = c.in_ok-accepted.ensures.accepted in
    let checked = c.in_ok-checked in
    let output = checked.checked.output in
    let line = (rw c.as_slice.ensures.value at checked.ensures.line) ∙ all_counted (length accepted.topology) (scripts_of bundle) scripts good.commands in
    check_alone bundle (output.text.items) output.status c.requires
    (good_to_any IsCountedLine bundle (output.text.items) output.status accepted.topology scripts good line checked.ensures.status)

pub returns-clause-warned : goal.returns-clause-warned
returns-clause-warned c =
    let accepted = c.in_ok-accepted.accepted in
    let checked = c.in_ok-checked in
    let warned = rw c.as_slice.ensures.value at checked.ensures.warned in
    accepted_warned c.args.bundle.now (checked.checked.warnings.items) checked.checked.output.status accepted.topology accepted.scripts.items c.requires c.in_ok-accepted.ensures.accepted
    warned checked.ensures.status
