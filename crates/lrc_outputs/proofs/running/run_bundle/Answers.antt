use Rattle.std.proofs.Common.{refl}
use Rattle.std.proofs.lemmas.Result.{err_from_is_err_and}
use Rattle.lrc_outputs.specs.declared.status.Status.TheVariants.{Done}
use Rattle.lrc_outputs.specs.Judged.{lists_of}
use Rattle.lrc_outputs.specs.Outputs.{ArePrinted}
use Rattle.lrc_outputs.proofs.JudgedLemmas.{good_to_any, several_or}
use Rattle.lrc_outputs.proofs.AnswerLemmas.{refused_run}
use Rattle.lrc_outputs.proofs.running.run_bundle.Goals as goal

pub returns-in_err-accepted-clause-refused : goal.returns-in_err-accepted-clause-refused
returns-in_err-accepted-clause-refused g c =
    let p = err_from_is_err_and c.from_residual.result c.from_residual.ensures.1 in
    let refused = rw c.as_slice.ensures.value at c.in_err-accepted.ensures.refused in
    rw (p.1, p.2) (refused_run c.args.bundle.items _ c.in_err-accepted.field-0.0 refused)

pub returns-clause-output : goal.returns-clause-output
returns-clause-output g c =
    let bundle = c.args.bundle.items in
    let topology = c.in_ok-accepted.accepted.topology in
    let scripts = c.in_ok-accepted.accepted.scripts.items in
    let good = rw c.as_slice.ensures.value at c.in_ok-accepted.ensures.accepted in
    let played = rw c.as_slice-2.ensures.value at c.in_ok-text.ensures.played in
    good_to_any ArePrinted bundle c.in_ok-text.text.items Done topology scripts good (lists_of scripts, good.commands, played) refl

pub returns-in_err-text-clause-refused : goal.returns-in_err-text-clause-refused
returns-in_err-text-clause-refused g c =
    let topology = c.in_ok-accepted.accepted.topology in
    let scripts = c.in_ok-accepted.accepted.scripts.items in
    let good = rw c.as_slice.ensures.value at c.in_ok-accepted.ensures.accepted in
    let err = rw c.as_slice-2.ensures.value at c.in_err-text.ensures.err in
    let p = err_from_is_err_and c.from_residual-in_err-text.result c.from_residual-in_err-text.ensures.1 in
    rw (p.1, p.2) (several_or _ _ c.args.bundle.items topology scripts good err)
