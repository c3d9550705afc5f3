use Rattle.std.proofs.Common.{◌≡◌, List, ℕ, sym, subst}
use Rattle.lrc_streams.specs.declared.streams.RunFault.TheVariants as fault
use Rattle.lrc_outputs.specs.Checks.{IsWarned}
use Rattle.lrc_outputs.specs.OutputErrors.{IsCheckRefusal}
use Rattle.lrc_outputs.proofs.ErrorLemmas.{output_told}
use Rattle.lrc_outputs.proofs.checking.check_of.Goals as goal

pub returns-in_ok-output-in-Err-clause-line : goal.returns-in_ok-output-in-Err-clause-line
returns-in_ok-output-in-Err-clause-line c =
    let output = c.in_ok-output-in-Err in
    (output_told (IsCheckRefusal c.args.input.now) (λ f. f ≡ fault.OutOfMemory) c.in-Err.error (output.output.text.items) output.output.status c.in-Err.ensures.refused output.ensures.output).0

pub returns-in_ok-output-in-Err-clause-warned : goal.returns-in_ok-output-in-Err-clause-warned
returns-in_ok-output-in-Err-clause-warned c =
    let output = c.in_ok-output-in-Err in
    let unwarned = (output_told (IsCheckRefusal c.args.input.now) (λ f. f ≡ fault.OutOfMemory) c.in-Err.error (output.output.text.items) output.output.status c.in-Err.ensures.refused output.ensures.output).1 in
    subst (λ (text : List ℕ). IsWarned c.args.input.now text output.output.status) (sym c.new-warnings.ensures.items) unwarned
