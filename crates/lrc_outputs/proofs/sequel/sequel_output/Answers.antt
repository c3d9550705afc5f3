use Rattle.lrc_openings.proofs.ResultLemmas.{IfOk-map, IfErr-map}
use Rattle.std.proofs.Common.{◌≡◌, refl}
use Rattle.lrc_streams.specs.declared.streams.RunFault.TheVariants as fault
use Rattle.lrc_outputs.specs.Sequels.{IsSequelOutput}
use Rattle.lrc_outputs.proofs.ErrorLemmas.{output_told, fault_told}
use Rattle.lrc_outputs.proofs.sequel.sequel_output.Goals as goal

pub returns-in-Err-clause-output : goal.returns-in-Err-clause-output
returns-in-Err-clause-output c =
    IfOk-map c.into_output.result _ _
    (λ o line. output_told (IsSequelOutput c.args.goal c.args.sequel.now) (λ f. f ≡ fault.OutOfMemory) c.in-Err.error (o.text.items) o.status c.in-Err.ensures.refused line)
    c.into_output.ensures.output

pub returns-in-Err-clause-err : goal.returns-in-Err-clause-err
returns-in-Err-clause-err c =
    IfErr-map c.into_output.result _ _
    (λ f why. fault_told (IsSequelOutput c.args.goal c.args.sequel.now) (λ f. f ≡ fault.OutOfMemory) c.in-Err.error f c.in-Err.ensures.refused refl why)
    c.into_output.ensures.err
