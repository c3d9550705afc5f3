use Rattle.std.proofs.Common.{◌≡◌, ◌⊎◌, inl, refl}
use Rattle.lrc_streams.specs.declared.streams.RunFault.TheVariants as fault
use Rattle.lrc_outputs.specs.Outputs.{RunsSeveral, IsOutput}
use Rattle.lrc_openings.proofs.ResultLemmas.{IfOk-map, IfErr-map}
use Rattle.lrc_outputs.proofs.ErrorLemmas.{output_told, fault_told}
use Rattle.lrc_outputs.proofs.running.output_of.Goals as goal

pub returns-in-Err-clause-output : goal.returns-in-Err-clause-output
returns-in-Err-clause-output g c =
    IfOk-map c.into_output.result _ _
    (λ o line. output_told (IsOutput c.args.bundle.items) (λ f. (f ≡ fault.OutOfMemory) ⊎ ((f ≡ fault.NoReader) × RunsSeveral c.args.bundle.items)) c.in-Err.error (o.text.items) o.status c.in-Err.ensures.refused line)
    c.into_output.ensures.output

pub returns-in-Err-clause-err : goal.returns-in-Err-clause-err
returns-in-Err-clause-err g c =
    IfErr-map c.into_output.result _ _
    (λ f why. fault_told (IsOutput c.args.bundle.items) (λ f. (f ≡ fault.OutOfMemory) ⊎ ((f ≡ fault.NoReader) × RunsSeveral c.args.bundle.items)) c.in-Err.error f c.in-Err.ensures.refused (inl refl) why)
    c.into_output.ensures.err
