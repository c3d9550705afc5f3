use Rattle.std.proofs.Common.{false, refl, sym, subst}
use Rattle.lrc_outputs.specs.Outputs.{IsOutput, ArePrinted}
use Rattle.lrc_tool.specs.Inputs.{running}
use Rattle.lrc_tool.proofs.ReadLemmas.{bundles_alike}
use Rattle.lrc_tool.proofs.AnswersLemmas.{answers}
use Rattle.lrc_tool.proofs.program.run.Goals as goal

pub returns : goal.returns
returns g c = record {
  answers =
      answers running (bundles_alike ArePrinted) false _ _ _ _ _ _ c.in_ok-output.output.status _ refl c.in_ok-bundle.ensures.read c.read_all.ensures.most c.in_ok-bundle.ensures.failed
      (subst (λ t. IsOutput c.in_ok-bundle.bundle.items t c.in_ok-output.output.status) (sym c.as_slice.ensures.value) c.in_ok-output.ensures.output) refl tt refl c.write_outcome.ensures;
}
