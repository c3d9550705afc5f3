use Rattle.std.proofs.Common.{false, refl, sym, subst}
use Rattle.lrc_outputs.specs.Sequels.{going_to, IsSequelOutput}
use Rattle.lrc_tool.specs.Inputs.{going_on}
use Rattle.lrc_tool.proofs.ReadLemmas.{sequels_alike}
use Rattle.lrc_tool.proofs.AnswersLemmas.{answers}
use Rattle.lrc_tool.proofs.sequel.go_on.Goals as goal

pub returns : goal.returns
returns g c = record {
  answers =
      answers (going_on c.args.goal) (sequels_alike (going_to c.args.goal)) false _ _ _ _ _ _ c.in_ok-output.output.status _ c.as_slice.ensures.value c.in_ok-sequel.ensures.read
      c.read_all.ensures.most c.in_ok-sequel.ensures.failed
      (subst (λ t. IsSequelOutput c.args.goal c.as_slice.result.now t c.in_ok-output.output.status) (sym c.as_slice-2.ensures.value) c.in_ok-output.ensures.output) refl tt refl
      c.write_outcome.ensures;
}
