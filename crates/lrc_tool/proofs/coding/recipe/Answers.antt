use Rattle.std.proofs.Common.{false, refl, sym, ap, subst, ◌∙◌}
use Rattle.lrc_coding.specs.Answers.{IsAnswer}
use Rattle.lrc_outputs.specs.declared.status.Status.TheVariants.{Done}
use Rattle.lrc_tool.specs.Coding.{told_status, rebuilding}
use Rattle.lrc_tool.proofs.AnswersLemmas.{keeps_same, writes}
use Rattle.lrc_tool.proofs.coding.recipe.Goals as goal

pub returns-in-Ok : goal.returns-in-Ok
returns-in-Ok g c = record {
  writes =
      writes (rebuilding c.args.code c.args.mask.now c.args.fragment.now) c.as_slice.result.now Done
      (record {
        answer = c.recipe_for-answer.result;
        answered = subst (λ m. IsAnswer c.args.code m c.args.fragment.now c.recipe_for-answer.result) c.parse_mask.ensures c.recipe_for-answer.ensures;
        told = c.as_slice.ensures.value ∙ c.in_ok-told.ensures;
        ended = sym (ap told_status c.in-Ok.is);
      }) _ _ false refl (keeps_same _) refl _ c.write_outcome.ensures;
}
