use Rattle.std.proofs.Common.{true, false, not, is_none, refl, sym, ap, subst, ◌∙◌}
use Rattle.lrc_outputs.specs.declared.sequel.Goal.{Goal}
use Rattle.lrc_outputs.specs.Limits.{sequel_limit}
use Rattle.lrc_outputs.specs.Sequels.{going_to}
use Rattle.lrc_tool.specs.Inputs.{IsWorded, IsWordedOutput, asking}
use Rattle.lrc_tool.proofs.ReadLemmas.{AnswersAlike, sequels_alike}
use Rattle.lrc_tool.proofs.AnswersLemmas.{keeps_same, answers}
use Rattle.lrc_tool.proofs.apart.ask.Goals as goal

worded_alike : (goal : Goal) → AnswersAlike sequel_limit (IsWordedOutput goal)
worded_alike goal a b text status p q h =
    record { output = h.output; is_output = sequels_alike (going_to goal) a b h.output status p q h.is_output; worded = h.worded }

pub returns-in-None : goal.returns-in-None
returns-in-None g c =
    let apart = ap not (c.in_ok-output.output.answered ∙ ap is_none c.in-None.is) in
    record {
      answers =
          answers (asking c.args.goal) (worded_alike c.args.goal) false _ _ _ _ _ _ c.in_ok-output.output.status _ c.as_slice.ensures.value c.in_ok-sequel.ensures.read c.read_all.ensures.most
          c.in_ok-sequel.ensures.failed
          (record {
            output = c.in_ok-output.output.text.items;
            is_output = c.in_ok-output.ensures.output;
            worded = subst (λ x. IsWorded x c.in_ok-output.output.text.items c.as_slice-in-None.result.now) (sym apart) c.as_slice-in-None.ensures.value;
          }) apart (keeps_same _) refl c.write_outcome.ensures;
    }

pub returns : goal.returns
returns g c =
    let apart = ap not (c.in_ok-output.output.answered ∙ ap is_none c.in-Some.is) in
    record {
      answers =
          answers (asking c.args.goal) (worded_alike c.args.goal) true _ _ _ _ _ _ c.in_ok-output.output.status _ c.as_slice.ensures.value c.in_ok-sequel.ensures.read c.read_all.ensures.most
          c.in_ok-sequel.ensures.failed
          (record {
            output = c.in_ok-output.output.text.items;
            is_output = c.in_ok-output.ensures.output;
            worded = subst (λ x. IsWorded x c.in_ok-output.output.text.items c.as_slice-in-Some.result.now) (sym apart)
                (c.in-Some.refusal, (rw c.in-Some.is at c.in_ok-output.output.told), c.as_slice-in-Some.ensures.value ∙ c.in_ok-told-in-Some.ensures);
          }) apart (keeps_same _) refl c.write_outcome-in-Some.ensures;
    }
