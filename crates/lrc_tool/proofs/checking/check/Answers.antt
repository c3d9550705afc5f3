use Rattle.std.proofs.Common.{false, IfSome, refl, sym, subst}
use Rattle.lrc_outputs.specs.Checks.{IsCheck}
use Rattle.lrc_tool.specs.Answering.{writing}
use Rattle.lrc_tool.specs.Inputs.{checking, WritesWarnings}
use Rattle.lrc_tool.proofs.WarnedLemmas.{checked_alike, warns}
use Rattle.lrc_tool.proofs.AnswersLemmas.{answers}
use Rattle.lrc_tool.proofs.checking.check.Goals as goal

pub returns-in-Ok-clause-answers : goal.returns-in-Ok-clause-answers
returns-in-Ok-clause-answers g c =
    answers checking checked_alike false _ _ _ _ _ _ c.in_ok-checked.checked.output.status _ c.as_slice.ensures.value c.in_ok-input.ensures.read c.read_all.ensures.most
    c.in_ok-input.ensures.failed
    (subst (λ t. IsCheck c.as_slice.result.now t c.in_ok-checked.checked.output.status) (sym c.as_slice-2.ensures.value) c.in_ok-checked.ensures.line) refl tt refl
    c.in-Ok.ensures

pub returns-in-Ok-clause-warns : goal.returns-in-Ok-clause-warns
returns-in-Ok-clause-warns g c =
    let errors = writing g.E.Sink c.args.errors.now c.warn.new.errors in
    record {
      warned = subst (λ s. IfSome (g.R.Source.left c.args.source.now) (λ bytes. WritesWarnings errors bytes s)) (sym c.in-Ok.ensures.whole.is_outcome.1)
          (warns errors _ _ _ _ _ c.in_ok-checked.checked.output.status c.as_slice.ensures.value c.as_slice-in-Ok.ensures.value _ c.in_ok-input.ensures.read
          c.in_ok-checked.ensures.warned c.warn.ensures.part c.warn.ensures.whole);
      flushed = c.warn.ensures.flushed;
      untouched = tt;
    }

pub returns-clause-answers : goal.returns-clause-answers
returns-clause-answers g c =
    answers checking checked_alike false _ _ _ _ _ _ c.in_ok-checked.checked.output.status _ c.as_slice.ensures.value c.in_ok-input.ensures.read c.read_all.ensures.most
    c.in_ok-input.ensures.failed
    (subst (λ t. IsCheck c.as_slice.result.now t c.in_ok-checked.checked.output.status) (sym c.as_slice-2.ensures.value) c.in_ok-checked.ensures.line) refl tt refl
    c.in-Err.ensures
