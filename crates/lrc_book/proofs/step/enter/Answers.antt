use Rattle.std.proofs.Common.{sym, ◌∙◌}
use Rattle.std.proofs.lemmas.List.{same_from_push}
use Rattle.lrc_book.proofs.step.enter.Goals as goal

pub returns-clause-kept : goal.returns-clause-kept
returns-clause-kept c = λ limit was below.
    let whole = c.push_reserved.ensures.items in
    let parts = rw c.unwrap.ensures at c.split_last.ensures.cases in
    let same = same_from_push c.args.history.now.items c.unwrap.result.1.now c.args.made c.unwrap.result.0.now (sym whole ∙ (sym c.as_slice.ensures.value ∙ parts.0)) in
    rw whole (rw same.0 (rw same.1 (c.make.ensures.kept limit (rw same.0 at was) (rw same.0 at below))))
