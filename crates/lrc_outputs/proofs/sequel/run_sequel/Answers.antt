use Rattle.std.proofs.lemmas.Result.{err_from_is_err_and}
use Rattle.lrc_openings.proofs.ResultLemmas.{IfOk-map, IfErr-map}
use Rattle.lrc_outputs.specs.Sequels.{bundle_part, going_to, IsSequelOutput}
use Rattle.lrc_outputs.proofs.ErrorLemmas.{refused_as}
use Rattle.lrc_outputs.proofs.SequelLemmas.{fresh_book, one_script, refused_going, reached_by}
use Rattle.lrc_outputs.proofs.sequel.run_sequel.Goals as goal

pub reach-requires-clause-fresh : goal.reach-requires-clause-fresh
reach-requires-clause-fresh c =
    let begun = c.in_ok-begun.begun in
    rw c.deref_mut.ensures.value (fresh_book c.args.sequel.now begun.book.value begun.scripts.items c.in_ok-begun.ensures.begun)

pub reach-requires-clause-alone : goal.reach-requires-clause-alone
reach-requires-clause-alone c =
    let begun = c.in_ok-begun.begun in
    rw c.as_slice.ensures.value (one_script (bundle_part c.args.sequel.now) begun.book.value.nodes begun.scripts.items c.in_ok-begun.ensures.begun.accepted)

pub returns-in_err-begun-clause-refused : goal.returns-in_err-begun-clause-refused
returns-in_err-begun-clause-refused c =
    let p = err_from_is_err_and c.from_residual.result c.from_residual.ensures.1 in
    rw (p.1, p.2) (refused_as _ (IsSequelOutput c.args.goal c.args.sequel.now) (λ text status. refused_going (going_to c.args.goal) c.args.sequel.now text status) c.in_err-begun.field-0.0 c.in_err-begun.ensures.refused)

pub returns-clause-output : goal.returns-clause-output
returns-clause-output c =
    let begun = c.in_ok-begun.begun in
    let reached = rw (c.deref_mut.ensures.value, c.as_slice.ensures.value) at c.reach.ensures.output in
    IfOk-map c.reach.result _ _
    (λ o h. reached_by c.args.goal c.args.sequel.now o.text.items o.status begun.book.value begun.scripts.items c.in_ok-begun.ensures.begun h) reached

pub returns-clause-refused : goal.returns-clause-refused
returns-clause-refused c =
    let begun = c.in_ok-begun.begun in
    let refused = rw (c.deref_mut.ensures.value, c.as_slice.ensures.value) at c.reach.ensures.refused in
    IfErr-map c.reach.result _ _
    (λ e h. refused_as _ (IsSequelOutput c.args.goal c.args.sequel.now)
    (λ text status reached. reached_by c.args.goal c.args.sequel.now text status begun.book.value begun.scripts.items c.in_ok-begun.ensures.begun reached) e h) refused
