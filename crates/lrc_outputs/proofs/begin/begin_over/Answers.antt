use Rattle.std.proofs.lemmas.Result.{err_from_is_err_and}
use Rattle.lrc_outputs.proofs.SequelLemmas.{begun_image, unbegun_image}
use Rattle.lrc_outputs.proofs.begin.begin_over.Goals as goal

pub returns-in_ok-begin_over-in-Some-clause-begun : goal.returns-in_ok-begin_over-in-Some-clause-begun
returns-in_ok-begin_over-in-Some-clause-begun c =
    rw c.in-Some.is (begun_image c.args.topology c.in-Some.image _ c.in_ok-begin_over-in-Some.ensures.begun)

pub returns-in_err-begin_over-in-Some-clause-refused : goal.returns-in_err-begin_over-in-Some-clause-refused
returns-in_err-begin_over-in-Some-clause-refused c =
    let p = err_from_is_err_and c.from_residual.result c.from_residual.ensures.1 in
    rw (c.in-Some.is, p.1, p.2) (unbegun_image c.args.topology c.in-Some.image c.in_err-begin_over-in-Some.field-0.0 c.in_err-begin_over-in-Some.ensures.refused)
