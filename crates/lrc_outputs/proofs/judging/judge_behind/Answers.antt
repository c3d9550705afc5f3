use Rattle.std.proofs.Common.{List, ℕ, Err, ap, subst}
use Rattle.std.proofs.lemmas.Result.{err_from_is_err_and}
use Rattle.lrc_topology.specs.Documents.{IsTopologyOf, IsRefusedBy}
use Rattle.lrc_outputs.specs.RefusedInputs.{bad_line_text_behind}
use Rattle.lrc_outputs.proofs.JudgedLemmas.{long_refused, many_refused, topology_refused, line_refused, judged_good}
use Rattle.lrc_outputs.proofs.judging.judge_behind.Goals as goal

pub returns-then-bundle-gt-BUNDLE_LIMIT-clause-refused : goal.returns-then-bundle-gt-BUNDLE_LIMIT-clause-refused
returns-then-bundle-gt-BUNDLE_LIMIT-clause-refused c = long_refused c.args.most (bad_line_text_behind c.args.passed) c.args.bundle.now c.if-bundle-gt-BUNDLE_LIMIT.true

pub returns-in_err-parts-clause-refused : goal.returns-in_err-parts-clause-refused
returns-in_err-parts-clause-refused c =
    let p = err_from_is_err_and c.from_residual.result c.from_residual.ensures.1 in
    rw (p.1, p.2)
    (many_refused c.args.most (bad_line_text_behind c.args.passed) c.args.bundle.now c.if-bundle-gt-BUNDLE_LIMIT.false c.in_err-parts.field-0.0 (λ is. c.in_err-parts.ensures.many (ap Err is)))

pub returns-in_err-topology-clause-refused : goal.returns-in_err-topology-clause-refused
returns-in_err-topology-clause-refused c =
    let p = err_from_is_err_and c.from_residual-in_err-topology.result c.from_residual-in_err-topology.ensures.1 in
    let error = c.in_err-topology.field-0.0 in
    let why = subst (λ (text : List ℕ). IsRefusedBy text error) c.in_ok-parts.ensures.topology c.in_err-topology.ensures.refused in
    rw (p.1, p.2)
    (topology_refused c.args.most (bad_line_text_behind c.args.passed) c.args.bundle.now c.if-bundle-gt-BUNDLE_LIMIT.false c.in_ok-parts.ensures.few error why)

pub returns-in_err-scripts-clause-refused : goal.returns-in_err-scripts-clause-refused
returns-in_err-scripts-clause-refused c =
    let p = err_from_is_err_and c.from_residual-in_err-scripts.result c.from_residual-in_err-scripts.ensures.1 in
    let topology = c.in_ok-topology.topology in
    let parts = c.in_ok-parts in
    let read = subst (λ (text : List ℕ). IsTopologyOf text topology) parts.ensures.topology c.in_ok-topology.ensures.ok in
    let bad = rw c.as_slice.ensures.value at c.in_err-scripts.ensures.bad in
    rw (p.1, p.2)
    (line_refused c.args.most c.args.bundle.now topology parts.parts.scripts.items c.if-bundle-gt-BUNDLE_LIMIT.false c.requires.few parts.ensures.few read parts.ensures.scripts
    c.args.passed c.in_err-scripts.field-0.0 bad)

pub returns-clause-accepted : goal.returns-clause-accepted
returns-clause-accepted c =
    let topology = c.in_ok-topology.topology in
    let parts = c.in_ok-parts in
    let read = subst (λ (text : List ℕ). IsTopologyOf text topology) parts.ensures.topology c.in_ok-topology.ensures.ok in
    judged_good c.args.most c.args.bundle.now topology parts.parts.scripts.items c.if-bundle-gt-BUNDLE_LIMIT.false c.requires.few parts.ensures.few read parts.ensures.scripts
    c.in_ok-scripts.scripts.items (rw c.as_slice.ensures.value at c.in_ok-scripts.ensures.parsed)
