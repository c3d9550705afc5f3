use Rattle.std.proofs.Common.{List, ◌≡◌, ◌++◌, append-nil, sym, ap, ◌∙◌, subst}
use Rattle.lrc_topology.specs.declared.NodeInfo.{NodeInfo}
use Rattle.lrc_stripes.specs.Stored.{Stored, AreAtRisk}
use Rattle.lrc_terms.specs.Stripes.{StripeLevel}
use Rattle.lrc_rules.specs.Urgency.{risk}
use Rattle.lrc_book.specs.Books.{state_of}
use Rattle.lrc_book.proofs.book.Book.risk.Goals as goal
use Rattle.lrc_store.proofs.WorkLemmas.{risk-is}

pub returns-clause-value : goal.returns-clause-value
returns-clause-value c =
    let store = c.store.result.now in
    let st = state_of c.args.self.now in
    let kept = c.store.ensures.kept in
    let all : c.loop-row.rows.items ≡ c.at_risk-row-items.result =
    sym (append-nil c.loop-row.rows.items) ∙ sym (ap (λ (rest : List StripeLevel). c.loop-row.rows.items ++ rest) c.in-None.ensures.steps.0) ∙ c.loop-row.invariant ∙ c.into_iter-row-iterator.ensures.into_iter_gives in
    let are = subst (λ (t : Stored). AreAtRisk t c.at_risk-row-items.result) kept.stripes_is c.at_risk-row-items.ensures in
    all ∙ risk-is store.topology st c.at_risk-row-items.result are kept.seated.stripes
    ∙ ap (λ (nodes : List NodeInfo). risk nodes st) c.store.ensures.nodes
