use Rattle.std.proofs.Common.{List, ap, subst, ◌∙◌}
use Rattle.std.specs.List.{slice_get}
use Rattle.lrc_topology.specs.declared.NodeInfo.{NodeInfo}
use Rattle.lrc_stripes.specs.Stored.{Stored, AreAtRisk}
use Rattle.lrc_terms.specs.Stripes.{StripeLevel}
use Rattle.lrc_rules.specs.Urgency.{risk}
use Rattle.lrc_book.specs.Books.{state_of}
use Rattle.lrc_book.proofs.LookLemmas.{first-left}
use Rattle.lrc_book.proofs.book.Book.first_at_risk.Goals as goal
use Rattle.lrc_store.proofs.WorkLemmas.{risk-is}

pub returns : goal.returns
returns c =
    let store = c.store.result.now in
    let st = state_of c.args.self.now in
    let kept = c.store.ensures.kept in
    let are = subst (λ (t : Stored). AreAtRisk t c.at_risk.result) kept.stripes_is c.at_risk.ensures in
    first-left c.at_risk.result c.next.new.self c.next.result c.next.ensures.steps
    ∙ ap (λ (rows : List StripeLevel). slice_get rows 0) (risk-is store.topology st c.at_risk.result are kept.seated.stripes)
    ∙ ap (λ (nodes : List NodeInfo). slice_get (risk nodes st) 0) c.store.ensures.nodes
