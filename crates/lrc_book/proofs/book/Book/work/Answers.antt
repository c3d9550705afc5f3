use Rattle.std.proofs.Common.{List, ◌≡◌, ◌++◌, append-nil, sym, ap, ◌∙◌, subst}
use Rattle.lrc_code.specs.declared.numbers.StripeNo.{StripeNo}
use Rattle.lrc_topology.specs.declared.NodeInfo.{NodeInfo}
use Rattle.lrc_stripes.specs.Stored.{Stored, AreWork}
use Rattle.lrc_rules.specs.Urgency.{work}
use Rattle.lrc_book.specs.Books.{state_of}
use Rattle.lrc_book.proofs.LookLemmas.{work-is}
use Rattle.lrc_book.proofs.book.Book.work.Goals as goal

pub returns-clause-value : goal.returns-clause-value
returns-clause-value c =
    let store = c.store.result.now in
    let st = state_of c.args.self.now in
    let kept = c.store.ensures.kept in
    let all : c.loop-stripe.rows.items ≡ c.work-stripe-items.result =
    sym (append-nil c.loop-stripe.rows.items) ∙ sym (ap (λ (rest : List StripeNo). c.loop-stripe.rows.items ++ rest) c.in-None.ensures.steps.0) ∙ c.loop-stripe.invariant ∙ c.into_iter-stripe-iterator.ensures.into_iter_gives in
    let are = subst (λ (t : Stored). AreWork t c.work-stripe-items.result) kept.stripes_is c.work-stripe-items.ensures in
    all ∙ work-is store.topology st c.work-stripe-items.result are kept.seated.stripes
    ∙ ap (λ (nodes : List NodeInfo). work nodes st) c.store.ensures.nodes
