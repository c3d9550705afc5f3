use Rattle.std.proofs.Common.{List, ◌≡◌, ◌++◌, append-nil, sym, ap, ◌∙◌, subst}
use Rattle.lrc_stripes.specs.Stored.{Stored, AreHomesOn}
use Rattle.lrc_terms.specs.Stripes.{StripeFragment}
use Rattle.lrc_book.specs.Books.{state_of}
use Rattle.lrc_book.proofs.LookLemmas.{homes-is}
use Rattle.lrc_book.proofs.book.Book.homes_on.Goals as goal

pub returns-clause-value : goal.returns-clause-value
returns-clause-value c =
    let store = c.store.result.now in
    let kept = c.store.ensures.kept in
    let all : c.loop-row.rows.items ≡ c.homes_on-row-items.result =
    sym (append-nil c.loop-row.rows.items) ∙ sym (ap (λ (rest : List StripeFragment). c.loop-row.rows.items ++ rest) c.in-None.ensures.steps.0) ∙ c.loop-row.invariant ∙ c.into_iter-row-iterator.ensures.into_iter_gives in
    let are = subst (λ (t : Stored). AreHomesOn t c.args.node c.homes_on-row-items.result) kept.stripes_is c.homes_on-row-items.ensures in
    all ∙ homes-is store.topology (state_of c.args.self.now) c.args.node c.homes_on-row-items.result are
