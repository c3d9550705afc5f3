use Rattle.std.proofs.Common.{◌≡◌, ◌++◌, subst}
use Rattle.lrc_rules.specs.Goodness.{IsGood}
use Rattle.lrc_rules.specs.Histories.{World, first_world, IsLegalFrom}
use Rattle.lrc_rules.specs.Served.{IsServed}
use Rattle.lrc_book.specs.Books.{BookView, base_world, state_of}
use Rattle.lrc_rules.proofs.GoodLemmas.{state_from-good}
use Rattle.lrc_rules.proofs.ServedLemmas.{legal-served}
use Rattle.lrc_book.proofs.book.Book.history.Goals as goal

pub returns-clause-good : goal.returns-clause-good
returns-clause-good c =
    let b = c.self.inside in
    subst (λ (v : BookView). IsGood v.nodes (v.base.past ++ v.history) (state_of v)) c.self.view_is
    (state_from-good b.store.value.topology c.self.invariant.store_is.known (base_world b.base) b.history.items c.self.invariant.legal c.self.invariant.based.good)

pub returns-clause-served : goal.returns-clause-served
returns-clause-served c =
    let b = c.self.inside in
    subst (λ (v : BookView). v.base ≡ first_world → IsServed v.nodes v.history) c.self.view_is
    (λ first. legal-served b.store.value.topology b.history.items c.self.invariant.store_is.known
    (subst (λ (base : World). IsLegalFrom b.store.value.topology base b.history.items) first c.self.invariant.legal))
