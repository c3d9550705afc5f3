use Rattle.std.proofs.Common.{ap, sym, ◌∙◌, subst}
use Rattle.lrc_store.specs.declared.store.Store.{Store}
use Rattle.lrc_store.specs.Stores.{IsOf}
use Rattle.lrc_rules.specs.Histories.{state_from}
use Rattle.lrc_book.specs.Books.{BookView, base_world, state_of}
use Rattle.lrc_book.proofs.book.Book.store.Goals as goal

pub returns-clause-nodes : goal.returns-clause-nodes
returns-clause-nodes c = ap (λ (k : Store). k.topology) c.deref.ensures ∙ ap (λ (b : BookView). b.nodes) c.self.view_is

pub returns-clause-kept : goal.returns-clause-kept
returns-clause-kept c =
    let b = c.self.inside in
    let st = state_from b.store.value.topology (base_world b.base) b.history.items in
    subst (λ (v : BookView). IsOf (state_of v) c.deref.result.now) c.self.view_is
    (subst (λ (k : Store). IsOf st k) (sym c.deref.ensures) c.self.invariant.store_is)
