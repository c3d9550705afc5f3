use Rattle.std.proofs.Common.{List, sym, ap, ◌∙◌}
use Rattle.lrc_topology.specs.declared.NodeInfo.{NodeInfo}
use Rattle.lrc_stripes.specs.Stored.{Stored}
use Rattle.lrc_book.specs.Books.{state_of}
use Rattle.lrc_book.specs.Looks.{is_granted_now}
use Rattle.lrc_book.proofs.LookLemmas.{granted-there, granted-absent}
use Rattle.lrc_book.proofs.book.Book.is_grantable.Goals as goal

pub waiting-requires : goal.waiting-requires
waiting-requires c = sym c.contains.ensures ∙ c.if-contains.true

pub waiting_repair-requires-clause-tied : goal.waiting_repair-requires-clause-tied
waiting_repair-requires-clause-tied c = (state_of c.args.self.now, c.store-store.ensures.kept)

pub waiting_repair-requires-clause-there : goal.waiting_repair-requires-clause-there
waiting_repair-requires-clause-there c = sym c.contains.ensures ∙ c.if-contains.true

pub waiting_repair-requires-clause-waiting : goal.waiting_repair-requires-clause-waiting
waiting_repair-requires-clause-waiting c = λ st kept. c.waiting.ensures st c.args.fragment kept

pub returns-then-contains : goal.returns-then-contains
returns-then-contains c =
    let st = state_of c.args.self.now in
    let store = c.store-store.result.now in
    let kept = c.store-store.ensures.kept in
    let s = c.args.stripe in
    let f = c.args.fragment in
    let there = sym (ap (λ (t : Stored). t.stripes s) kept.stripes_is) ∙ (sym c.contains.ensures ∙ c.if-contains.true) in
    c.is_some.ensures ∙ c.waiting_repair.ensures.grantable st kept ∙ granted-there store.topology st s f there
    ∙ ap (λ (nodes : List NodeInfo). is_granted_now nodes st s f) c.store-store.ensures.nodes

pub returns-else-contains : goal.returns-else-contains
returns-else-contains c =
    let st = state_of c.args.self.now in
    let store = c.store-store.result.now in
    let kept = c.store-store.ensures.kept in
    let s = c.args.stripe in
    let f = c.args.fragment in
    let none = sym (ap (λ (t : Stored). t.stripes s) kept.stripes_is) ∙ (sym c.contains.ensures ∙ c.if-contains.false) in
    c.if-contains.false ∙ granted-absent store.topology st s f none
    ∙ ap (λ (nodes : List NodeInfo). is_granted_now nodes st s f) c.store-store.ensures.nodes
