use Rattle.std.proofs.Common.{List, Some, ap, sym, ◌∙◌}
use Rattle.lrc_topology.specs.declared.NodeInfo.{NodeInfo}
use Rattle.lrc_nodes.specs.States.{down_in}
use Rattle.lrc_stripes.specs.Stored.{Stored}
use Rattle.lrc_book.specs.Books.{state_of}
use Rattle.lrc_book.specs.Looks.{down_shown}
use Rattle.lrc_book.proofs.LookLemmas.{down-shown}
use Rattle.lrc_book.proofs.book.Book.is_down.Goals as goal

pub returns-in-Some : goal.returns-in-Some
returns-in-Some c =
    let st = state_of c.args.self.now in
    let n = c.args.node in
    let kept = c.store-store.ensures.kept in
    ap Some (c.is_down.ensures ∙ ap (λ (t : Stored). down_in t.nodes n) kept.stripes_is)
    ∙ down-shown c.store-store.result.now.topology st n _ (sym c.node.ensures ∙ c.in-Some.is)
    ∙ ap (λ (nodes : List NodeInfo). down_shown nodes st n) c.store-store.ensures.nodes
