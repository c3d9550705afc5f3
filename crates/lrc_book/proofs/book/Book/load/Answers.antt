use Rattle.std.proofs.Common.{List, Some, ap, sym, ◌∙◌}
use Rattle.lrc_topology.specs.declared.NodeInfo.{NodeInfo}
use Rattle.lrc_slots.specs.Slots.{Slots, load_at}
use Rattle.lrc_rules.specs.States.{load_shown}
use Rattle.lrc_book.specs.Books.{state_of}
use Rattle.lrc_store.proofs.ShownLemmas.{load-shown}
use Rattle.lrc_book.proofs.book.Book.load.Goals as goal

pub returns-in-Some : goal.returns-in-Some
returns-in-Some c =
    let kept = c.store-store.ensures.kept in
    ap Some (c.load.ensures.value ∙ ap (λ (t : Slots). load_at t c.args.node) kept.table_is)
    ∙ load-shown c.store-store.result.now.topology _ c.args.node _ kept.known kept.seated (sym c.node.ensures ∙ c.in-Some.is)
    ∙ ap (λ (nodes : List NodeInfo). load_shown nodes (state_of c.args.self.now) c.args.node) c.store-store.ensures.nodes
