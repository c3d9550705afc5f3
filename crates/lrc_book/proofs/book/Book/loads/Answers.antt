use Rattle.std.proofs.Common.{map, ap, ◌∙◌}
use Rattle.lrc_topology.specs.declared.NodeInfo.{NodeInfo}
use Rattle.lrc_rules.specs.States.{load}
use Rattle.lrc_book.specs.Books.{state_of}
use Rattle.lrc_book.proofs.LookLemmas.{loads-kept}
use Rattle.lrc_book.proofs.book.Book.loads.Goals as goal

pub returns : goal.returns
returns c =
    let st = state_of c.args.self.now in
    c.loads.ensures.value
    ∙ loads-kept st c.store.result.now c.store.ensures.kept
    ∙ ap (map (λ (m : NodeInfo). load st m.number)) c.store.ensures.nodes
