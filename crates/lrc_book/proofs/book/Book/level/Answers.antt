use Rattle.std.proofs.Common.{List, ap, ◌∙◌}
use Rattle.lrc_topology.specs.declared.NodeInfo.{NodeInfo}
use Rattle.lrc_stripes.specs.Stored.{Stored, level_shown}
use Rattle.lrc_rules.specs.States as states
use Rattle.lrc_store.proofs.NodeStateLemmas.{level-kept}
use Rattle.lrc_book.specs.Books.{state_of}
use Rattle.lrc_book.proofs.book.Book.level.Goals as goal

pub returns : goal.returns
returns c =
    c.level.ensures ∙ ap (λ (x : Stored). level_shown x c.args.stripe) c.store.ensures.kept.stripes_is
    ∙ level-kept c.store.result.now.topology (state_of c.args.self.now) c.args.stripe
    ∙ ap (λ (nodes : List NodeInfo). states.level_shown nodes (state_of c.args.self.now) c.args.stripe) c.store.ensures.nodes
