use Rattle.std.proofs.Common.{rules, ◌≡◌, ◌++◌, List, map, ap, ◌∙◌}
use Rattle.lrc_book.specs.Books.{state_of}
use Rattle.lrc_text.proofs.TableLemmas.{found_in}
use Rattle.lrc_show.specs.declared.nodes.NodeFacts.{NodeFacts}
use Rattle.lrc_show.specs.Facts.{node_facts}
use Rattle.lrc_show.proofs.nodes.facts_of_nodes.Goals as goal

pub loop-node-init : goal.loop-node-init
loop-node-init c =
    let facts = node_facts (state_of c.args.book.now) in
    let left = c.into_iter-node-iterator.result in
    let is : left ≡ c.topology.result.now = search rules in
    record {
      told = ap (λ (l : List NodeFacts). l ++ map facts left) c.new-rows.ensures.items ∙ ap (map facts) (is ∙ c.topology.ensures);
      known = found_in c.topology.result.now c.args.book.now.nodes left c.nodes-node-items.ensures.known c.topology.ensures is;
    }
