use Rattle.std.proofs.Common.{rules, ◌≡◌, ℕ, List, ◌++◌, codes, map, string_bytes, ap, ◌∙◌}
use Rattle.lrc_book.specs.Books.{state_of}
use Rattle.lrc_show.specs.Facts.{node_facts, facts_row}
use Rattle.lrc_show.proofs.ListLemmas.{table-all}
use Rattle.lrc_show.proofs.NodeLemmas.{rows-told}
use Rattle.lrc_show.proofs.nodes.push_nodes.Goals as goal

pub returns-clause-text : goal.returns-clause-text
returns-clause-text c =
    let st = state_of c.args.book.now in
    let nodes = c.args.book.now.nodes in
    let leases = c.in_ok-leases.leases.items in
    let items = c.as_slice-node-items.result.now in
    let head = codes "node,fault,upgrade,mode,down,upgrading,online,homes,targets,load,slots\n" in
    let old = string_bytes c.args.out.now in
    let all : items ≡ map (node_facts st) nodes = search rules in
    table-all (facts_row st leases) items (map (node_facts st) nodes) c.loop-node.node-index head old _ (string_bytes c.loop-node.out) c.loop-node-test.false c.loop-node.invariant
    c.in_ok-push_str.ensures.bytes all
    ∙ ap (λ (rows : List ℕ). old ++ (head ++ rows)) (rows-told st leases c.in_ok-leases.ensures.value nodes)
