use Rattle.std.proofs.Common.{◌≡◌, ◌++◌, ℕ, List, IfOk, refl, ap, subst, ◌∙◌, flat_map, rules}
use Rattle.lrc_topology.specs.declared.NodeInfo.{NodeInfo}
use Rattle.lrc_book.specs.Books.{state_of}
use Rattle.lrc_text.specs.Tables.{load_row}
use Rattle.lrc_text.specs.Writers.{text_in}
use Rattle.lrc_text.proofs.TableLemmas.{found_in, loads_told}
use Rattle.lrc_text.proofs.tables.with_load_table.Goals as goal

pub loop-node-init : goal.loop-node-init
loop-node-init c =
    let nodes = c.topology.result.now in
    let is : c.into_iter-node-iterator.result ≡ nodes = search rules in
    record {
      between = c.begin_table-table.ensures.between;
      told = ap (λ (ns : List NodeInfo). text_in c.begin_table-table.result ++ flat_map (load_row (state_of c.args.book.now)) ns) (is ∙ c.topology.ensures);
      known = found_in nodes c.args.book.now.nodes c.into_iter-node-iterator.result c.nodes-node-items.ensures.known c.topology.ensures is;
    }

pub returns-clause-text : goal.returns-clause-text
returns-clause-text c =
    let told = loads_told c.args.book.now.nodes (state_of c.args.book.now) c.args.book.now.nodes c.loop-node.node-iterator _ _ _ c.args.text.items c.loop-node.invariant.told c.in-None.ensures.steps.0
    c.begin_table-table.ensures.text c.in_ok-extend_from_slice.ensures.items refl in
    subst (λ (t : List ℕ). IfOk c.end_table.result (λ v. v.items ≡ t)) told c.end_table.ensures.text
