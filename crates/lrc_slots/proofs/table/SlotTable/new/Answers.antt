use Rattle.std.proofs.Common.{sym, ◌∙◌}
use Rattle.std.proofs.lemmas.Simd.{map-map}
use Rattle.lrc_slots.specs.Tables.{Row}
use Rattle.lrc_slots.specs.Rows.{fresh_row}
use Rattle.lrc_slots.proofs.TableLemmas.{slots_of-fresh}
use Rattle.lrc_slots.proofs.SetupLemmas.{fresh-each}
use Rattle.lrc_slots.proofs.table.SlotTable.new.Goals as goal

pub of_rows-requires-clause-nodes : goal.of_rows-requires-clause-nodes
of_rows-requires-clause-nodes c = c.in_ok-rows.ensures.nodes

pub of_rows-requires-clause-numbers : goal.of_rows-requires-clause-numbers
of_rows-requires-clause-numbers c = rw c.in_ok-rows.ensures.value (c.in_ok-index.ensures.value ∙ sym (map-map (λ (r : Row). r.node.number) fresh_row c.args.topology.now))

pub of_rows-requires-clause-fresh : goal.of_rows-requires-clause-fresh
of_rows-requires-clause-fresh c = rw c.in_ok-rows.ensures.value (fresh-each c.args.topology.now)

pub returns-clause-value : goal.returns-clause-value
returns-clause-value c = rw (c.in_ok-of_rows.ensures, c.in_ok-rows.ensures.value) (slots_of-fresh c.args.topology.now)
