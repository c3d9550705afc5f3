use Rattle.lrc_slots.proofs.TableLemmas.{slots_of-nodes}
use Rattle.lrc_slots.proofs.IndexLemmas.{mask-bars}
use Rattle.lrc_slots.proofs.BarredNodesLemmas.{barred-nodes}
use Rattle.lrc_slots.specs.Tables.{barred}
use Rattle.lrc_slots.proofs.barred_domains.BarredDomainsBarring.nodes_in.Goals as goal

pub returns : goal.returns
returns c =
    let s = c.table.inside in
    let h = c.table.invariant in
    let bars = c.args.self.now in
    let each = mask-bars h.by_fault h.by_upgrade bars c.nodes.result c.nodes.ensures in
    rw (← c.table.view_is, slots_of-nodes s.rows.items) (barred-nodes h.by_ordinal (barred bars) c.nodes.result each)
