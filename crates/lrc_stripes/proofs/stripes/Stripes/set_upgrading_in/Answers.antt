use Rattle.std.proofs.Common.{List, Option, arith, ap, sym, subst, ◌∙◌}
use Rattle.lrc_code.specs.declared.numbers.StripeNo.{StripeNo}
use Rattle.lrc_nodes.specs.States.{with_upgrading_in}
use Rattle.lrc_rows.specs.declared.row.Row.{Row}
use Rattle.lrc_rows.specs.Kept.{IsKept, AreSameStripes}
use Rattle.lrc_rows.specs.NodeStates.{NodeLists, states_in, AreUpgrading}
use Rattle.lrc_stripes.specs.Tables.{stored_in}
use Rattle.lrc_rows.specs.Listed.{rows_in}
use Rattle.lrc_rows.proofs.RenewLemmas.{kept-upgrading, same-stripes}
use Rattle.lrc_rows.proofs.UpgradingLemmas.{upgrading-set}
use Rattle.lrc_stripes.proofs.StoredLemmas.{stored-set}
use Rattle.lrc_stripes.proofs.UpgradeLemmas.{like-upgrading, verdicts-stay, all-same, several-same}
use Rattle.lrc_stripes.proofs.stripes.Stripes.set_upgrading_in.Goals as goal

pub invariant_of-self : goal.invariant_of-self
invariant_of-self c =
    let s = c.self.inside in
    let u = c.args.domain in
    let b = c.args.is_upgrading in
    let nodes = c.set_upgrading_in.ensures in
    let rows = c.set_upgrading_in-2.ensures in
    record {
      kept = subst (λ (t : NodeLists). IsKept (states_in t) (rows_in c.set_upgrading_in-2.new.self.list)) (sym nodes)
          (subst (λ (list : List (Option Row)). IsKept (states_in (record s.node_table { list = with_upgrading_in s.node_table.list u b })) (rows_in list)) (sym rows.rows)
          (kept-upgrading s.node_table u b (rows_in s.rows.list) c.self.invariant.kept));
      upgrading = subst (λ (t : NodeLists). AreUpgrading t.list c.set_upgrading_in-2.new.self.upgrading) (sym nodes)
          (subst (AreUpgrading (with_upgrading_in s.node_table.list u b)) (sym rows.upgrading) (upgrading-set s.node_table.list u (omega arith) b s.rows.upgrading c.self.invariant.upgrading));
      verdicts =
          let z = states_in s.node_table in
          let y = states_in c.set_upgrading_in.new.self in
          let at = like-upgrading s.node_table c.set_upgrading_in.new.self u b nodes in
          let same = subst (λ (list : List (Option Row)). AreSameStripes (rows_in s.rows.list) (rows_in list)) (sym rows.rows) (same-stripes (rows_in s.rows.list)) in
          verdicts-stay _ _ _ _ s.verdicts (all-same z y at.nodes at.up s.rows.list c.set_upgrading_in-2.new.self.list same) (several-same z y at.nodes at.up s.rows.list c.set_upgrading_in-2.new.self.list same at.on) c.self.invariant.verdicts;
    }

pub returns : goal.returns
unfolding stored_in states_in
returns c =
    let s = c.self.inside in
    rw (← c.self.view_is)
    (stored-set s.node_table c.set_upgrading_in.new.self (with_upgrading_in s.node_table.list c.args.domain c.args.is_upgrading) s.rows.list c.set_upgrading_in-2.new.self.list
    (ap (λ (t : NodeLists). t.list) c.set_upgrading_in.ensures)
    (subst (λ (list : List (Option Row)). AreSameStripes (rows_in s.rows.list) (rows_in list)) (sym c.set_upgrading_in-2.ensures.rows) (same-stripes (rows_in s.rows.list))))
