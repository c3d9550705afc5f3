use Rattle.std.proofs.Common.{Bool, not, subst}
use Rattle.lrc_rows.specs.NodeStates.{states_in}
use Rattle.lrc_rows.specs.Listed.{rows_in}
use Rattle.lrc_rows.specs.Kept.{AreRenewed, IsMissingOn}
use Rattle.lrc_rows.proofs.RenewLemmas.{up-follows}
use Rattle.lrc_rows.proofs.rows.Rows.follow_node.Goals as goal

pub returns-clause-kept : goal.returns-clause-kept
returns-clause-kept c = λ up kept.
    let z = states_in c.args.node_table.now in
    let e = c.renew_missing.ensures.rows in
    up-follows z up c.args.node (rows_in c.args.self.now.list) (rows_in c.renew_missing.new.self.list) kept
    (subst (λ (b : Bool). AreRenewed (z.on c.args.node) (IsMissingOn c.args.node (not b)) (rows_in c.args.self.now.list) (rows_in c.renew_missing.new.self.list)) c.is_up-is_up.ensures
    (record { listed = e.listed; others = e.others }))
