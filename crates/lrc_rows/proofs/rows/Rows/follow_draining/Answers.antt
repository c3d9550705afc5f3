use Rattle.lrc_rows.specs.NodeStates.{states_in}
use Rattle.lrc_rows.specs.Listed.{rows_in}
use Rattle.lrc_rows.proofs.RenewLemmas.{kept-draining}
use Rattle.lrc_rows.proofs.rows.Rows.follow_draining.Goals as goal

pub returns-then-is_draining-clause-kept : goal.returns-then-is_draining-clause-kept
returns-then-is_draining-clause-kept c =
    let e = c.renew_needs.ensures.rows in
    kept-draining (states_in c.args.node_table.now) (rows_in c.args.self.now.list) (rows_in c.renew_needs.new.self.list) (record { losses = c.requires.losses; domains = c.requires.domains; listed = c.requires.listed }) c.args.node c.args.is_draining
    (record { listed = e.listed; others = e.others })
