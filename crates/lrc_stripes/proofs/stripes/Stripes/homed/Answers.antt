use Rattle.lrc_rows.specs.NodeStates.{states_in}
use Rattle.lrc_stripes.specs.Tables.{stored_in}
use Rattle.lrc_rows.specs.Listed.{rows_in}
use Rattle.lrc_stripes.proofs.KeptLemmas.{homed-within}
use Rattle.lrc_stripes.proofs.stripes.Stripes.homed.Goals as goal

pub returns-clause-within : goal.returns-clause-within
unfolding stored_in states_in
returns-clause-within c =
    let s = c.self.inside in
    rw (← c.self.view_is)
    (homed-within (states_in s.node_table) (rows_in s.rows.list) c.self.invariant.kept c.args.stripe c.homed.result (rw (← c.self.view_is) at c.requires) c.homed.ensures.homed)
