use Rattle.lrc_rows.specs.NodeStates.{states_in}
use Rattle.lrc_stripes.specs.Tables.{stored_in}
use Rattle.lrc_stripes.proofs.stripes.Stripes.mode.Goals as goal

pub returns : goal.returns
unfolding stored_in states_in
returns c = rw (← c.self.view_is) c.mode.ensures
