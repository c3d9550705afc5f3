use Rattle.lrc_rows.specs.NodeStates.{states_in}
use Rattle.lrc_stripes.specs.Tables.{stored_in}
use Rattle.lrc_stripes.proofs.stripes.Stripes.is_down.Goals as goal

pub returns : goal.returns
unfolding stored_in states_in
returns c = rw (← c.self.view_is) c.is_down.ensures
