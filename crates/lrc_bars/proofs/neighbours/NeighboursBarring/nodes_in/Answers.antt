use Rattle.lrc_slots.specs.Barred.{joined}
use Rattle.lrc_slots.specs.Tables.{barred}
use Rattle.lrc_bars.specs.Neighbouring.{seats_bar}
use Rattle.lrc_bars.proofs.neighbours.NeighboursBarring.nodes_in.Goals as goal

pub returns : goal.returns
returns c =
    let n = c.args.self.now in
    let more = barred n.more.now in
    c.bar-2.ensures (joined more (seats_bar n.targets)) (c.bar.ensures more c.nodes_in-barred_nodes.ensures)
