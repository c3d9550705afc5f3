use Rattle.lrc_slots.proofs.RowLemmas.{absent-found, absent-least}
use Rattle.lrc_slots.proofs.node_slots.NodeSlots.known_free.Goals as goal

pub unwrap-requires : goal.unwrap-requires
unwrap-requires c =
    let s = c.self.inside in
    absent-found s.node s.eligible s.marks c.self.invariant (rw (← c.self.view_is) at c.requires) c.first_absent.result c.first_absent.ensures

pub returns : goal.returns
returns c =
    let s = c.self.inside in
    rw (← c.self.view_is) (absent-least s.node s.eligible s.marks c.self.invariant (rw (← c.self.view_is) at c.requires) c.unwrap.result
    (rw c.unwrap.ensures at c.first_absent.ensures))
