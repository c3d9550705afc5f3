use Rattle.std.proofs.Common.{true, inl, inr}
use Rattle.std.proofs.lemmas.Bool.{cases_lt, lt-ltb, le-ltb}
use Rattle.lrc_slots.proofs.RowLemmas.{listed-room, listed-full}
use Rattle.lrc_slots.proofs.node_slots.NodeSlots.listing.Goals as goal

pub returns-then-self-clause-value : goal.returns-then-self-clause-value
returns-then-self-clause-value c =
    let s = c.self.inside in
    let counted = rw (← c.self.view_is) at c.requires in
    λ k. rw (← c.self.view_is, c.if-self.true) (elim (cases_lt c.args.load s.node.slots) [
      | inl room ↦ rw (lt-ltb _ _ room) (listed-room s.node c.args.load s.marks c.self.invariant counted room k)
      | inr full ↦ rw (le-ltb _ _ full) (listed-full s.node c.args.load s.marks c.self.invariant counted true full k)
    ])
