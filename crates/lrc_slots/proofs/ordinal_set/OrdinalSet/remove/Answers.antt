use Rattle.lrc_slots.specs.OrdinalWords.{AreOrdinalWords}
use Rattle.lrc_slots.proofs.OrdinalWordLemmas.{removed-near, removed-far, words-left}
use Rattle.lrc_slots.proofs.ordinal_set.OrdinalSet.remove.Goals as goal

pub invariant_of-self : goal.invariant_of-self
invariant_of-self c =
    let near = c.has_near.ensures.some c.if-has_near.true in
    rw c.remove.ensures (removed-near c.self.invariant c.args.ordinal c.requires near.0 near.1 (rw c.remove.ensures at near.2))

pub returns : goal.returns
returns c =
    let none = rw c.remove.ensures at (c.has_near.ensures.none c.if-has_near.false) in
    let after : AreOrdinalWords c.remove.new.self c.remove-2.new.self =
    rw (c.remove.ensures, c.remove-2.ensures) (removed-far c.self.invariant c.args.ordinal c.requires none) in
    let left = words-left after c.first.result c.first.ensures c.is_none.result c.is_none.ensures in
    record { removed = rw (← c.self.view_is) c.remove.ensures; some = left.0; none = left.1 }

pub invariant_of-self-2 : goal.invariant_of-self-2
invariant_of-self-2 c =
    rw (c.remove.ensures, c.remove-2.ensures) (removed-far c.self.invariant c.args.ordinal c.requires
    (rw c.remove.ensures at (c.has_near.ensures.none c.if-has_near.false)))
