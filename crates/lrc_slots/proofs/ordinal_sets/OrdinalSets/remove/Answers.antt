use Rattle.lrc_slots.proofs.SetLemmas.{removed-listed, removed-last, removed-one}
use Rattle.lrc_slots.proofs.ordinal_sets.OrdinalSets.remove.Goals as goal

pub invariant_of-self : goal.invariant_of-self
invariant_of-self c = rw c.remove.ensures (removed-last c.self.invariant c.args.load c.args.ordinal c.requires.load c.requires.ordinal c.index_mut-set.result.now
    c.index_mut-set.ensures.value c.remove-is_empty.new.self c.remove-is_empty.ensures.removed
    (c.remove-is_empty.ensures.none c.if-is_empty.true))

pub returns-then-is_empty : goal.returns-then-is_empty
returns-then-is_empty c = λ l r. rw (← c.self.view_is) (removed-listed c.self.invariant c.args.load c.args.ordinal c.requires.load c.requires.ordinal c.index_mut-set.result.now
    c.index_mut-set.ensures.value c.remove-is_empty.new.self c.remove-is_empty.ensures.removed l r)

pub returns-else-is_empty : goal.returns-else-is_empty
returns-else-is_empty c = λ l r. rw (← c.self.view_is) (removed-listed c.self.invariant c.args.load c.args.ordinal c.requires.load c.requires.ordinal c.index_mut-set.result.now
    c.index_mut-set.ensures.value c.remove-is_empty.new.self c.remove-is_empty.ensures.removed l r)

pub invariant_of-self-else-is_empty : goal.invariant_of-self-else-is_empty
invariant_of-self-else-is_empty c =
    let left = c.remove-is_empty.ensures.some c.if-is_empty.false in
    removed-one c.self.invariant c.args.load c.args.ordinal c.requires.load c.requires.ordinal c.index_mut-set.result.now
    c.index_mut-set.ensures.value c.remove-is_empty.new.self c.remove-is_empty.ensures.removed left.0 left.1
