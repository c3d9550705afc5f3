use Rattle.std.proofs.Common.{rules}
use Rattle.lrc_slots.proofs.SetLemmas.{inserted-listed, inserted-first, inserted-more, some-marked}
use Rattle.lrc_slots.proofs.ordinal_sets.OrdinalSets.insert.Goals as goal

pub invariant_of-self : goal.invariant_of-self
invariant_of-self c = rw c.insert-then-not-is_used.ensures (inserted-first c.self.invariant c.args.load c.args.ordinal c.requires.load c.requires.ordinal
    c.index_mut-set.result.now c.index_mut-set.ensures.value c.insert.new.self c.insert.ensures)

pub returns-then-not-is_used : goal.returns-then-not-is_used
returns-then-not-is_used c = λ l r. rw (← c.self.view_is) (inserted-listed c.self.invariant c.args.load c.args.ordinal c.requires.load c.requires.ordinal
    c.index_mut-set.result.now c.index_mut-set.ensures.value c.insert.new.self c.insert.ensures l r)

pub returns-else-not-is_used : goal.returns-else-not-is_used
returns-else-not-is_used c = λ l r. rw (← c.self.view_is) (inserted-listed c.self.invariant c.args.load c.args.ordinal c.requires.load c.requires.ordinal
    c.index_mut-set.result.now c.index_mut-set.ensures.value c.insert.new.self c.insert.ensures l r)

pub invariant_of-self-else-not-is_used : goal.invariant_of-self-else-not-is_used
invariant_of-self-else-not-is_used c =
    let near = c.has_near-is_used.ensures.some (search rules) in
    inserted-more c.self.invariant c.args.load c.args.ordinal c.requires.load c.requires.ordinal
    c.index_mut-set.result.now c.index_mut-set.ensures.value c.insert.new.self c.insert.ensures
    (some-marked c.self.invariant c.args.load c.args.ordinal c.requires.load c.requires.ordinal
    c.index_mut-set.result.now c.index_mut-set.ensures.value near.0 near.2)
