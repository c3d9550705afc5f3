use Rattle.lrc_slots.specs.Indexes.{listed}
use Rattle.lrc_slots.proofs.SetLemmas.{unlisted, unlisted-none}
use Rattle.lrc_slots.proofs.ordinal_sets.OrdinalSets.unlist.Goals as goal

pub returns-then-listing : goal.returns-then-listing
returns-then-listing c = λ k r. rw (c.remove.ensures k r)
    (unlisted c.args.listing.load c.args.ordinal (listed c.args.self.now) (λ j. rw c.if-listing.true at (c.requires.shown j)) k r)

pub returns-else-listing : goal.returns-else-listing
returns-else-listing c = λ k r. unlisted-none c.args.ordinal (listed c.args.self.now) (λ j. rw c.if-listing.false at (c.requires.shown j)) k r
