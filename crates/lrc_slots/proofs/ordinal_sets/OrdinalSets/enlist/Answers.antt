use Rattle.lrc_slots.specs.Indexes.{listed}
use Rattle.lrc_slots.proofs.SetLemmas.{enlisted, unlisted-none}
use Rattle.lrc_slots.proofs.ordinal_sets.OrdinalSets.enlist.Goals as goal

pub returns-then-listing : goal.returns-then-listing
returns-then-listing c = λ k r. rw (c.insert.ensures k r, c.if-listing.true)
    (enlisted c.args.listing.load c.args.ordinal (listed c.args.self.now) c.requires.none k r)

pub returns-else-listing : goal.returns-else-listing
returns-else-listing c = λ k r. rw c.if-listing.false (unlisted-none c.args.ordinal (listed c.args.self.now) c.requires.none k r)
