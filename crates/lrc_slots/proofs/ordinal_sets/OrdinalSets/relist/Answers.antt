use Rattle.lrc_slots.specs.Indexes.{listed, is_listing_of}
use Rattle.lrc_slots.proofs.SetLemmas.{moved-twice, unlisted-ordinal}
use Rattle.lrc_slots.proofs.ordinal_sets.OrdinalSets.relist.Goals as goal

pub enlist-requires-clause-none : goal.enlist-requires-clause-none
enlist-requires-clause-none c = unlisted-ordinal c.args.ordinal (listed c.args.self.now) (listed c.unlist.new.self) c.unlist.ensures

pub returns : goal.returns
returns c =
    moved-twice c.args.ordinal (listed c.args.self.now) (listed c.unlist.new.self) (listed c.enlist.new.self) (λ k r. is_listing_of c.args.after k)
    c.unlist.ensures c.enlist.ensures
