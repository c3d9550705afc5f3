use Rattle.lrc_ranks.proofs.FragmentLemmas.{empty-none, empty-more, empty-all}
use Rattle.lrc_ranks.proofs.fragment_sets.FragmentSets.new.Goals as goal

pub returns : goal.returns
returns c = empty-all (empty-more c.new.ensures (empty-more c.new-2.ensures (empty-more c.new-3.ensures (empty-more c.new-4.ensures
    (empty-more c.new-5.ensures (empty-more c.new-6.ensures (empty-more c.new-7.ensures (empty-more c.new-8.ensures
    (empty-more c.new-9.ensures (empty-more c.new-10.ensures (empty-more c.new-11.ensures (empty-more c.new-12.ensures
    (empty-more c.new-13.ensures (empty-more c.new-14.ensures (empty-more c.new-15.ensures (empty-more c.new-16.ensures empty-none))))))))))))))))
