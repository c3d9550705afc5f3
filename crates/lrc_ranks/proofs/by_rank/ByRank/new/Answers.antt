use Rattle.lrc_ranks.proofs.QueueLemmas.{five-empty}
use Rattle.lrc_ranks.proofs.by_rank.ByRank.new.Goals as goal

pub returns : goal.returns
returns c = five-empty _ _ _ _ _ c.new.ensures c.new-2.ensures c.new-3.ensures c.new-4.ensures c.new-5.ensures
