use Rattle.lrc_durability.proofs.LevelByteLemmas.{rank_margin, rank_none}
use Rattle.lrc_durability.proofs.laws.ranks_in_bytes.Goals as goal

pub returns-clause-margin : goal.returns-clause-margin
returns-clause-margin c = rank_margin

pub returns-clause-none : goal.returns-clause-none
returns-clause-none c = rank_none
