use Rattle.lrc_rules.proofs.BoardLemmas.{level-put}
use Rattle.lrc_rules.proofs.laws.boards.a_change_is_of_one_stripe.Goals as goal

pub returns : goal.returns
returns c = level-put
