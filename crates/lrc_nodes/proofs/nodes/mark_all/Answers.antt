use Rattle.std.proofs.Common.{false, get_or, ◌∙◌}
use Rattle.lrc_nodes.proofs.KeptLemmas.{put-in, put-out}
use Rattle.lrc_nodes.proofs.nodes.mark_all.Goals as goal

pub returns-then-are_in-clause-each : goal.returns-then-are_in-clause-each
returns-then-are_in-clause-each c = λ k. c.insert_all.ensures.either k ∙ put-in (get_or c.args.set.now k false) (get_or c.args.numbers.now k false) c.args.are_in c.if-are_in.true

pub returns-else-are_in-clause-each : goal.returns-else-are_in-clause-each
returns-else-are_in-clause-each c = λ k. c.remove_all.ensures.left k ∙ put-out (get_or c.args.set.now k false) (get_or c.args.numbers.now k false) c.args.are_in c.if-are_in.false
