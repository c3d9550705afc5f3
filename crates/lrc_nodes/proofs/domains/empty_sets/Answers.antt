use Rattle.std.proofs.Common.{false, replicate}
use Rattle.std.proofs.lemmas.List.{replicate_more}
use Rattle.lrc_nodes.proofs.domains.empty_sets.Goals as goal

pub loop-preserved : goal.loop-preserved
loop-preserved c = rw (c.in_ok-push.ensures.items, c.loop.invariant, c.new.ensures) (replicate_more c.loop.counter (replicate 512 false))
