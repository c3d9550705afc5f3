use Rattle.std.proofs.Common.{List, true, sym, ap, ◌∙◌}
use Rattle.lrc_topology.specs.declared.NodeInfo.{NodeInfo}
use Rattle.lrc_board.specs.Refreshed.{put_flags}
use Rattle.lrc_board.proofs.EmptyLemmas.{all-marked}
use Rattle.lrc_board.proofs.board.mark_all.Goals as goal

pub returns : goal.returns
returns c =
    sym (ap (λ (left : List NodeInfo). put_flags (λ n. true) c.loop-node.online left) c.in-None.ensures.steps.0)
    ∙ c.loop-node.invariant.marked ∙ all-marked c.args.topology.now c.args.online.now c.requires.long c.requires.none
