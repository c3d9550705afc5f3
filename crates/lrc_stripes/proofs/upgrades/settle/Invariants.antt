use Rattle.lrc_ranks.proofs.StripeSetLemmas.{member_count}
use Rattle.lrc_rows.specs.NodeStates.{states_in, is_on_several_down}
use Rattle.lrc_stripes.specs.UpgradeLosses.{lost_in, AreVerdicts}
use Rattle.lrc_stripes.proofs.upgrades.settle.Given as goal

-- what is kept is right
abbrev pub invariant-loop-stripe : goal.invariant-loop-stripe
invariant-loop-stripe l = AreVerdicts (lost_in (states_in l.node_table) l.rows.list) (is_on_several_down (states_in l.node_table)) l.verdicts

abbrev pub decreases-loop-stripe : goal.decreases-loop-stripe
decreases-loop-stripe l = member_count l.left
