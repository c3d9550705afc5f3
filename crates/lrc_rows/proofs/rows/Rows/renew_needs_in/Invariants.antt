use Rattle.std.proofs.Common.{◌≡◌}
use Rattle.lrc_ranks.specs.Sets.{has}
use Rattle.lrc_rows.specs.NodeStates.{states_in}
use Rattle.lrc_rows.specs.Listed.{rows_in}
use Rattle.lrc_rows.specs.Kept.{IsToMoveOn}
use Rattle.lrc_rows.proofs.TurnLemmas.{AreRenewedBut}
use Rattle.lrc_ranks.proofs.StripeSetLemmas.{member_count}
use Rattle.lrc_rows.proofs.rows.Rows.renew_needs_in.Given as goal

-- the stripes that are passed have their new rows
abbrev pub invariant-loop-stripe : goal.invariant-loop-stripe
invariant-loop-stripe l = record {
  rows : AreRenewedBut (has l.stripes) (IsToMoveOn (states_in l.node_table).up l.node l.are_to_move) (rows_in l.fn.self.list) (has l.left) (rows_in l.self.list);
  upgrading : l.self.upgrading ≡ l.fn.self.upgrading;
}

abbrev pub decreases-loop-stripe : goal.decreases-loop-stripe
decreases-loop-stripe l = member_count l.left
