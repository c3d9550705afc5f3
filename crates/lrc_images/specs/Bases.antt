-- The worlds that a book can begin in.
use Rattle.std.specs.Prelude.{◌≤◌, List}
use Rattle.lrc_code.specs.declared.numbers.StripeNo.{StripeNo}
use Rattle.lrc_code.specs.declared.numbers.Fragment.{Fragment}
use Rattle.lrc_topology.specs.declared.NodeInfo.{NodeInfo}
use Rattle.lrc_rules.specs.Leases.{grants}
use Rattle.lrc_rules.specs.Histories.{World}
use Rattle.lrc_rules.specs.Goodness.{IsGood}
use Rattle.lrc_rules.specs.Tidiness.{IsTidy}
use Rattle.lrc_images.specs.Causes.{most_grants, most_ticks}

-- The world is good and tidy, and its numbers leave room for a history.
pub record IsBase (nodes : List NodeInfo) (w : World) : Type 0 where
  pub good : IsGood nodes w.past w.state
  pub tidy : IsTidy nodes w.state
  pub counts : (s : StripeNo) (f : Fragment) → grants w.past s f ≤ most_grants
  pub ticks : w.state.clock ≤ most_ticks
