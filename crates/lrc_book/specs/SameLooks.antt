-- What the looks at two states have in common if the states are alike: all of it.
use Rattle.std.specs.Prelude.{◌≡◌, List}
use Rattle.lrc_code.specs.declared.numbers.StripeNo.{StripeNo}
use Rattle.lrc_code.specs.declared.numbers.NodeNo.{NodeNo}
use Rattle.lrc_code.specs.declared.numbers.Fragment.{Fragment}
use Rattle.lrc_topology.specs.declared.NodeInfo.{NodeInfo}
use Rattle.lrc_rules.specs.States.{State}
use Rattle.lrc_rules.specs.Futures.{ShowTheSame}
use Rattle.lrc_book.specs.Looks.{down_shown, stripes_of, homes_on, kind_shown, is_granted_now}

-- Every look of a book at its state returns the same in both: the reads of `ShowTheSame`, and the looks that no command
-- needs.
pub record HaveSameLooks (nodes : List NodeInfo) (st other : State) : Type 0 where
  pub reads : ShowTheSame nodes st other
  pub upgrading : st.upgrading ≡ other.upgrading
  pub down : (n : NodeNo) → down_shown nodes st n ≡ down_shown nodes other n
  pub stripes : stripes_of st ≡ stripes_of other
  pub homes_on : (n : NodeNo) → homes_on st n ≡ homes_on other n
  pub kinds : (s : StripeNo) (f : Fragment) → kind_shown nodes st s f ≡ kind_shown nodes other s f
  pub grantable : (s : StripeNo) (f : Fragment) → is_granted_now nodes st s f ≡ is_granted_now nodes other s f
