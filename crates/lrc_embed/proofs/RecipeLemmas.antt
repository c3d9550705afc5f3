-- A stripe of which nothing is told is not there.
use Rattle.std.proofs.Common.{◌≡◌, Bool, true, false, List, None, is_some, refl, ap}
use Rattle.lrc_code.specs.declared.codes.Code.{Code}
use Rattle.lrc_code.specs.declared.numbers.NodeNo.{NodeNo}
use Rattle.lrc_code.specs.declared.numbers.StripeNo.{StripeNo}
use Rattle.lrc_topology.specs.declared.NodeInfo.{NodeInfo}
use Rattle.lrc_terms.specs.Levels.{Homes, homes_of, missing_if}
use Rattle.lrc_rules.specs.States.{State, has_stripe, code_of, online_at, code_shown, missing_shown}

absent : (there : Bool) (code : Code) (online : NodeNo → Bool) (homes : Homes) → missing_if there code online homes ≡ None → there ≡ false
unfolding missing_if
absent true code online homes none = absurd (let e : true ≡ false = ap is_some none in cc)
absent false code online homes none = refl

pub no_code : (nodes : List NodeInfo) (st : State) (s : StripeNo) → missing_shown nodes st s ≡ None → code_shown st s ≡ None
no_code nodes st s none = rw (absent (has_stripe st s) (code_of st s) (online_at nodes st) (homes_of st.homes s) none) refl
