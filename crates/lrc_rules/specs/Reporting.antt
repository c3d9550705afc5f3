-- The lease that a Done or Abandon names.
use Rattle.std.specs.Prelude.{◌≡◌, ℕ, IsTrue, Some}
use Rattle.lrc_code.specs.declared.numbers.StripeNo.{StripeNo}
use Rattle.lrc_code.specs.declared.numbers.Fragment.{Fragment}
use Rattle.lrc_terms.specs.declared.lease.Lease.{Lease}
use Rattle.lrc_rules.specs.States.{State, has_stripe, lease_of}

-- The store has the stripe, and this is the live lease of the fragment, with this epoch.
pub record IsReported (st : State) (s : StripeNo) (f : Fragment) (e : ℕ) (l : Lease) : Type 0 where
  pub there : IsTrue (has_stripe st s)
  pub live : lease_of st s f ≡ Some l
  pub epoch : l.epoch ≡ e
