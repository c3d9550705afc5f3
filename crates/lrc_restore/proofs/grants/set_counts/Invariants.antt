use Rattle.std.proofs.Common.{◌≡◌, ◌&&◌, if◌then◌else◌, nat_lt, get_or}
use Rattle.lrc_code.specs.declared.numbers.StripeNo.{StripeNo}
use Rattle.lrc_code.specs.declared.numbers.Fragment.{Fragment}
use Rattle.lrc_code.specs.Numbers.{same_stripe}
use Rattle.lrc_leases.specs.Granted.{granted_in}
use Rattle.lrc_restore.proofs.grants.set_counts.Given as goal

-- the counts of the fragments so far are those of the row
abbrev pub invariant-loop-fragment : goal.invariant-loop-fragment
invariant-loop-fragment l = (s : StripeNo) (f : Fragment)
    → granted_in l.grants s f
    ≡ (if same_stripe l.row.stripe s && nat_lt f.value l.fragment-index then get_or l.row.granted f.value 0 else granted_in l.initial.grants s f)
