use Rattle.std.proofs.Common.{◌<◌, ◌≤◌}
use Rattle.lrc_code.specs.declared.numbers.StripeNo.{StripeNo}
use Rattle.lrc_code.specs.declared.numbers.Fragment.{Fragment}
use Rattle.lrc_leases.specs.Granted.{granted_in}
use Rattle.lrc_images.specs.Causes.{most_grants}
use Rattle.lrc_book.proofs.image.are_low.Given as goal

-- the counts of the stripe numbers so far are low
abbrev pub invariant-loop-number : goal.invariant-loop-number
invariant-loop-number l = (s : StripeNo) → s.value < l.number → (f : Fragment) → granted_in l.grants s f ≤ most_grants
