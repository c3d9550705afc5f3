use Rattle.std.proofs.Common.{◌<◌, ◌≤◌}
use Rattle.lrc_code.specs.declared.numbers.Fragment.{Fragment}
use Rattle.lrc_leases.specs.Granted.{granted_in}
use Rattle.lrc_images.specs.Causes.{most_grants}
use Rattle.lrc_book.proofs.image.are_low_of.Given as goal

-- the counts of the fragments so far are low
abbrev pub invariant-loop-fragment : goal.invariant-loop-fragment
invariant-loop-fragment l = (f : Fragment) → f.value < l.fragment-index → granted_in l.grants l.stripe f ≤ most_grants
