use Rattle.std.proofs.Common.{◌≡◌, ◌<◌, length, get_or}
use Rattle.lrc_code.specs.declared.numbers.Fragment.{Fragment}
use Rattle.lrc_leases.specs.Granted.{granted_in}
use Rattle.lrc_book.proofs.image.counts_of.Given as goal

-- the counts of the fragments so far
abbrev pub invariant-loop-fragment : goal.invariant-loop-fragment
invariant-loop-fragment l = (length l.counts ≡ 16) × ((f : Fragment) → f.value < l.fragment-index → get_or l.counts f.value 0 ≡ granted_in l.grants l.stripe f)
