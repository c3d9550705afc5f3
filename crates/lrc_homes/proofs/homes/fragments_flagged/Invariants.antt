use Rattle.std.proofs.Common.{◌≡◌, ℕ, ◌&&◌, false, nat_lt, get_or}
use Rattle.lrc_code.specs.Losses.{bits_set}
use Rattle.lrc_homes.proofs.homes.fragments_flagged.Given as goal

-- the fragments so far are in the mask exactly where the flag of the number is set
abbrev pub invariant-loop-fragment : goal.invariant-loop-fragment
invariant-loop-fragment l = (f : ℕ) → bits_set l.mask.bits f ≡ (nat_lt f l.fragment-index && get_or l.flags (get_or l.numbers f 0) false)
