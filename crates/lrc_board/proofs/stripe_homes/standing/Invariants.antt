use Rattle.std.proofs.Common.{◌≡◌, ℕ, ◌&&◌, nat_lt, get_or, None}
use Rattle.lrc_code.specs.Losses.{bits_set}
use Rattle.lrc_board.specs.Looks.{stands_in}
use Rattle.lrc_board.proofs.stripe_homes.standing.Given as goal

-- the fragments so far are in the mask exactly where they have a home on an online node
abbrev pub invariant-loop-fragment : goal.invariant-loop-fragment
invariant-loop-fragment l = (f : ℕ) → bits_set l.mask.bits f ≡ (nat_lt f l.fragment-index && stands_in l.online (get_or l.homes f None))
