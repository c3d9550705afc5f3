use Rattle.std.proofs.Common.{◌≡◌, ℕ, ◌<◌, get_or, length, None}
use Rattle.lrc_homes.proofs.homes.Homes.all.Given as goal

-- the homes so far
abbrev pub invariant-loop-fragment : goal.invariant-loop-fragment
invariant-loop-fragment l = (length l.homes ≡ 16) × ((k : ℕ) → k < l.fragment-index → get_or l.homes k None ≡ get_or l.self k None)
