use Rattle.std.proofs.Common.{◌≡◌, ℕ, ◌≤◌, ◌<◌, cond, nat_le}
use Rattle.lrc_sessions.specs.Counts.{times}
use Rattle.lrc_sessions.proofs.finish.are_all.Given as goal

abbrev pub invariant-loop-number : goal.invariant-loop-number
invariant-loop-number g l = (j : ℕ) → 1 ≤ j → j < l.number → times j l.sessions ≡ cond (nat_le j l.count) 1 0
