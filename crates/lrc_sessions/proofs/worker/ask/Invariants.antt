use Rattle.std.proofs.Common.{ℕ, ◌+◌, ◌<◌}
use Rattle.lrc_sessions.proofs.worker.ask.Given as goal

abbrev pub invariant-loop-i : goal.invariant-loop-i
invariant-loop-i g l = (j : ℕ) → j < l.i → g.G.Gate.lets l.session.value (l.done + j + 1)
