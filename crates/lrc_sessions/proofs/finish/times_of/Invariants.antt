use Rattle.std.proofs.Common.{◌≡◌, ◌≤◌, take}
use Rattle.lrc_sessions.specs.Counts.{times}
use Rattle.lrc_sessions.proofs.finish.times_of.Given as goal

abbrev pub invariant-loop-session : goal.invariant-loop-session
invariant-loop-session g l = (l.found ≡ times l.number (take l.session-index l.sessions)) × (l.found ≤ l.session-index)
