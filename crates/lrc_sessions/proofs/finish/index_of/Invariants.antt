use Rattle.std.proofs.Common.{◌≡◌, take}
use Rattle.lrc_sessions.specs.Counts.{times}
use Rattle.lrc_sessions.proofs.finish.index_of.Given as goal

abbrev pub invariant-loop-i : goal.invariant-loop-i
invariant-loop-i g l = times l.number (take l.i l.sessions) ≡ 0
