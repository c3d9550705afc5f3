use Rattle.std.proofs.Common.{◌≡◌, ◌≤◌, All, take}
use mathlib.Core.List.{IsPrefix}
use Rattle.lrc_sessions.specs.Counts.{made_in}
use Rattle.lrc_sessions.proofs.finish.check_all_seen.Given as goal

abbrev pub invariant-loop-session : goal.invariant-loop-session
invariant-loop-session g l = record {
  same : l.keeper ≡ l.initial.keeper;
  begin : All (λ s. IsPrefix s.seen l.initial.keeper.history) (take l.session-index l.sessions);
  made : All (λ s. s.made ≤ made_in s.number l.initial.keeper.history) (take l.session-index l.sessions);
}
