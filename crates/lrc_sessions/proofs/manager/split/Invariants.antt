use Rattle.std.proofs.Common.{◌≡◌, ◌+◌, ◌≤◌, [], All, vec_capacity, vec_len}
use Rattle.lrc_sessions.specs.Views.{fresh}
use Rattle.lrc_sessions.proofs.manager.split.Given as goal

abbrev pub invariant-loop-before : goal.invariant-loop-before
invariant-loop-before g l = record {
  sessions_is : l.sessions.items ≡ fresh l.before;
  len_is : vec_len l.sessions ≡ l.before;
  parts_is : l.rest.parts + l.before ≡ l.initial.rest.parts;
  amount_is : l.rest.amount ≡ 0;
  room : l.count ≤ vec_capacity l.sessions;
  left : vec_len l.viewers + l.before ≡ l.count;
  new : All (λ v. v ≡ []) l.viewers.items;
}
