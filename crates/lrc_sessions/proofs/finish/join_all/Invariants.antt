use Rattle.std.proofs.Common.{◌≡◌, ℕ, ◌+◌, ◌≤◌, ◌<◌, vec_len, vec_capacity, map}
use Rattle.lrc_sessions.specs.Counts.{times, made_of, counts_of, total_made, shown}
use Rattle.lrc_sessions.proofs.finish.join_all.Given as goal

abbrev pub invariant-loop-before : goal.invariant-loop-before
invariant-loop-before g l = record {
  left : (j : ℕ) → l.before < j → j ≤ l.count → times j l.sessions.items ≡ 1;
  same : (j : ℕ) → l.before < j → made_of j l.sessions.items ≡ made_of j l.fn.sessions.items;
  made_is : map shown l.made.items ≡ counts_of l.before l.fn.sessions.items;
  parts_is : l.all.parts + l.count ≡ 8 + l.before;
  amount_is : l.all.amount ≡ total_made (map shown l.made.items);
  len_is : vec_len l.made ≡ l.before;
  room : l.count ≤ vec_capacity l.made;
}
