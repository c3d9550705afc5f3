use Rattle.std.proofs.Common.{◌≡◌, ℕ, ◌-◌, ◌<◌, ◌≤◌, length, take, drop, Option}
use Rattle.std.specs.List.{filter_map, range_with_len}
use Rattle.lrc_walks.proofs.walks.put_found.Given as goal

abbrev pub invariant-loop-i : goal.invariant-loop-i
invariant-loop-i g l = record {
  written : (f : ℕ → Option g.row.T.Denot) → ((i : ℕ) (found : Option g.row.T.Denot) → l.start ≤ i → i < l.end → goal.F-post g l.find i found → found ≡ f i)
      → take l.count l.rows ≡ filter_map f (range_with_len l.start (l.i - l.start));
  rest : drop l.count l.rows ≡ drop l.count l.initial.rows;
  as_long : length l.rows ≡ length l.initial.rows;
  room : l.count ≤ length l.rows;
  begun : l.start ≤ l.i;
  within : l.i - l.start ≤ l.end - l.start;
}
