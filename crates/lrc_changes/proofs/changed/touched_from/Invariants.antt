use Rattle.std.proofs.Common.{◌≡◌, ◌-◌, ◌≤◌}
use Rattle.std.specs.List.{filter_map, range_with_len}
use Rattle.lrc_book.specs.Books.{state_of}
use Rattle.lrc_changes.specs.Touched.{touched_at}
use Rattle.lrc_changes.proofs.changed.touched_from.Given as goal

abbrev pub invariant-loop-place : goal.invariant-loop-place
invariant-loop-place l = record {
  found : l.rows.items ≡ filter_map (touched_at (state_of l.book) l.entry.command l.entry.reply) (range_with_len l.start (l.place - l.start));
  begun : l.start ≤ l.place;
  within : l.place - l.start ≤ l.end - l.start;
}
