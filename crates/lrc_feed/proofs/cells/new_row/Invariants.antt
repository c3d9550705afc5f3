use Rattle.std.proofs.Common.{◌≤◌, ◌-◌}
use Rattle.std.specs.Prelude.{vec_capacity}
use Rattle.boxcar.specs.Table.{Tagged}
use Rattle.lrc_feed.specs.Rules.{tag_numbers}
use Rattle.lrc_feed.proofs.cells.new_row.Given as goal

abbrev pub invariant-loop-made : goal.invariant-loop-made
invariant-loop-made g l = (l.made ≤ 1024) × (1024 ≤ vec_capacity l.slots) × Tagged (tag_numbers l.calls.book) l.from l.made l.slots.items

abbrev pub decreases-loop-made : goal.decreases-loop-made
decreases-loop-made g l = 1024 - l.made
