use Rattle.std.proofs.Common.{◌≡◌, ◌-◌, ◌≤◌, All, length, map, take}
use Rattle.lrc_rules.specs.Histories.{IsLegalFrom}
use Rattle.lrc_text.specs.Texts.{script_text_behind}
use Rattle.lrc_outputs.proofs.SessionLemmas.{IsFirst}
use Rattle.lrc_outputs.proofs.play.play_alone.Given as goal

abbrev pub invariant-loop-made : goal.invariant-loop-made
invariant-loop-made l = record {
  nodes : l.book.nodes ≡ l.fn.book.nodes;
  limit : l.book.limit ≡ 1000000;
  base : l.book.base ≡ l.fn.book.base;
  within : l.made ≤ length l.commands;
  legal : IsLegalFrom l.fn.book.nodes l.fn.book.base l.book.history;
  made : map (λ e. e.command) l.book.history ≡ take l.made l.commands;
  alone : All IsFirst l.book.history;
  room : length l.room ≡ 7040;
  printed : l.text.items ≡ script_text_behind l.fn.book.before l.book.history 1;
}

abbrev pub decreases-loop-made : goal.decreases-loop-made
decreases-loop-made l = length l.commands - l.made
