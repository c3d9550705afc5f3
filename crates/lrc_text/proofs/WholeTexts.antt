-- The texts of scripts, and of a whole run, for a history of a store that was empty.
use Rattle.std.proofs.Common.{ℕ, List}
use Rattle.lrc_topology.specs.declared.NodeInfo.{NodeInfo}
use Rattle.lrc_rules.specs.declared.entry.Entry.{Entry}
use Rattle.lrc_rules.specs.Histories.{first_world}
use Rattle.lrc_text.specs.Texts.{script_text_behind, replies_text_behind, output_text_from}

abbrev pub script_text : List Entry → ℕ → List ℕ
script_text history script = script_text_behind 0 history script

abbrev pub replies_text : ℕ → List Entry → List ℕ
replies_text count history = replies_text_behind 0 count history

abbrev pub output_text : List NodeInfo → ℕ → List Entry → List ℕ
output_text nodes count history = output_text_from nodes first_world 0 count history
