use Rattle.std.proofs.Common.{take}
use Rattle.lrc_outputs.specs.Judged.{lists_of, AreParsed}
use Rattle.lrc_outputs.proofs.judging.parse_scripts.Given as goal

abbrev pub invariant-loop-script : goal.invariant-loop-script
invariant-loop-script l = AreParsed (take l.script-index l.scripts) (lists_of l.parsed.items)
