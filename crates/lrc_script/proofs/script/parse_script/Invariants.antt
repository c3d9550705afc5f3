use Rattle.std.proofs.Common.{length}
use Rattle.lrc_script.proofs.LineLemmas.{IsReadTo}
use Rattle.lrc_script.proofs.script.parse_script.Given as goal

abbrev pub invariant-loop-command : goal.invariant-loop-command
invariant-loop-command l = IsReadTo l.first_line l.text l.commands.items l.rest l.number

abbrev pub decreases-loop-command : goal.decreases-loop-command
decreases-loop-command l = length l.rest
