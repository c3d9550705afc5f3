use Rattle.std.proofs.Common.{◌≡◌}
use Rattle.probes.proofs.growth.managers.try_on.Given as goal

abbrev pub invariant-loop-command : goal.invariant-loop-command
invariant-loop-command g l = l.first.number ≡ l.initial.first.number
