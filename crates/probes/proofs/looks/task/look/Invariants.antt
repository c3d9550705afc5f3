use Rattle.std.proofs.Common.{◌≡◌}
use Rattle.probes.proofs.looks.task.look.Given as goal

abbrev pub invariant-loop-n : goal.invariant-loop-n
invariant-loop-n g l = l.session.number ≡ l.initial.session.number
