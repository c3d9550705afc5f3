use Rattle.std.proofs.Common.{◌≡◌, drop}
use Rattle.lrc_outputs.specs.Faults.{first_fault}
use Rattle.lrc_outputs.proofs.together.unstopped.Given as goal

abbrev pub invariant-loop-track : goal.invariant-loop-track
invariant-loop-track l = first_fault (drop l.track-index l.fn.tracks.items) ≡ first_fault l.fn.tracks.items
