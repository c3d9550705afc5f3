use Rattle.std.proofs.Common.{◌≤◌, ◌-◌, length}
use Rattle.memchr.specs.Find.{Nowhere}
use Rattle.lrc_script.proofs.PartLemmas.{PartsAt}
use Rattle.lrc_script.proofs.bundle.cut_part.Given as goal

abbrev pub invariant-loop-found : goal.invariant-loop-found
invariant-loop-found l = record { within : l.from ≤ length l.text; nowhere : Nowhere (PartsAt l.text) 0 l.from }

abbrev pub decreases-loop-found : goal.decreases-loop-found
decreases-loop-found l = length l.text - l.from
