use Rattle.std.proofs.Common.{◌≡◌, ◌*◌, ◌≤◌, take}
use Rattle.std.specs.Prelude.{sum_by}
use Rattle.lrc_show.proofs.status.sum_homeless.Given as goal

abbrev pub invariant-loop-stripe : goal.invariant-loop-stripe
invariant-loop-stripe l = record { so_far : l.total ≡ sum_by (λ s. s.homeless) (take l.stripe-index l.stripes); few : l.total ≤ l.stripe-index * 256 }
