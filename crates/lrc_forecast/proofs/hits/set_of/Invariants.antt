use Rattle.std.proofs.Common.{◌≡◌, take, length}
use Rattle.lrc_forecast.specs.Hits.{IsSetOf}
use Rattle.lrc_forecast.proofs.hits.set_of.Given as goal

-- the nodes so far
abbrev pub invariant-loop-node : goal.invariant-loop-node
invariant-loop-node l = record { long : length l.set ≡ 65536; each : IsSetOf (take l.node-index l.nodes) l.set }
