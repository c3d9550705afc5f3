use Rattle.std.proofs.Common.{◌≡◌, take, filter}
use Rattle.lrc_show.specs.Summed.{is_among}
use Rattle.lrc_show.proofs.domains.members_of.Given as goal

-- the members so far
abbrev pub invariant-loop-node : goal.invariant-loop-node
invariant-loop-node l = l.rows.items ≡ filter (λ n. is_among l.domain n.node) (take l.node-index l.nodes)
