use Rattle.std.proofs.Common.{◌≡◌, take}
use Rattle.std.specs.Prelude.{flat_map}
use Rattle.lrc_groups.specs.Groups.{named_nodes}
use Rattle.lrc_groups.proofs.group.numbers_in.Given as goal

-- the numbers so far
abbrev pub invariant-loop-one : goal.invariant-loop-one
invariant-loop-one l = l.numbers.items ≡ flat_map (named_nodes l.topology) (take l.one-index l.named)
