use Rattle.std.proofs.Common.{◌≡◌, drop}
use Rattle.lrc_groups.specs.Groups.{first_lacking}
use Rattle.lrc_groups.proofs.group.first_lacking.Given as goal

-- the first is among those that are left
abbrev pub invariant-loop-one : goal.invariant-loop-one
invariant-loop-one l = first_lacking l.topology (drop l.one-index l.named) ≡ first_lacking l.topology l.named
