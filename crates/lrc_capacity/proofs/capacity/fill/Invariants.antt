use Rattle.std.proofs.Common.{◌-◌, ◌≡◌, ◌≤◌, length}
use Rattle.lrc_capacity.specs.Trials.{free_in, filled}
use Rattle.lrc_capacity.proofs.capacity.fill.Given as goal

-- what is to come gives the whole
abbrev pub invariant-loop-stripes : goal.invariant-loop-stripes
invariant-loop-stripes l = record {
  whole : filled l.code l.stripes l.rooms (l.unused - l.stripes) ≡ filled l.code 0 l.fn.rooms l.unused;
  free : l.free ≡ free_in l.rooms;
  few : length l.rooms ≤ 512;
  within : l.stripes ≤ l.unused;
}

abbrev pub decreases-loop-stripes : goal.decreases-loop-stripes
decreases-loop-stripes l = l.unused - l.stripes
