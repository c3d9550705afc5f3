use Rattle.std.proofs.Common.{◌≡◌, ℕ, ◌<◌, ◌≤◌, ◌-◌, true}
use Rattle.lrc_slots.specs.Indexes.{listed, is_of_either}
use Rattle.lrc_slots.proofs.ordinal_sets.OrdinalSets.first_above_outside_both.Given as goal

abbrev pub invariant-loop-load : goal.invariant-loop-load
invariant-loop-load l = record {
  within : l.from ≤ 256;
  barred : (load ordinal : ℕ) → load < l.from → listed l.self-inside.sets.items load ordinal ≡ true → is_of_either l.mask l.other ordinal ≡ true;
}

abbrev pub decreases-loop-load : goal.decreases-loop-load
decreases-loop-load l = 256 - l.from
