use Rattle.std.proofs.Common.{◌≡◌, ℕ, ◌<◌, ◌≤◌, ◌-◌, ◌⊎◌, true, false, get_or, length}
use Rattle.lrc_slots.specs.Indexes.{listed}
use Rattle.lrc_slots.proofs.ordinal_sets.OrdinalSets.join.Given as goal

abbrev pub invariant-loop-number : goal.invariant-loop-number
invariant-loop-number l = record {
  within : l.from ≤ 256;
  same : length l.mask ≡ length l.fn.mask;
  only : (r : ℕ) → get_or l.mask r false ≡ true
      → (get_or l.fn.mask r false ≡ true) ⊎ ((d : ℕ) × (get_or l.named d false ≡ true) × (listed l.self-inside.sets.items d r ≡ true));
  keeps : (r : ℕ) → get_or l.fn.mask r false ≡ true → get_or l.mask r false ≡ true;
  adds : (d r : ℕ) → d < l.from → get_or l.named d false ≡ true → listed l.self-inside.sets.items d r ≡ true → get_or l.mask r false ≡ true;
}

abbrev pub decreases-loop-number : goal.decreases-loop-number
decreases-loop-number l = 256 - l.from
