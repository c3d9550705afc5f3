use Rattle.std.proofs.Common.{◌≡◌, ℕ, ◌/◌, true, false, get_or, ◌||◌, length}
use Rattle.std.specs.List.{count_by}
use Rattle.lrc_slots.proofs.ordinal_set.OrdinalSet.first_outside_both.Given as goal

abbrev pub invariant-loop-word : goal.invariant-loop-word
invariant-loop-word l = record {
  long : length l.left ≡ 64;
  filled : (w : ℕ) → get_or l.left w false ≡ true → get_or l.self-inside.words w false ≡ true;
  barred : (r : ℕ) → get_or l.left (r / 64) false ≡ false → get_or l.self-inside.ordinals r false ≡ true
      → (get_or l.mask r false || get_or l.other r false) ≡ true;
}

abbrev pub decreases-loop-word : goal.decreases-loop-word
decreases-loop-word l = count_by (λ b. b) l.left
