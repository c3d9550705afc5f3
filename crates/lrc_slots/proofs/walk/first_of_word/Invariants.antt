use Rattle.std.proofs.Common.{◌≡◌, ℕ, ◌+◌, ◌*◌, ◌/◌, ◌%◌, true, false, length, get_or}
use Rattle.std.specs.List.{count_by}
use Rattle.lrc_slots.specs.Indexes.{is_barred_at}
use Rattle.lrc_slots.proofs.walk.first_of_word.Given as goal

abbrev pub invariant-loop-bit : goal.invariant-loop-bit
invariant-loop-bit g l = record {
  long : length l.left ≡ 64;
  own : (k : ℕ) → get_or l.left k false ≡ true → get_or l.ordinals (64 * l.word + k) false ≡ true;
  passed : (r : ℕ) → r / 64 ≡ l.word → get_or l.ordinals r false ≡ true → get_or l.left (r % 64) false ≡ false
      → is_barred_at l.rows l.order (g.B.Barring.barred l.bars) r ≡ true;
}

abbrev pub decreases-loop-bit : goal.decreases-loop-bit
decreases-loop-bit g l = count_by (λ b. b) l.left
