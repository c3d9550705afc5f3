use Rattle.std.proofs.Common.{◌≡◌, ℕ, ◌/◌, ◌<◌, true, false, length, get_or}
use Rattle.std.specs.List.{count_by}
use Rattle.lrc_slots.specs.Indexes.{is_barred_at}
use Rattle.lrc_slots.proofs.walk.first_of_load.Given as goal

abbrev pub invariant-loop-word : goal.invariant-loop-word
invariant-loop-word g l = record {
  long : length l.words ≡ 64;
  low : (w : ℕ) → get_or l.words w false ≡ true → w < 8;
  passed : (r : ℕ) → get_or l.ordinals r false ≡ true → get_or l.words (r / 64) false ≡ false
      → is_barred_at l.rows l.order (g.B.Barring.barred l.bars) r ≡ true;
}

abbrev pub decreases-loop-word : goal.decreases-loop-word
decreases-loop-word g l = count_by (λ b. b) l.words
