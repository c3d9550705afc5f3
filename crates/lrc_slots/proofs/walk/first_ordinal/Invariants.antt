use Rattle.std.proofs.Common.{◌≡◌, ℕ, true, false, length, get_or}
use Rattle.std.specs.List.{count_by}
use Rattle.lrc_slots.specs.Indexes.{listed, is_barred_at}
use Rattle.lrc_slots.proofs.walk.first_ordinal.Given as goal

abbrev pub invariant-loop-load : goal.invariant-loop-load
invariant-loop-load g l = record {
  long : length l.loads ≡ 256;
  passed : (load ordinal : ℕ) → listed l.by_load load ordinal ≡ true → get_or l.loads load false ≡ false
      → is_barred_at l.rows l.order (g.B.Barring.barred l.bars) ordinal ≡ true;
}

abbrev pub decreases-loop-load : goal.decreases-loop-load
decreases-loop-load g l = count_by (λ b. b) l.loads
