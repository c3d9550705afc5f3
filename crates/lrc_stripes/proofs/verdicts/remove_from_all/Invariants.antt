use Rattle.std.proofs.Common.{◌≡◌, ℕ, ◌<◌, ◌≤◌, [], true, false, get_or, vec_len, vec_capacity}
use Rattle.lrc_code.specs.declared.numbers.StripeNo.{StripeNo}
use Rattle.lrc_ranks.specs.Sets.{has}
use Rattle.lrc_stripes.proofs.verdicts.remove_from_all.Given as goal

-- the sets so far are without the stripes
abbrev pub invariant-loop-index : goal.invariant-loop-index
invariant-loop-index l = record {
  room : vec_capacity l.sets ≡ vec_capacity l.fn.sets;
  long : vec_len l.sets ≡ vec_len l.fn.sets;
  end : l.index-end ≡ vec_len l.fn.sets;
  each : (k : ℕ) (s : StripeNo) → has (get_or l.sets.items k []) s ≡ true → (has (get_or l.fn.sets.items k []) s ≡ true) × (k < l.index → has l.stripes s ≡ false);
}
