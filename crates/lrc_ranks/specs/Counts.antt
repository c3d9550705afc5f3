-- Internal: no public clause reaches these definitions.
-- Numbers of 64 stripes as words of bits.
use Rattle.std.specs.Prelude.{◌≡◌, ℕ, ◌+◌, ◌-◌, ◌*◌, Bool, if◌then◌else◌, nat_lt, nat_le}
use Rattle.std.specs.Int.{bit_at}
use Rattle.lrc_code.specs.Losses.{bits_set}
use Rattle.lrc_ranks.specs.declared.counts.Numbers.{Numbers}
use Rattle.lrc_ranks.specs.declared.counts.AtLeast.{AtLeast}

-- the number of a stripe, in binary
abbrev pub number_at : Numbers → ℕ → ℕ
number_at x k = bit_at x.ones k + 2 * bit_at x.twos k + 4 * bit_at x.fours k

-- the words tell whether the stripe's number is at least 1, 2 and 3
pub record IsAtLeast (x : AtLeast) (k n : ℕ) : Type 0 where
  pub one : bits_set x.one k ≡ nat_lt 0 n
  pub two : bits_set x.two k ≡ nat_lt 1 n
  pub three : bits_set x.three k ≡ nat_lt 2 n

-- the rank of a stripe, by its excess of losses and whether a local group has a loss
abbrev pub rank_by_excess : Bool → ℕ → ℕ
rank_by_excess local excess = if nat_le excess 2 then (if local then 2 - excess else 3 - excess) else 4
