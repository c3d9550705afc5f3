-- The stripes of each rank, and their order.
use Rattle.std.specs.Prelude.{ℕ, ◌+◌, ◌-◌, Bool, false, nat_eq, List, ◌++◌, Option}
use Rattle.std.specs.Option.{option_map_or}
use Rattle.std.specs.List.{flat_map, range_with_len}
use Rattle.lrc_code.specs.declared.numbers.StripeNo.{StripeNo}
use Rattle.lrc_ranks.specs.Sets.{members_from}

-- the rank is this one
abbrev pub is_at : ℕ → Option ℕ → Bool
is_at k o = option_map_or (λ rank. nat_eq rank k) o false

-- the stripes of this rank from a number on, and those of all higher ranks
abbrev pub queue_from : (ℕ → StripeNo → Bool) → ℕ → ℕ → List StripeNo
queue_from queue rank from =
    members_from (queue rank) from ++ flat_map (λ k. members_from (queue k) 0) (range_with_len (rank + 1) (4 - rank))
