-- Sets of stripes: the next member from a number on, and the members in rising order.
use Rattle.std.specs.Prelude.{◌≡◌, ℕ, ◌-◌, ◌<◌, ◌≤◌, Bool, true, false, List, [], map, filter, get_or, Option, Some, None}
use Rattle.std.specs.List.{range_with_len}
use Rattle.lrc_code.specs.declared.numbers.StripeNo.{StripeNo}
use Rattle.lrc_terms.specs.Stripes.{stripe_at}

-- the stripe is in the set with these bits
abbrev pub has : List Bool → StripeNo → Bool
has bits s = get_or bits s.value false

-- the stripes of each rank, by a set for each
abbrev pub at_rank : List (List Bool) → ℕ → StripeNo → Bool
at_rank sets k = has (get_or sets k [])

-- the stripes of each fragment number, by a set for each
abbrev pub at_fragment : List (List Bool) → ℕ → StripeNo → Bool
at_fragment sets f = has (get_or sets f [])

-- the stripe is the first of the set from this number on
pub record IsNext (set : StripeNo → Bool) (from : ℕ) (s : StripeNo) : Type 0 where
  pub has : set s ≡ true
  pub later : from ≤ s.value
  pub first : (t : StripeNo) → from ≤ t.value → t.value < s.value → set t ≡ false

-- the result of a search for such a stripe
abbrev pub FindsNext : (StripeNo → Bool) → ℕ → Option StripeNo → Type 0
FindsNext set from None = (t : StripeNo) → from ≤ t.value → set t ≡ false
FindsNext set from (Some s) = IsNext set from s

-- all stripes from a number on, rising
unfoldable pub stripes_from : ℕ → List StripeNo
stripes_from from = map stripe_at (range_with_len from (4096 - from))

-- the members of a set from a number on, rising
abbrev pub members_from : (StripeNo → Bool) → ℕ → List StripeNo
members_from set from = filter set (stripes_from from)
