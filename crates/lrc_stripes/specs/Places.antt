-- Internal: no public clause reaches these definitions.
-- The fragments with a home on a node, stripe by stripe.
use Rattle.std.specs.Prelude.{ℕ, Bool, List, [], set, map, filter, Option, Some, None}
use Rattle.std.specs.List.{flat_map}
use Rattle.lrc_code.specs.declared.numbers.StripeNo.{StripeNo}
use Rattle.lrc_code.specs.declared.numbers.NodeNo.{NodeNo}
use Rattle.lrc_code.specs.Codes.{fragments, all_fragments}
use Rattle.lrc_code.specs.Losses.{bits_set}
use Rattle.lrc_rows.specs.declared.row.Row.{Row}
use Rattle.lrc_terms.specs.Stripes.{StripeFragment}
use Rattle.lrc_homes.specs.Homes.{sits_at}
use Rattle.lrc_ranks.specs.Sets.{members_from}

-- the fragments of a stripe that a mask has
abbrev pub places_in : StripeNo → ℕ → List StripeFragment
places_in s bits = map (λ f. (s, f)) (filter (λ f. bits_set bits f.value) all_fragments)

-- the fragments of a stripe on the node
abbrev pub row_places : NodeNo → StripeNo → Option Row → List StripeFragment
row_places n s None = []
row_places n s (Some r) = map (λ f. (s, f)) (filter (sits_at n r.homes) all_fragments)

-- those of the stripes of a set from a number on
abbrev pub places_from : NodeNo → (StripeNo → Option Row) → (StripeNo → Bool) → ℕ → List StripeFragment
places_from n rows set from = flat_map (λ s. row_places n s (rows s)) (members_from set from)
