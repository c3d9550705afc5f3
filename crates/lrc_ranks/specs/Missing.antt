-- The stripes that miss a fragment, and the rank of each.
use Rattle.std.specs.Prelude.{ℕ, Bool, if◌then◌else◌, ◌&&◌, nat_eq, List, []}
use Rattle.lrc_code.specs.declared.codes.Code.{Code}
use Rattle.lrc_code.specs.declared.codes.Code.TheVariants.{Wide, Narrow}
use Rattle.lrc_code.specs.declared.numbers.StripeNo.{StripeNo}
use Rattle.lrc_code.specs.Losses.{FragmentSet, joined}
use Rattle.lrc_terms.specs.Levels.{rank_by}
use Rattle.lrc_ranks.specs.declared.planes.Planes.{Planes}
use Rattle.lrc_ranks.specs.Sets.{has, at_fragment}

-- the code of a stripe, by the set of the narrow ones
abbrev pub code_by : List Bool → StripeNo → Code
code_by narrow s = if has narrow s then Narrow else Wide

-- the fragments of a stripe, by a set of stripes for each fragment number
abbrev pub fragments_at : List (List Bool) → StripeNo → FragmentSet
fragments_at sets s f = at_fragment sets f s

-- the rank of a stripe that misses the fragments of the one kind and those of the other
abbrev pub rank_with : List Bool → List (List Bool) → List (List Bool) → StripeNo → ℕ
rank_with narrow missing more s = rank_by (code_by narrow s) (joined (fragments_at missing s) (fragments_at more s))

-- the stripes with work of each rank, by the fragments that they miss in the planes
abbrev pub ranks_in : Planes → ℕ → StripeNo → Bool
ranks_in p k s = has p.work s && nat_eq (rank_with p.narrow p.missing [] s) k
