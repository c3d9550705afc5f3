-- Missing fragments, levels and ranks, given the homes of a stripe and the nodes that are online.
use Rattle.std.specs.Prelude.{ℕ, ◌<◌, IsTrue, IsFalse, Bool, true, false, not, ◌&&◌, ◌||◌, if◌then◌else◌, nat_lt, nat_eq, List, map, find, Option, Some, None, is_none, unwrap_or, option_map}
use Rattle.std.specs.Option.{option_map_or}
use Rattle.lrc_code.specs.declared.codes.Code.{Code}
use Rattle.lrc_code.specs.declared.losses.LossMask.{LossMask}
use Rattle.lrc_code.specs.declared.numbers.StripeNo.{StripeNo}
use Rattle.lrc_code.specs.declared.numbers.NodeNo.{NodeNo}
use Rattle.lrc_code.specs.Numbers.{same_stripe}
use Rattle.lrc_code.specs.Codes.{has_fragment, fragment_count, fragments, all_fragments}
use Rattle.lrc_code.specs.Losses.{FragmentSet, size_of, bits_of, is_recoverable, margin_of}
use Rattle.lrc_topology.specs.declared.seat.Seat.{Seat}
use Rattle.lrc_topology.specs.declared.seat.Held.{Held}
use Rattle.lrc_terms.specs.declared.level.Level.{Level}
use Rattle.lrc_terms.specs.declared.level.Level.TheVariants.{Whole, AtRisk, Unavailable, Lost}

-- the home of each fragment of a stripe, by fragment number; none if the fragment has no home
abbrev pub Homes : Type 0
Homes = ℕ → Option Seat

-- the homeless fragments: those without a home
abbrev pub homeless_in : Code → Homes → FragmentSet
homeless_in code homes f = has_fragment code f && is_none (homes f)

-- the missing fragments: those without a home, or with a home on a node that is not online
abbrev pub missing_in : Code → (NodeNo → Bool) → Homes → FragmentSet
missing_in code online homes f = has_fragment code f && option_map_or (λ seat. not (online seat.node)) (homes f) true

-- the fragments that need a lease: those without a home, or with a home on a draining node
abbrev pub needs_in : Code → (NodeNo → Bool) → Homes → FragmentSet
needs_in code draining homes f = has_fragment code f && option_map_or (λ seat. draining seat.node) (homes f) true

-- ---- the same for a list of homes

-- the home of a fragment, in the list
abbrev pub home_of : List Held → StripeNo → ℕ → Option Held
home_of homes s f = find (λ h. same_stripe h.stripe s && nat_eq h.fragment.value f) homes

-- the seats of a stripe's fragments, in the list
abbrev pub homes_of : List Held → StripeNo → Homes
homes_of homes s f = option_map (λ h. h.seat) (home_of homes s f)

-- ---- levels and ranks

-- the level of a stripe whose homeless fragments are recoverable, by the margin of its missing fragments, and whether
-- there are any
abbrev pub level_at : Option ℕ → Bool → Level
level_at None some_missing = Unavailable
level_at (Some margin) true = AtRisk margin
level_at (Some margin) false = Whole

-- a fragment of the code is in the set
abbrev pub SomeMissing : Code → FragmentSet → Type 0
SomeMissing code m = (f : ℕ) × (f < fragment_count code) × IsTrue (m f)

-- no fragment of the code is in the set
abbrev pub NoneMissing : Code → FragmentSet → Type 0
NoneMissing code m = (f : ℕ) → f < fragment_count code → IsFalse (m f)

-- a fragment of the code is in the set; as a test
abbrev pub has_some : Code → FragmentSet → Bool
has_some code m = nat_lt 0 (size_of code m)

-- the level of a stripe with these homeless and these missing fragments
unfoldable pub level_by : Code → FragmentSet → FragmentSet → Level
level_by code homeless missing = if is_recoverable code homeless then level_at (margin_of code missing) (has_some code missing) else Lost

-- the rank: the margin, 0 the most urgent; sets that are not recoverable come last, with rank 4
unfoldable pub rank_by : Code → FragmentSet → ℕ
rank_by code missing = unwrap_or (margin_of code missing) 4

-- the order of repair of stripes: by rank, then by number
abbrev pub comes_first : (StripeNo → ℕ) → StripeNo → StripeNo → Bool
comes_first rank s t = nat_lt (rank s) (rank t) || (nat_eq (rank s) (rank t) && nat_lt s.value t.value)

-- no fragment is missing
abbrev pub is_whole : Level → Bool
is_whole Whole = true
is_whole _ = false

-- the rank of a level
abbrev pub rank_at : Level → ℕ
rank_at Whole = 3
rank_at (AtRisk margin) = margin
rank_at Unavailable = 4
rank_at Lost = 4

-- ---- what a read of a stripe returns; none if the store has no such stripe

-- the homes by the sixteen fragment numbers, in ascending order
unfoldable pub homes_if : Bool → Homes → Option (List (Option Seat))
homes_if there homes = if there then Some (map (λ f. homes f.value) all_fragments) else None

-- the missing fragments, as a mask
unfoldable pub missing_if : Bool → Code → (NodeNo → Bool) → Homes → Option LossMask
missing_if there code online homes = if there then Some (record { bits = bits_of code (missing_in code online homes) }) else None

-- the fragments that need a lease, as a mask
unfoldable pub needs_if : Bool → Code → (NodeNo → Bool) → Homes → Option LossMask
needs_if there code draining homes = if there then Some (record { bits = bits_of code (needs_in code draining homes) }) else None

-- the level
unfoldable pub level_if : Bool → Code → (NodeNo → Bool) → Homes → Option Level
level_if there code online homes = if there then Some (level_by code (homeless_in code homes) (missing_in code online homes)) else None
