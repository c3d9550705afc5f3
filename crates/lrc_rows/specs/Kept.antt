-- The stored form of the stripes beside their homes: the masks of each row, and the stripes on each node.
use Rattle.std.specs.Prelude.{◌≡◌, ◌≢◌, ◌<◌, ◌&&◌, ℕ, Bool, true, false, if◌then◌else◌, List, length, get_or, set, map, Option, Some, None, is_some, option_and_then, option_map, not, nat_eq, is_none}
use Rattle.std.specs.Option.{option_map_or}
use Rattle.std.specs.List.{list_any}
use Rattle.lrc_code.specs.declared.numbers.StripeNo.{StripeNo}
use Rattle.lrc_code.specs.declared.numbers.NodeNo.{NodeNo}
use Rattle.lrc_code.specs.Losses.{bits_set}
use Rattle.lrc_code.specs.declared.losses.LossMask.{LossMask}
use Rattle.lrc_topology.specs.declared.NodeInfo.{NodeInfo}
use Rattle.lrc_topology.specs.declared.seat.Seat.{Seat}
use Rattle.lrc_terms.specs.declared.level.Level.{Level}
use Rattle.lrc_terms.specs.declared.level.Level.TheVariants.{Whole}
use Rattle.lrc_homes.specs.declared.losses.Losses.{Losses}
use Rattle.lrc_rows.specs.declared.row.Row.{Row}
use Rattle.lrc_terms.specs.Stripes.{StripeLevel}
use Rattle.lrc_homes.specs.declared.home_domains.HomeDomains.{HomeDomains}
use Rattle.lrc_homes.specs.Domains.{AreDomainsOf}
use Rattle.lrc_homes.specs.Upgrading.{in_upgrade, work_rank_with}
use Rattle.lrc_homes.specs.Homes.{sits_on, is_on_seat, is_missing, is_to_move}
use Rattle.lrc_homes.specs.Masks.{IsPutOn, AreKept, renewed, level_of, IsPut}
use Rattle.lrc_ranks.specs.Ranks.{is_at}
use Rattle.lrc_ranks.specs.declared.planes.Planes.{Planes}
use Rattle.lrc_ranks.specs.Missing.{code_by, rank_with}
use Rattle.lrc_ranks.specs.Sets.{at_rank, at_fragment, has}
use Rattle.lrc_rows.specs.NodeStates.{NodeStates}
use Rattle.lrc_rows.specs.Listed.{rows_in, row_code, row_homes}

-- the masks where one fragment has this home
pub record AreWith (states : NodeStates) (f : ℕ) (home : Option Seat) (before after : Losses) : Type 0 where
  pub code : after.code ≡ before.code
  pub homeless : IsPut f (is_none home) before.homeless after.homeless
  pub missing : IsPut f (is_missing states.up home) before.missing after.missing
  pub needs : IsPut f (is_to_move states.draining home) before.needs after.needs

-- one of the row's fragments has its home on the node
abbrev pub is_row_on : NodeNo → Option Row → Bool
is_row_on n o = option_map_or (λ r. list_any (sits_on n) r.homes) o false

-- the domains of the row are those of the nodes of its homes
abbrev pub AreRowDomains : List NodeInfo → Row → Type 0
AreRowDomains nodes r = AreDomainsOf nodes (λ f. get_or r.homes f None) r.domains

-- The masks of each row follow from its homes (that of the missing fragments if it has work, by the nodes that are up), and so do its
-- domains; and the stripes of a node are those with a home there.
pub record IsKept (states : NodeStates) (rows : StripeNo → Option Row) : Type 0 where
  pub losses : (s : StripeNo) (r : Row) → rows s ≡ Some r → AreKept states.up states.draining r.homes r.losses
  pub domains : (s : StripeNo) (r : Row) → rows s ≡ Some r → AreRowDomains states.nodes r
  pub listed : (n : NodeNo) (s : StripeNo) → states.on n s ≡ is_row_on n (rows s)

-- the row, with the mask of the missing fragments recomputed from its homes
abbrev pub fresh : (NodeNo → Bool) → Row → Row
fresh online r = record r { losses = renewed online r.homes r.losses }

-- the rows, with these masks recomputed
abbrev pub freshened : (NodeNo → Bool) → List (Option Row) → List (Option Row)
freshened online rows = map (option_map (fresh online)) rows

-- one of the row's fragments has its home on the seat
abbrev pub holds : Seat → Option Row → Bool
holds seat o = option_map_or (λ r. list_any (is_on_seat seat) r.homes) o false

-- the rows are of the same stripes, with the same codes and homes
pub record AreSameStripes (before after : StripeNo → Option Row) : Type 0 where
  pub there : (s : StripeNo) → is_some (after s) ≡ is_some (before s)
  pub codes : (s : StripeNo) → row_code (after s) ≡ row_code (before s)
  pub homes : (s : StripeNo) → row_homes (after s) ≡ row_homes (before s)

-- the row has become another, if there is one
abbrev pub IsRenewed : (Row → Row → Type 0) → Option Row → Option Row → Type 0
IsRenewed R None after = after ≡ None
IsRenewed R (Some r) after = (q : Row) × (after ≡ Some q) × R r q

-- each row of a stripe of the set has become another, and the others are as they were
pub record AreRenewed (set : StripeNo → Bool) (R : Row → Row → Type 0) (before after : StripeNo → Option Row) : Type 0 where
  pub listed : (s : StripeNo) → set s ≡ true → IsRenewed R (before s) (after s)
  pub others : (s : StripeNo) → set s ≡ false → after s ≡ before s

-- (internal) the row with these losses
pub record IsWithLosses (given : Losses) (before after : Row) : Type 0 where
  pub homes : after.homes ≡ before.homes
  pub domains : after.domains ≡ before.domains
  pub losses : after.losses ≡ given

-- (internal) the row where these fragments are missing or not, as given
pub record IsWithMissing (fragments : LossMask) (are_missing : Bool) (before after : Row) : Type 0 where
  pub homes : after.homes ≡ before.homes
  pub domains : after.domains ≡ before.domains
  pub code : after.losses.code ≡ before.losses.code
  pub homeless : after.losses.homeless ≡ before.losses.homeless
  pub missing : (f : ℕ) → bits_set after.losses.missing.bits f ≡ (if bits_set fragments.bits f then are_missing else bits_set before.losses.missing.bits f)
  pub needs : after.losses.needs ≡ before.losses.needs

-- the row where a fragment has this home or none, with these domains and losses
pub record IsRehomed (f : ℕ) (home : Option Seat) (put : HomeDomains) (given : Losses) (before after : Row) : Type 0 where
  pub homes : after.homes ≡ set before.homes f home
  pub domains : after.domains ≡ put
  pub losses : after.losses ≡ given

-- (internal) the row where the fragments with a home on the node are missing or not, as given, if it has work
pub record IsMissingOn (n : NodeNo) (are_missing : Bool) (before after : Row) : Type 0 where
  pub homes : after.homes ≡ before.homes
  pub domains : after.domains ≡ before.domains
  pub code : after.losses.code ≡ before.losses.code
  pub homeless : after.losses.homeless ≡ before.losses.homeless
  pub missing : before.losses.needs.bits ≢ 0 → IsPutOn n are_missing before.homes before.losses.missing after.losses.missing
  pub needs : after.losses.needs ≡ before.losses.needs

-- (internal) the row where the fragments with a home on the node need a lease or not, as given
pub record IsToMoveOn (up : NodeNo → Bool) (n : NodeNo) (are_to_move : Bool) (before after : Row) : Type 0 where
  pub homes : after.homes ≡ before.homes
  pub domains : after.domains ≡ before.domains
  pub code : after.losses.code ≡ before.losses.code
  pub homeless : after.losses.homeless ≡ before.losses.homeless
  pub missing : after.losses.missing ≡ (renewed up before.homes before.losses).missing
  pub needs : IsPutOn n are_to_move before.homes before.losses.needs after.losses.needs

-- ---- the rows

-- the stripes of each rank, by the ranks of their rows' masks
abbrev pub queued : (Losses → Option ℕ) → (StripeNo → Option Row) → ℕ → StripeNo → Bool
queued rank rows k s = is_at k (option_and_then (λ r. rank r.losses) (rows s))

-- the stripes with work of each rank, where the upgrade domains of the set are upgrading
abbrev pub ranked : List Bool → (StripeNo → Option Row) → ℕ → StripeNo → Bool
ranked upgrading rows k s = is_at k (option_and_then (λ r. work_rank_with upgrading r.homes r.domains r.losses) (rows s))

-- the fragments of a row that need a lease, as bits; none where there is no row
abbrev pub needs_of : Option Row → ℕ
needs_of o = option_map_or (λ r. r.losses.needs.bits) o 0

-- one of the row's fragments needs a lease
abbrev pub row_has_work : Option Row → Bool
row_has_work o = option_map_or (λ r. not (nat_eq r.losses.needs.bits 0)) o false

-- (internal) the row has work, and the fragment is missing by its mask
abbrev pub is_planed : ℕ → Option Row → Bool
is_planed f o = option_map_or (λ r. not (nat_eq r.losses.needs.bits 0) && bits_set r.losses.missing.bits f) o false

-- (internal) the fragment of the row has its home in an upgrading domain
abbrev pub is_in_upgrade : List Bool → ℕ → Option Row → Bool
is_in_upgrade upgrading f o = option_map_or (λ r. in_upgrade upgrading r.homes r.domains f) o false

-- (internal) the planes have the stripes with work, their missing fragments by the masks, and the codes of all stripes
pub record ArePlaned (rows : StripeNo → Option Row) (planes : Planes) : Type 0 where
  pub work : has planes.work ≡ (λ s. row_has_work (rows s))
  pub missing : (f : ℕ) (s : StripeNo) → f < 16 → at_fragment planes.missing f s ≡ is_planed f (rows s)
  pub narrow : (s : StripeNo) (r : Row) → rows s ≡ Some r → code_by planes.narrow s ≡ r.losses.code

-- (internal) the stripes with work of each rank, by the fragments that they miss in the planes and those with a home in
-- an upgrading domain
pub record AreRanksOf (list : List (Option Row)) (upgrading : List Bool) (planes : Planes) (work : List (List Bool)) :
    Type 0 where
  pub more : List (List Bool)
  pub each : (f : ℕ) (s : StripeNo) → f < 16
      → at_fragment more f s ≡ (has planes.work s && is_in_upgrade upgrading f (rows_in list s))
  pub ranks : at_rank work
      ≡ (λ k s. has planes.work s && nat_eq (rank_with planes.narrow planes.missing more s) k)

-- (internal) The lists have an entry for each stripe number. The fragments that need a lease are those of the rows, the set has the stripes with a row, and the queue has the stripes with work at their ranks.
pub record AreQueued (list : List (Option Row)) (upgrading : List Bool) (needs : List ℕ) (there : List Bool) (work : List (List Bool)) (planes : Planes) : Type 0 where
  pub long : length list ≡ 4096
  pub needs_long : length needs ≡ 4096
  pub needed : (s : StripeNo) → get_or needs s.value 0 ≡ needs_of (rows_in list s)
  pub present : has there ≡ (λ s. is_some (rows_in list s))
  pub works : at_rank work ≡ ranked upgrading (rows_in list)
  pub planed : ArePlaned (rows_in list) planes

-- ---- levels

-- the level of a row; Whole without a row
abbrev pub level_in : Option Row → Level
level_in None = Whole
level_in (Some r) = level_of r.losses

-- (internal) the stripes with the levels of their rows
abbrev pub levels_of : (StripeNo → Option Row) → List StripeNo → List StripeLevel
levels_of rows stripes = map (λ s. (s, level_in (rows s))) stripes
