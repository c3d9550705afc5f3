-- The missing fragments of a stripe, and its rank, where upgrade domains are upgrading.
use Rattle.std.specs.Prelude.{ℕ, Bool, ◌&&◌, ◌||◌, false, if◌then◌else◌, nat_lt, nat_eq, List, get_or, Option, Some, None, is_some}
use Rattle.lrc_code.specs.Losses.{FragmentSet, bits_set}
use Rattle.lrc_topology.specs.declared.seat.Seat.{Seat}
use Rattle.lrc_terms.specs.Levels.{rank_by}
use Rattle.lrc_homes.specs.declared.home_domains.HomeDomains.{HomeDomains}
use Rattle.lrc_homes.specs.declared.losses.Losses.{Losses}

-- the fragments with a home, and an upgrade domain of the set stored for it
abbrev pub in_upgrade : List Bool → List (Option Seat) → HomeDomains → FragmentSet
in_upgrade upgrading homes d f = (nat_lt f 16 && get_or upgrading (get_or d.upgrades f 0) false) && is_some (get_or homes f None)

-- the fragments that are missing by the mask, and those
abbrev pub missing_with : List Bool → List (Option Seat) → HomeDomains → Losses → FragmentSet
missing_with upgrading homes d l f = bits_set l.missing.bits f || in_upgrade upgrading homes d f

-- the rank by these fragments, if one needs a lease
abbrev pub work_rank_with : List Bool → List (Option Seat) → HomeDomains → Losses → Option ℕ
work_rank_with upgrading homes d l = if nat_eq l.needs.bits 0 then None else Some (rank_by l.code (missing_with upgrading homes d l))
