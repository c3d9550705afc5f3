-- Internal: no public clause reaches these definitions.
-- The stored form of the homes of a stripe: the nodes and the slots as numbers, and the fragments that have a home as bits.
use Rattle.std.specs.Prelude.{◌≡◌, ◌<◌, ℕ, List, map, length, get_or, if◌then◌else◌, Option, Some, None}
use Rattle.std.specs.List.{range_with_len}
use Rattle.lrc_code.specs.Losses.{bits_set}
use Rattle.lrc_topology.specs.declared.seat.Seat.{Seat}

-- the home of a fragment, if it has one
abbrev pub home_at : List ℕ → List ℕ → ℕ → ℕ → Option Seat
home_at nodes slots bits f = if bits_set bits f then Some (record { node = record { value = get_or nodes f 0 }; slot = get_or slots f 0 }) else None

-- the homes, by fragment number from 0 to 15
unfoldable pub homes_of : List ℕ → List ℕ → ℕ → List (Option Seat)
homes_of nodes slots bits = map (home_at nodes slots bits) (range_with_len 0 16)

-- each array has an entry for each fragment, and only bits of fragments are set
pub record AreHomeArrays (nodes slots : List ℕ) (bits : ℕ) : Type 0 where
  pub nodes_long : length nodes ≡ 16
  pub slots_long : length slots ≡ 16
  pub few : bits < 65536
