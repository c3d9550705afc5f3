-- The masks that a row keeps, and the ranks that follow from them.
use Rattle.std.specs.Prelude.{◌≡◌, ◌≢◌, ℕ, ◌&&◌, Bool, IsFalse, if◌then◌else◌, nat_lt, nat_eq, List, get_or, Option, Some, None, is_none}
use Rattle.lrc_code.specs.declared.codes.Code.{Code}
use Rattle.lrc_code.specs.declared.losses.LossMask.{LossMask}
use Rattle.lrc_code.specs.declared.numbers.NodeNo.{NodeNo}
use Rattle.lrc_code.specs.Codes.{has_fragment}
use Rattle.lrc_code.specs.Losses.{FragmentSet, bits_set, bits_of}
use Rattle.lrc_topology.specs.declared.seat.Seat.{Seat}
use Rattle.lrc_terms.specs.declared.level.Level.{Level}
use Rattle.lrc_homes.specs.declared.losses.Losses.{Losses}
use Rattle.lrc_terms.specs.Levels.{level_by, rank_by}
use Rattle.lrc_homes.specs.Homes.{sits_on, is_missing, is_to_move}

-- ---- masks

-- every fragment of the code is in the mask
abbrev pub IsFull : Code → LossMask → Type 0
IsFull code mask = (f : ℕ) → bits_set mask.bits f ≡ has_fragment code f

-- every fragment of the code is in each mask
pub record AreAll (code : Code) (l : Losses) : Type 0 where
  pub homeless : IsFull code l.homeless
  pub missing : IsFull code l.missing
  pub needs : IsFull code l.needs

-- one fragment is in the mask or not, as given, and the others as before
abbrev pub IsPut : ℕ → Bool → LossMask → LossMask → Type 0
IsPut f is_in before after = (g : ℕ) → bits_set after.bits g ≡ (if nat_eq g f then is_in else bits_set before.bits g)

-- (internal) the fragments with a home on the node are in the mask or not, as given, and the others as before
abbrev pub IsPutOn : NodeNo → Bool → List (Option Seat) → LossMask → LossMask → Type 0
IsPutOn n are_in homes before after =
    (g : ℕ) → bits_set after.bits g ≡ (if nat_lt g 16 && sits_on n (get_or homes g None) then are_in else bits_set before.bits g)

-- the mask has the fragments of the code whose homes pass the test
abbrev pub IsMaskOf : Code → (Option Seat → Bool) → List (Option Seat) → LossMask → Type 0
IsMaskOf code test homes mask = (f : ℕ) → bits_set mask.bits f ≡ (has_fragment code f && test (get_or homes f None))

-- no fragment that the code lacks has a home
abbrev pub AreWithin : Code → List (Option Seat) → Type 0
AreWithin code homes = (f : ℕ) → IsFalse (has_fragment code f) → get_or homes f None ≡ None

-- the masks are those of the homes, by the nodes that are online and those that are draining
pub record AreLosses (code : Code) (online draining : NodeNo → Bool) (homes : List (Option Seat)) (l : Losses) : Type 0 where
  pub within : AreWithin code homes
  pub homeless : IsMaskOf code is_none homes l.homeless
  pub missing : IsMaskOf code (is_missing online) homes l.missing
  pub needs : IsMaskOf code (is_to_move draining) homes l.needs

-- the stored masks: that of the missing fragments is exact if a fragment needs a lease, and the others always
pub record AreKept (online draining : NodeNo → Bool) (homes : List (Option Seat)) (l : Losses) : Type 0 where
  pub within : AreWithin l.code homes
  pub homeless : IsMaskOf l.code is_none homes l.homeless
  pub missing : l.needs.bits ≢ 0 → IsMaskOf l.code (is_missing online) homes l.missing
  pub needs : IsMaskOf l.code (is_to_move draining) homes l.needs

-- the fragments of the code with these homes that are missing
abbrev pub missing_of : Code → (NodeNo → Bool) → List (Option Seat) → FragmentSet
missing_of code online homes f = has_fragment code f && is_missing online (get_or homes f None)

-- the masks, with that of the missing fragments recomputed from the homes
abbrev pub renewed : (NodeNo → Bool) → List (Option Seat) → Losses → Losses
renewed online homes l = record l { missing = record { bits = bits_of l.code (missing_of l.code online homes) } }

-- ---- ranks

-- the level of a stripe with these masks
unfoldable pub level_of : Losses → Level
level_of l = level_by l.code (bits_set l.homeless.bits) (bits_set l.missing.bits)

-- its rank
abbrev pub rank_of : Losses → ℕ
rank_of l = rank_by l.code (bits_set l.missing.bits)

-- its rank, if it has work
abbrev pub work_rank : Losses → Option ℕ
work_rank l = if nat_eq l.needs.bits 0 then None else Some (rank_of l)

-- its rank, if a fragment is missing
abbrev pub risk_rank : Losses → Option ℕ
risk_rank l = if nat_eq l.missing.bits 0 then None else Some (rank_of l)
