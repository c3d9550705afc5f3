-- The structs of what a book shows.
use Rattle.std.specs.Prelude.{ℕ, Bool, if◌then◌else◌, List, map, replicate, Option, Some, None}
use Rattle.lrc_code.specs.declared.codes.Code.{Code}
use Rattle.lrc_code.specs.declared.codes.Code.TheVariants.{Wide, Narrow}
use Rattle.lrc_code.specs.declared.losses.LossMask.{LossMask}
use Rattle.lrc_code.specs.declared.numbers.StripeNo.{StripeNo}
use Rattle.lrc_topology.specs.declared.NodeInfo.{NodeInfo}
use Rattle.lrc_topology.specs.declared.seat.Seat.{Seat}
use Rattle.lrc_terms.specs.declared.level.Level.{Level}
use Rattle.lrc_terms.specs.declared.level.Level.TheVariants as level
use Rattle.lrc_terms.specs.declared.mode.Mode.{Mode}
use Rattle.lrc_terms.specs.declared.mode.Mode.TheVariants.{Active, Draining, Gone}
use Rattle.lrc_terms.specs.Stripes.{StripeFragment, StripeLevel}
use Rattle.lrc_records.specs.Replies.{encoded_seat, no_seat}
use Rattle.lrc_records.specs.declared.home.LrcHome.{LrcHome}
use Rattle.lrc_records.specs.declared.home.LrcHomes.{LrcHomes}
use Rattle.lrc_records.specs.declared.level.LrcLevel.{LrcLevel}
use Rattle.lrc_records.specs.declared.mode.LrcMode.{LrcMode}
use Rattle.lrc_records.specs.declared.risk.LrcRisk.{LrcRisk}
use Rattle.lrc_records.specs.declared.fragment.LrcFragment.{LrcFragment}
use Rattle.lrc_records.specs.declared.stripe.LrcStripe.{LrcStripe}
use Rattle.lrc_records.specs.declared.node.LrcNode.{LrcNode}
use Rattle.lrc_records.specs.declared.outlook.LrcOutlook.{LrcOutlook}

-- 1 for true
abbrev pub flag : Bool → ℕ
flag b = if b then 1 else 0

-- a home, or none
abbrev pub encoded_home : Option Seat → LrcHome
encoded_home (Some seat) = record { seat = encoded_seat seat; is_there = 1; reserved = replicate 3 0 }
encoded_home None = record { seat = no_seat; is_there = 0; reserved = replicate 3 0 }

abbrev pub encoded_homes : List (Option Seat) → LrcHomes
encoded_homes homes = record { homes = map encoded_home homes }

abbrev pub encoded_level : Level → LrcLevel
encoded_level level.Whole = record { kind = 1; margin = 0; reserved = replicate 2 0 }
encoded_level (level.AtRisk m) = record { kind = 2; margin = m; reserved = replicate 2 0 }
encoded_level level.Unavailable = record { kind = 3; margin = 0; reserved = replicate 2 0 }
encoded_level level.Lost = record { kind = 4; margin = 0; reserved = replicate 2 0 }

abbrev pub encoded_risk : StripeLevel → LrcRisk
encoded_risk row = record { stripe = row.0.value; reserved = replicate 2 0; level = encoded_level row.1 }

-- the number of a mode
abbrev pub mode_number : Mode → ℕ
mode_number Active = 1
mode_number Draining = 2
mode_number Gone = 3

abbrev pub encoded_mode : Mode × Bool → LrcMode
encoded_mode shown = record { mode = mode_number shown.0; is_online = flag shown.1; reserved = replicate 2 0 }

-- the number of a code
abbrev pub encoded_code : Code → ℕ
encoded_code Wide = 1
encoded_code Narrow = 2

abbrev pub encoded_fragment : StripeFragment → LrcFragment
encoded_fragment p = record { stripe = p.0.value; fragment = p.1.value; reserved = 0 }

abbrev pub encoded_stripe : StripeNo → Code → LossMask → Level → LrcStripe
encoded_stripe s code missing l =
    record { stripe = s.value; missing = missing.bits; code = encoded_code code; reserved = replicate 3 0; level = encoded_level l }

-- a node, with its mode and whether it is online, whether it is down, and its load
abbrev pub encoded_node : NodeInfo → Mode × Bool → Bool → ℕ → LrcNode
encoded_node n shown is_down load = record {
  number = n.number.value;
  slots = n.slots;
  load = load;
  fault = n.fault.value;
  upgrade = n.upgrade.value;
  mode = mode_number shown.0;
  is_online = flag shown.1;
  is_down = flag is_down;
  reserved = replicate 3 0;
}

-- what becomes of a stripe: its missing fragments, those that are not missing before, whether it is harmed, how many of its
-- leases end, and its level before and after
abbrev pub encoded_outlook : StripeNo → Code → LossMask → LossMask → Bool → ℕ → Level × Level → LrcOutlook
encoded_outlook s code missing newly_missing is_harmed leases_ended levels = record {
  stripe = s.value;
  missing = missing.bits;
  newly_missing = newly_missing.bits;
  code = encoded_code code;
  is_harmed = flag is_harmed;
  leases_ended = leases_ended;
  reserved = replicate 3 0;
  before = encoded_level levels.0;
  after = encoded_level levels.1;
}
