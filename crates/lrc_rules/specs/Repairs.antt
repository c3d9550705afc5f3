-- Which fragments need a lease, and how they are rebuilt.
use Rattle.std.specs.Prelude.{◌≡◌, ◌≢◌, ◌<◌, ◌↔◌, Bool, true, false, not, ◌&&◌, if◌then◌else◌, IsTrue, IsFalse, IsSomeAnd, List, length, AllPairs, Contains}
use Rattle.std.specs.Option.{option_map_or}
use Rattle.lrc_code.specs.declared.codes.Code.{Code}
use Rattle.lrc_code.specs.declared.codes.Code.TheVariants.{Wide, Narrow}
use Rattle.lrc_code.specs.declared.numbers.StripeNo.{StripeNo}
use Rattle.lrc_code.specs.declared.numbers.Fragment.{Fragment}
use Rattle.lrc_code.specs.Codes.{share_class, is_in_group, others, group_size}
use Rattle.lrc_code.specs.Losses.{is_recoverable, is_local}
use Rattle.lrc_topology.specs.declared.NodeInfo.{NodeInfo}
use Rattle.lrc_terms.specs.Levels.{homes_of, needs_in}
use Rattle.lrc_rules.specs.declared.kind.Kind.{Kind}
use Rattle.lrc_rules.specs.declared.kind.Kind.TheVariants.{Local, Local3, Global, Move}
use Rattle.lrc_rules.specs.States.{State, code_of, online_at, drains_at, missing}

-- the fragment needs a lease: the stripe's code has it, and it has no home or a home on a draining node
abbrev pub needs : List NodeInfo → State → StripeNo → Fragment → Bool
needs nodes st s f = needs_in (code_of st s) (drains_at nodes st) (homes_of st.homes s) f.value

-- the fragment has a home on an online node
abbrev pub is_at_home : List NodeInfo → State → StripeNo → Fragment → Bool
is_at_home nodes st s f = option_map_or (λ seat. online_at nodes st seat.node) (homes_of st.homes s f.value) false

-- the stripe's missing fragments are recoverable
abbrev pub is_safe : List NodeInfo → State → StripeNo → Bool
is_safe nodes st s = is_recoverable (code_of st s) (missing nodes st s)

-- rebuilt from the other members of the local group
abbrev pub local_kind : Code → List Fragment → Kind
local_kind Wide sources = Local sources
local_kind Narrow sources = Local3 sources

-- how a fragment is rebuilt: copied from its home if that is online; else from its local group if no other member is
-- missing; else from the whole stripe
unfoldable pub kind : List NodeInfo → State → StripeNo → Fragment → Kind
kind nodes st s f =
    if is_at_home nodes st s f then Move
    else (if is_local (code_of st s) (missing nodes st s) f then local_kind (code_of st s) (others (code_of st s) f) else Global)

-- rebuilt from the whole stripe
abbrev pub is_global : Kind → Bool
is_global (Local sources) = false
is_global (Local3 sources) = false
is_global Global = true
is_global Move = false

-- the fragment can only be rebuilt from the whole stripe, and the missing fragments are not recoverable
abbrev pub is_beyond_repair : List NodeInfo → State → StripeNo → Fragment → Bool
is_beyond_repair nodes st s f = not (is_safe nodes st s) && is_global (kind nodes st s f)

-- ---- in words

-- The fragment has a home on an online node.
abbrev pub IsAtHome : List NodeInfo → State → StripeNo → Fragment → Type 0
IsAtHome nodes st s f = IsSomeAnd (homes_of st.homes s f.value) (λ seat. IsTrue (online_at nodes st seat.node))

-- The fragment is rebuilt from its local group: it is not at home, it is in a local group, and no other member of the
-- group is missing. The sources are these other members in ascending order: six with the code Wide, three with the
-- code Narrow.
pub record IsFromItsGroup (nodes : List NodeInfo) (st : State) (s : StripeNo) (f : Fragment) (sources : List Fragment) : Type 0 where
  pub away : ¬ (IsAtHome nodes st s f)
  pub group : IsTrue (is_in_group (code_of st s) f)
  pub present : (g : Fragment) → IsTrue (share_class (code_of st s) f g) → g ≢ f → IsFalse (missing nodes st s g.value)
  pub count : length sources ≡ group_size (code_of st s)
  pub rising : AllPairs (λ g h. g.value < h.value) sources
  pub members : (g : Fragment) → Contains sources g ↔ (IsTrue (share_class (code_of st s) f g) × (g ≢ f))
