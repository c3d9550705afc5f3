-- Which stripes become unrecoverable while an upgrade domain is offline.
use Rattle.std.specs.Prelude.{ℕ, ◌<◌, Bool, true, false, not, ◌&&◌, ◌||◌, nat_lt, map, IsTrue, IsFalse, count_by}
use Rattle.std.specs.List.{list_any}
use Rattle.lrc_code.specs.declared.numbers.StripeNo.{StripeNo}
use Rattle.lrc_code.specs.declared.numbers.NodeNo.{NodeNo}
use Rattle.lrc_code.specs.declared.numbers.UpgradeNo.{UpgradeNo}
use Rattle.lrc_code.specs.Codes.{fragments, all_fragments}
use Rattle.lrc_code.specs.Losses.{is_recoverable}
use Rattle.lrc_terms.specs.Levels.{missing_in}
use Rattle.lrc_nodes.specs.declared.node_state.NodeState.{NodeState}
use Rattle.lrc_nodes.specs.States.{infos_in, online_in}
use Rattle.lrc_stripes.specs.Stored.{Stored, with_upgrading_in, is_home_on, has_work}

-- no domain is upgrading
abbrev pub at_rest : Stored → Stored
at_rest t = record t { nodes = map {A = NodeState} {B = NodeState} (λ x. record x { is_upgrading = false }) t.nodes }

-- the domain is upgrading
abbrev pub with_upgrade : Stored → UpgradeNo → Stored
with_upgrade t u = with_upgrading_in t u true

-- the missing fragments of the stripe are recoverable
abbrev pub is_recoverable_now : Stored → StripeNo → Bool
is_recoverable_now t s = is_recoverable (t.code s) (missing_in (t.code s) (online_in t.nodes) (t.homes s))

-- the stripe exists, is recoverable now, and would not be with the nodes of the domain offline
unfoldable pub is_lost_to : Stored → UpgradeNo → StripeNo → Bool
is_lost_to t u s = t.stripes s && (is_recoverable_now t s && not (is_recoverable_now (with_upgrade t u) s))

-- a fragment of the stripe has its home on the node
abbrev pub is_stripe_on : Stored → NodeNo → StripeNo → Bool
is_stripe_on t n s = list_any (λ f. is_home_on t n (s, f)) all_fragments

-- the number of nodes that are not online and have a home of the stripe
abbrev pub offline_count : Stored → StripeNo → ℕ
offline_count t s = count_by (λ n. not (online_in t.nodes n.number) && is_stripe_on t n.number s) (infos_in t.nodes)

-- it needs a lease, or its homes are on several nodes that are not online
unfoldable pub is_short : Stored → StripeNo → Bool
is_short t s = nat_lt 1 (offline_count t s) || has_work t s

-- it is short, and lost to the domain
abbrev pub is_short_lost_to : Stored → UpgradeNo → StripeNo → Bool
is_short_lost_to t u s = is_short t s && is_lost_to t u s

-- this is a stripe that is lost to the domain, and none of a lower number is one
pub record IsFirstLostTo (t : Stored) (u : UpgradeNo) (s : StripeNo) : Type 0 where
  pub lost : IsTrue (is_lost_to t u s)
  pub first : (r : StripeNo) → r.value < s.value → IsFalse (is_lost_to t u r)

-- this is one that is short too, and none of a lower number is one
pub record IsFirstShortLostTo (t : Stored) (u : UpgradeNo) (s : StripeNo) : Type 0 where
  pub lost : IsTrue (is_short_lost_to t u s)
  pub first : (r : StripeNo) → r.value < s.value → IsFalse (is_short_lost_to t u r)
