-- The domains of the nodes with the homes of a stripe, and of each stripe.
use Rattle.std.specs.Prelude.{◌≡◌, ℕ, List, length, get_or, Some}
use Rattle.lrc_code.specs.declared.numbers.StripeNo.{StripeNo}
use Rattle.lrc_topology.specs.declared.NodeInfo.{NodeInfo}
use Rattle.lrc_topology.specs.declared.seat.Seat.{Seat}
use Rattle.lrc_topology.specs.Nodes.{node_at}
use Rattle.lrc_homes.specs.declared.home_domains.HomeDomains.{HomeDomains}
use Rattle.lrc_terms.specs.Levels.{Homes}

-- the domains stored for a fragment with a home are those of its node
abbrev pub AreDomainsOf : List NodeInfo → Homes → HomeDomains → Type 0
AreDomainsOf nodes homes d =
    (f : ℕ) (seat : Seat) (n : NodeInfo) → homes f ≡ Some seat → node_at nodes seat.node ≡ Some n → (get_or d.faults f 0 ≡ n.fault.value) × (get_or d.upgrades f 0 ≡ n.upgrade.value)

-- there is an entry for each stripe number, with the domains of the nodes of the homes
pub record AreDomainsKept (nodes : List NodeInfo) (homes : StripeNo → Homes) (list : List HomeDomains) : Type 0 where
  pub long : length list ≡ 4096
  pub each : (s : StripeNo) (d : HomeDomains) → AreDomainsOf nodes (homes s) (get_or list s.value d)
