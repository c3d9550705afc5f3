-- Images whose rows are in order.
use Rattle.std.specs.Prelude.{◌≡◌, Bool, not, ◌&&◌, nat_lt, List, length, All, AllPairs, get_or, IsTrue}
use Rattle.std.specs.List.{list_any}
use Rattle.lrc_code.specs.Codes.{fragments, all_fragments}
use Rattle.lrc_terms.specs.Stripes.{comes_before}
use Rattle.lrc_terms.specs.Modes.{is_active}
use Rattle.lrc_images.specs.declared.image.NodeRow.{NodeRow}
use Rattle.lrc_images.specs.declared.image.StripeRow.{StripeRow}
use Rattle.lrc_images.specs.declared.image.GrantRow.{GrantRow}
use Rattle.lrc_images.specs.declared.image.LeaseRow.{LeaseRow}
use Rattle.lrc_images.specs.declared.image.Image.{Image}

-- ---- which row comes first

abbrev pub node_first : NodeRow → NodeRow → Bool
node_first a b = nat_lt a.node.value b.node.value

abbrev pub stripe_first : StripeRow → StripeRow → Bool
stripe_first a b = nat_lt a.stripe.value b.stripe.value

abbrev pub grant_first : GrantRow → GrantRow → Bool
grant_first a b = nat_lt a.stripe.value b.stripe.value

-- by stripe number, then by fragment number
abbrev pub lease_first : LeaseRow → LeaseRow → Bool
lease_first a b = comes_before (a.stripe, a.fragment) (b.stripe, b.fragment)

-- each element comes before every later one
abbrev pub IsRising : {X : Type 0} → (X → X → Bool) → List X → Type 0
IsRising first xs = AllPairs (λ a b. IsTrue (first a b)) xs

-- ---- rows that say something

-- the node is not both active and up
abbrev pub tells_node : NodeRow → Bool
tells_node r = not (is_active r.mode && not r.is_down)

-- a lease of some fragment was granted
abbrev pub tells_grants : GrantRow → Bool
tells_grants r = list_any (λ f. nat_lt 0 (get_or r.granted f.value 0)) all_fragments

-- The rows of each list are in rising order, and none says nothing.
pub record AreRising (i : Image) : Type 0 where
  pub nodes : IsRising node_first i.nodes.items
  pub stripes : IsRising stripe_first i.stripes.items
  pub grants : IsRising grant_first i.grants.items
  pub leases : IsRising lease_first i.leases.items
  pub telling_nodes : All (λ r. IsTrue (tells_node r)) i.nodes.items
  pub telling_grants : All (λ r. IsTrue (tells_grants r)) i.grants.items

-- each row of a stripe or of grants has a place for each of the sixteen fragments
pub record HaveAllFragments (i : Image) : Type 0 where
  pub homes : All (λ r. length r.homes ≡ 16) i.stripes.items
  pub granted : All (λ r. length r.granted ≡ 16) i.grants.items
