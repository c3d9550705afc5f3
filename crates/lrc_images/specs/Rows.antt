-- The rows of the image of a state, in rising order.
use Rattle.std.specs.Prelude.{◌≡◌, ℕ, ◌&&◌, if◌then◌else◌, List, map, flat_map, Option, Some, None, is_some, option_map, option_to_list}
use Rattle.std.specs.List.{range_with_len}
use Rattle.lrc_code.specs.declared.numbers.StripeNo.{StripeNo}
use Rattle.lrc_code.specs.declared.numbers.NodeNo.{NodeNo}
use Rattle.lrc_code.specs.Codes.{all_fragments}
use Rattle.lrc_topology.specs.declared.NodeInfo.{NodeInfo}
use Rattle.lrc_topology.specs.Nodes.{node_at}
use Rattle.lrc_terms.specs.Levels.{homes_of}
use Rattle.lrc_terms.specs.Stripes.{stripe_at}
use Rattle.lrc_terms.specs.declared.lease.Lease.{Lease}
use Rattle.lrc_rules.specs.declared.entry.Entry.{Entry}
use Rattle.lrc_rules.specs.States.{State, has_stripe, code_of, lease_of, mode_of, is_down}
use Rattle.lrc_rules.specs.Leases.{grants}
use Rattle.lrc_images.specs.declared.image.NodeRow.{NodeRow}
use Rattle.lrc_images.specs.declared.image.StripeRow.{StripeRow}
use Rattle.lrc_images.specs.declared.image.GrantRow.{GrantRow}
use Rattle.lrc_images.specs.declared.image.LeaseRow.{LeaseRow}
use Rattle.lrc_images.specs.declared.image.Image.{Image}
use Rattle.lrc_images.specs.Rising.{tells_node, tells_grants}

-- the rows for each of the first `count` numbers, in ascending order
unfoldable pub rows_below : {X Y : Type 0} → (ℕ → Y) → (Y → List X) → ℕ → List X
rows_below at rows count = flat_map rows (map at (range_with_len 0 count))

-- ---- nodes

-- the node of a number
abbrev pub node_no : ℕ → NodeNo
node_no k = record { value = k }

-- a node with its mode, and whether it is down
abbrev pub row_of_node : State → NodeNo → NodeRow
row_of_node st n = record { node = n; mode = mode_of st n; is_down = is_down st n }

-- the row of a node; none if the node is active and not down, or not in the store
abbrev pub node_row : List NodeInfo → State → NodeNo → Option NodeRow
node_row nodes st n = if is_some (node_at nodes n) && tells_node (row_of_node st n) then Some (row_of_node st n) else None

-- the rows of the nodes
abbrev pub node_rows : List NodeInfo → State → List NodeRow
node_rows nodes st = rows_below node_no (λ n. option_to_list (node_row nodes st n)) 65536

-- ---- stripes

-- a stripe with its code and homes
abbrev pub row_of_stripe : State → StripeNo → StripeRow
row_of_stripe st s = record { stripe = s; code = code_of st s; homes = map (λ f. homes_of st.homes s f.value) all_fragments }

-- the row of a stripe; none if the store has no such stripe
abbrev pub stripe_row : State → StripeNo → Option StripeRow
stripe_row st s = if has_stripe st s then Some (row_of_stripe st s) else None

-- the rows of the stripes
abbrev pub stripe_rows : State → List StripeRow
stripe_rows st = rows_below stripe_at (λ s. option_to_list (stripe_row st s)) 4096

-- ---- grants

-- a stripe number with the number of leases granted for each fragment
abbrev pub row_of_grants : List Entry → StripeNo → GrantRow
row_of_grants past s = record { stripe = s; granted = map (λ f. grants past s f) all_fragments }

-- the row of a stripe number; none if no lease was granted for it
abbrev pub grant_row : List Entry → StripeNo → Option GrantRow
grant_row past s = if tells_grants (row_of_grants past s) then Some (row_of_grants past s) else None

-- the rows of the grants
abbrev pub grant_rows : List Entry → List GrantRow
grant_rows past = rows_below stripe_at (λ s. option_to_list (grant_row past s)) 4096

-- ---- leases

-- the row of a lease
abbrev pub lease_row : Lease → LeaseRow
lease_row l = record { stripe = l.stripe; fragment = l.fragment; holder = l.holder; target = l.target; expiry = l.expiry }

-- the rows of the leases of a stripe
abbrev pub stripe_leases : State → StripeNo → List LeaseRow
stripe_leases st s = flat_map (λ f. option_to_list (option_map lease_row (lease_of st s f))) all_fragments

-- the rows of the leases
abbrev pub lease_rows : State → List LeaseRow
lease_rows st = rows_below stripe_at (stripe_leases st) 4096

-- ---- the image

-- The image is that of this state, with the grants of these entries, after `before` entries of the store.
pub record IsImageOf (nodes : List NodeInfo) (past : List Entry) (st : State) (before : ℕ) (i : Image) : Type 0 where
  pub before_is : i.before ≡ before
  pub clock_is : i.clock ≡ st.clock
  pub upgrading_is : i.upgrading ≡ st.upgrading
  pub nodes_are : i.nodes.items ≡ node_rows nodes st
  pub stripes_are : i.stripes.items ≡ stripe_rows st
  pub grants_are : i.grants.items ≡ grant_rows past
  pub leases_are : i.leases.items ≡ lease_rows st
