-- The rows of what a book has, from a place on.
use Rattle.std.specs.Prelude.{◌≡◌, ℕ, ◌-◌, ◌/◌, ◌%◌, Bool, ◌&&◌, ◌||◌, nat_lt, nat_le, nat_eq, List, ◌++◌, drop, length, map, filter, option_map}
use Rattle.std.specs.List.{filter_map}
use Rattle.std.proofs.Common.{lit<}
use Rattle.std.proofs.lemmas.Nat.{mod_below}
use Rattle.lrc_code.specs.declared.numbers.StripeNo.{StripeNo}
use Rattle.lrc_code.specs.declared.numbers.NodeNo.{NodeNo}
use Rattle.lrc_code.specs.Losses.{bits_of}
use Rattle.lrc_topology.specs.declared.NodeInfo.{NodeInfo}
use Rattle.lrc_terms.specs.Stripes.{StripeFragment, stripe_at}
use Rattle.lrc_rules.specs.States.{State, code_of, missing, level, lease_of, load, mode_of, is_down, is_online}
use Rattle.lrc_book.specs.Books.{BookView, state_of}
use Rattle.lrc_book.specs.Looks.{stripes_of, places, homes_on}
use Rattle.lrc_records.specs.declared.stripe.LrcStripe.{LrcStripe}
use Rattle.lrc_records.specs.declared.node.LrcNode.{LrcNode}
use Rattle.lrc_records.specs.declared.lease.LrcLease.{LrcLease}
use Rattle.lrc_records.specs.declared.fragment.LrcFragment.{LrcFragment}
use Rattle.lrc_records.specs.declared.entry.LrcEntry.{LrcEntry}
use Rattle.lrc_records.specs.Shown.{encoded_stripe, encoded_node, encoded_fragment}
use Rattle.lrc_records.specs.Replies.{encoded_lease, encoded_entry}

-- these are the first rows, `count` in number, and the rows after them are as before
abbrev pub AreFirstRows : {T : Type 0} → List T → ℕ → List T → List T → Type 0
AreFirstRows rows count before after = (count ≡ length rows) × (after ≡ rows ++ drop count before)

-- the fragment is that of these numbers, or comes after it: by stripe, and by fragment
abbrev pub is_from : ℕ → ℕ → StripeFragment → Bool
is_from stripe fragment p = nat_lt stripe p.0.value || (nat_eq stripe p.0.value && nat_le fragment p.1.value)

-- (internal) the fragment at a place among all, of which each stripe number has sixteen
abbrev pub place_at : ℕ → StripeFragment
place_at k = (stripe_at (k / 16), record { value = k % 16; in_range = mod_below k 16 (lit< tt) })

-- the row of a stripe
abbrev pub stripe_record : List NodeInfo → State → StripeNo → LrcStripe
stripe_record nodes st s = encoded_stripe s (code_of st s) (record { bits = bits_of (code_of st s) (missing nodes st s) }) (level nodes st s)

-- the stripes of the store from a number on, in rising order
abbrev pub stripes_from : BookView → ℕ → List LrcStripe
stripes_from b from = map (stripe_record b.nodes (state_of b)) (filter (λ s. nat_le from s.value) (stripes_of (state_of b)))

-- the row of a node
abbrev pub node_record : State → NodeInfo → LrcNode
node_record st n = encoded_node n (mode_of st n.number, is_online st n) (is_down st n.number) (load st n.number)

-- the nodes from a position on, in the order of the text
abbrev pub nodes_from : BookView → ℕ → List LrcNode
nodes_from b from = map (node_record (state_of b)) (drop from b.nodes)

-- the live leases from a fragment on, in rising order of stripe and fragment
abbrev pub leases_from : BookView → ℕ → ℕ → List LrcLease
leases_from b stripe fragment = filter_map (λ p. option_map encoded_lease (lease_of (state_of b) p.0 p.1)) (filter (is_from stripe fragment) places)

-- the fragments from one on that have a home on a node, in rising order of stripe and fragment
abbrev pub homes_from : BookView → NodeNo → ℕ → ℕ → List LrcFragment
homes_from b n stripe fragment = map encoded_fragment (filter (is_from stripe fragment) (homes_on (state_of b) n))

-- the entries of the store from a place on, as far as the book has them; the place is the number of those before it
abbrev pub entries_from : BookView → ℕ → List LrcEntry
entries_from b place = map encoded_entry (drop (place - b.before) b.history)
