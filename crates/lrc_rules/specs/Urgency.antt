-- The order of repair: which stripes have work, which are at risk, and which fragment is leased next.
use Rattle.std.specs.Prelude.{ℕ, Bool, not, ◌&&◌, ◌||◌, nat_lt, List, map, filter, flat_map, Option, is_none, is_some}
use Rattle.std.specs.List.{list_any}
use Rattle.lrc_code.specs.declared.numbers.StripeNo.{StripeNo}
use Rattle.lrc_code.specs.Numbers.{same_stripe}
use Rattle.lrc_code.specs.Codes.{fragments}
use Rattle.lrc_code.specs.Order.{least, in_order}
use Rattle.lrc_topology.specs.declared.NodeInfo.{NodeInfo}
use Rattle.lrc_terms.specs.declared.level.Level.{Level}
use Rattle.lrc_terms.specs.Levels.{comes_first, is_whole}
use Rattle.lrc_terms.specs.Stripes.{StripeFragment}
use Rattle.lrc_rules.specs.States.{State, code_of, lease_of, rank, level}
use Rattle.lrc_rules.specs.Placement.{chosen}
use Rattle.lrc_rules.specs.Repairs.{needs, is_beyond_repair}

-- ---- stripes

-- these stripes, sorted by the order of repair of stripes
abbrev pub by_rank : List NodeInfo → State → List StripeNo → List StripeNo
by_rank nodes st stripes = in_order (comes_first (rank nodes st)) stripes

-- a fragment of the stripe needs a lease
abbrev pub has_work : List NodeInfo → State → StripeNo → Bool
has_work nodes st s = list_any (needs nodes st s) (fragments (code_of st s))

-- the work list: the stripes with a fragment that needs a lease, in the order of repair
unfoldable pub work : List NodeInfo → State → List StripeNo
work nodes st = by_rank nodes st (filter (has_work nodes st) st.stripes)

-- the risk list: the stripes that are not whole, with their levels, in the order of repair
unfoldable pub risk : List NodeInfo → State → List (StripeNo × Level)
risk nodes st = map (λ s. (s, level nodes st s)) (by_rank nodes st (filter (λ s. not (is_whole (level nodes st s))) st.stripes))

-- ---- fragments

-- a lease of the fragment would be granted
abbrev pub is_grantable : List NodeInfo → State → StripeFragment → Bool
is_grantable nodes st p =
    is_none (lease_of st p.0 p.1) && (needs nodes st p.0 p.1 && (not (is_beyond_repair nodes st p.0 p.1) && is_some (chosen nodes st p.0 p.1)))

-- every fragment of every stripe
abbrev pub stripe_fragments : State → List StripeFragment
stripe_fragments st = flat_map (λ s. map (λ f. (s, f)) (fragments (code_of st s))) st.stripes

-- the order of repair of fragments: that of their stripes, and within a stripe by fragment number
abbrev pub is_repaired_before : (StripeNo → ℕ) → StripeFragment → StripeFragment → Bool
is_repaired_before rank p q = comes_first rank p.0 q.0 || (same_stripe p.0 q.0 && nat_lt p.1.value q.1.value)

-- the most urgent fragment whose lease would be granted
unfoldable pub next_of : List NodeInfo → State → Option StripeFragment
next_of nodes st = least (is_repaired_before (rank nodes st)) (filter (is_grantable nodes st) (stripe_fragments st))
