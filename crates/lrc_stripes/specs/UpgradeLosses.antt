-- Internal: no public clause reaches these definitions.
-- Which rows become unrecoverable while an upgrade domain is offline, where no other is; and what is kept of them.
use Rattle.std.specs.Prelude.{◌≡◌, ℕ, ◌<◌, ◌≤◌, Bool, true, false, not, ◌&&◌, ◌||◌, IsTrue, IsFalse, List, [], get_or, Option, is_some, vec_capacity}
use Rattle.lrc_code.specs.declared.codes.Code.{Code}
use Rattle.lrc_code.specs.declared.numbers.StripeNo.{StripeNo}
use Rattle.lrc_code.specs.declared.numbers.NodeNo.{NodeNo}
use Rattle.lrc_code.specs.declared.numbers.UpgradeNo.{UpgradeNo}
use Rattle.lrc_code.specs.Losses.{is_recoverable}
use Rattle.lrc_topology.specs.declared.NodeInfo.{NodeInfo}
use Rattle.lrc_terms.specs.Levels.{Homes, missing_in}
use Rattle.lrc_ranks.specs.Sets.{has}
use Rattle.lrc_rows.specs.declared.row.Row.{Row}
use Rattle.lrc_rows.specs.NodeStates.{NodeStates, is_in_domain, is_on_several_down}
use Rattle.lrc_rows.specs.Listed.{rows_in, row_code, row_homes}
use Rattle.lrc_rows.specs.Kept.{row_has_work}
use Rattle.lrc_stripes.specs.declared.verdicts.Verdicts.{Verdicts}

-- the stripe with this code and these homes, if there is one, is recoverable, and would not be with the nodes of the domain offline
unfoldable pub lost_by : List NodeInfo → (NodeNo → Bool) → UpgradeNo → Bool → Code → Homes → Bool
lost_by nodes up u there code homes =
    there && (is_recoverable code (missing_in code up homes) && not (is_recoverable code (missing_in code (λ n. up n && not (is_in_domain nodes u n)) homes)))

-- the same of a row
abbrev pub row_lost : NodeStates → UpgradeNo → Option Row → Bool
row_lost states u o = lost_by states.nodes states.up u (is_some o) (row_code o) (row_homes o)

-- the same of a stripe
abbrev pub lost_in : NodeStates → List (Option Row) → UpgradeNo → StripeNo → Bool
lost_in states rows u s = row_lost states u (rows_in rows s)

-- the stripe is short, by its row and the nodes, and lost to the domain
abbrev pub short_lost_in : NodeStates → List (Option Row) → UpgradeNo → StripeNo → Bool
short_lost_in states rows u s = (is_on_several_down states s || row_has_work (rows_in rows s)) && lost_in states rows u s

-- the stripe passes the test, and none of a lower number does
pub record IsFirstIn (test : StripeNo → Bool) (s : StripeNo) : Type 0 where
  pub has : IsTrue (test s)
  pub first : (t : StripeNo) → t.value < s.value → IsFalse (test t)

-- these are some of a set, and of the others none passes the test
pub record AreLeft (among test left : StripeNo → Bool) : Type 0 where
  pub within : (t : StripeNo) → left t ≡ true → among t ≡ true
  pub none : (t : StripeNo) → left t ≡ false → (among t && test t) ≡ false

-- Where these stripes are lost to each domain, a safe one that did not change is not. Where nothing changed, the set has those
-- with homes on several nodes that are not up, as told. There is room for a set of each domain.
pub record AreVerdicts (lost : UpgradeNo → StripeNo → Bool) (several : StripeNo → Bool) (v : Verdicts) : Type 0 where
  pub room : 256 ≤ vec_capacity v.safe
  pub safe : (u : UpgradeNo) (s : StripeNo) → has (get_or v.safe.items u.value []) s ≡ true → has v.changed s ≡ false → lost u s ≡ false
  pub unchanged : v.is_settled ≡ true → (s : StripeNo) → has v.changed s ≡ false
  pub counted : v.is_settled ≡ true → has v.several ≡ several
