-- What holds after every history beside what `Goodness` says. No rule of the store needs it; a state that a book begins
-- in must have it.
use Rattle.std.specs.Prelude.{◌≤◌, List, All, IfSome, IsSome, IsTrue, IsFalse}
use Rattle.lrc_code.specs.declared.numbers.NodeNo.{NodeNo}
use Rattle.lrc_topology.specs.declared.NodeInfo.{NodeInfo}
use Rattle.lrc_topology.specs.Nodes.{node_at, has_domain}
use Rattle.lrc_rules.specs.States.{State, has_number}

-- the store has each of the nodes
abbrev pub AreOfStore : List NodeInfo → List NodeNo → Type 0
AreOfStore nodes numbers = All (λ n. IsSome (node_at nodes n)) numbers

-- The domain that is upgrading has a node. The nodes that are gone, draining or down are nodes of the store, and none
-- is both gone and draining. The epoch of each live lease is that of a grant.
pub record IsTidy (nodes : List NodeInfo) (st : State) : Type 0 where
  pub domain : IfSome st.upgrading (λ u. IsTrue (has_domain nodes u))
  pub gone : AreOfStore nodes st.gone
  pub draining : AreOfStore nodes st.draining
  pub down : AreOfStore nodes st.down
  pub apart : (n : NodeNo) → IsTrue (has_number st.gone n) → IsFalse (has_number st.draining n)
  pub granted : All (λ l. 1 ≤ l.epoch) st.leases
