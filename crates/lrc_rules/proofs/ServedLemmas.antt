-- A legal history keeps every promise of `Served`.
use Rattle.std.proofs.Common.{◌+◌, ◌<◌, ◌≤◌, List}
use Rattle.lrc_topology.specs.declared.NodeInfo.{NodeInfo}
use Rattle.lrc_topology.specs.Nodes.{AreNodes}
use Rattle.lrc_terms.specs.declared.lease.Lease.{Lease}
use Rattle.lrc_terms.proofs.LevelLemmas.{law_lost}
use Rattle.lrc_rules.specs.declared.entry.Entry.{Entry}
use Rattle.lrc_rules.specs.States.{State, code_of, homeless, missing}
use Rattle.lrc_rules.specs.Leases.{term}
use Rattle.lrc_rules.specs.Histories.{IsLegal, state_after}
use Rattle.lrc_rules.specs.Goodness.{IsGood}
use Rattle.lrc_rules.specs.Served.{IsSound, IsServed}
use Rattle.lrc_rules.proofs.SeatingLists.{All-both}
use Rattle.lrc_rules.proofs.GoodLemmas.{state_after-good}

pub good-sound : (nodes : List NodeInfo) (history : List Entry) (st : State) → IsGood nodes history st → IsSound nodes history st
good-sound nodes history st good = record {
  lawful = good.seated.lawful;
  standing = good.seated.standing;
  single = good.seated.one_lease;
  apart = good.seated.single;
  current = good.current;
  running = All-both (λ (l : Lease). st.clock < l.expiry) (λ (l : Lease). l.expiry ≤ st.clock + term) st.leases good.running good.termed;
  lost = λ s. law_lost (code_of st s) (homeless st s) (missing nodes st s);
}

pub legal-served : (nodes : List NodeInfo) (history : List Entry) → AreNodes nodes → IsLegal nodes history → IsServed nodes history
legal-served nodes history known legal =
    record { legal = legal; sound = good-sound nodes history (state_after nodes history) (state_after-good nodes known history legal) }
