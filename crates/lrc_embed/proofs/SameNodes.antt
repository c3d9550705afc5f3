-- The test whether two lists of nodes are one decides it.
use Rattle.std.proofs.Common.{◌≡◌, ap}
use Rattle.std.specs.Bool.{Decides}
use Rattle.std.proofs.lemmas.Bool.Decides.{Decides-and, Decides-like, Decides-eqb}
use Rattle.lrc_code.specs.declared.numbers.NodeNo.{NodeNo}
use Rattle.lrc_code.specs.declared.numbers.FaultNo.{FaultNo}
use Rattle.lrc_code.specs.declared.numbers.UpgradeNo.{UpgradeNo}
use Rattle.lrc_code.specs.contracts.numbers.NodeNoPartialEq.TheImpl as number
use Rattle.lrc_code.specs.contracts.numbers.FaultNoPartialEq.TheImpl as fault
use Rattle.lrc_code.specs.contracts.numbers.UpgradeNoPartialEq.TheImpl as upgrade
use Rattle.lrc_topology.specs.declared.NodeInfo.{NodeInfo}
use Rattle.lrc_topology.specs.contracts.NodeInfoPartialEq.TheImpl as node

number-Decides : (a b : NodeNo) → Decides (number.eq-value.it a b) (a ≡ b)
number-Decides a b = Decides-like _ (λ h i. record { value = h i }) (λ e. ap (λ (n : NodeNo). n.value) e) (Decides-eqb a.value b.value)

fault-Decides : (a b : FaultNo) → Decides (fault.eq-value.it a b) (a ≡ b)
fault-Decides a b = Decides-like _ (λ h i. record { value = h i }) (λ e. ap (λ (n : FaultNo). n.value) e) (Decides-eqb a.value b.value)

upgrade-Decides : (a b : UpgradeNo) → Decides (upgrade.eq-value.it a b) (a ≡ b)
upgrade-Decides a b = Decides-like _ (λ h i. record { value = h i }) (λ e. ap (λ (n : UpgradeNo). n.value) e) (Decides-eqb a.value b.value)

pub node-Decides : (a b : NodeInfo) → Decides (node.eq-value.it a b) (a ≡ b)
node-Decides a b = Decides-like _
    (λ h i. record { number = h.0 i; fault = h.1.0 i; upgrade = h.1.1.0 i; slots = h.1.1.1 i })
    (λ e. (ap (λ (n : NodeInfo). n.number) e, (ap (λ (n : NodeInfo). n.fault) e, (ap (λ (n : NodeInfo). n.upgrade) e, ap (λ (n : NodeInfo). n.slots) e))))
    (Decides-and _ _ (number-Decides a.number b.number)
    (Decides-and _ _ (fault-Decides a.fault b.fault)
    (Decides-and _ _ (upgrade-Decides a.upgrade b.upgrade) (Decides-eqb a.slots b.slots))))
