-- Reading the text of the twenty nodes.
use Rattle.std.proofs.Common.{◌≡◌, ℕ, List, Result, Ok, Err, IfOk, IfErr, IsUtf8, unwrap_or, refl, sym, subst}
use Rattle.toml.specs.Data.{Members, no_members}
use Rattle.toml.specs.Parse.{parse_document}
use Rattle.toml.proofs.OnLiterals.{toml_on_literals}
use Rattle.lrc_topology.specs.Documents.{IsTopologyOf, IsRefusedBy}
use Rattle.lrc_topology.specs.declared.NodeInfo.{NodeInfo}
use Rattle.lrc_topology.specs.declared.error.TopologyError.{TopologyError}
use Rattle.lrc_topology.specs.declared.error.TopologyError.TheVariants.{OutOfMemory}
use Rattle.lrc_topology.proofs.AnswerLemmas.{one_topology, topology_or_refusal}
use Rattle.lrc_samples.specs.Stores.{twenty}
use Rattle.lrc_samples.specs.declared.TheConstants.{TWENTY_NODES}

document : Members
document = unwrap_or (parse_document TWENTY_NODES.now) no_members

is_twenty : IsUtf8 TWENTY_NODES.now → IsTopologyOf TWENTY_NODES.now twenty
unfolding twenty document toml_on_literals
is_twenty utf8 = record { document = document; read = record { utf8 = utf8; parsed = refl }; accepted = refl; listed = refl }

-- given bytes that are those of the text
module _ (bytes : List ℕ) (same : bytes ≡ TWENTY_NODES.now) (utf8 : IsUtf8 bytes) where
  reads_twenty : IsTopologyOf bytes twenty
  reads_twenty = subst (λ b. IsTopologyOf b twenty) (sym same) (is_twenty (subst IsUtf8 same utf8))

  pub reads_no_other : (r : Result (List NodeInfo) TopologyError) → IfOk r (IsTopologyOf bytes) → IfOk r (λ nodes. nodes ≡ twenty)
  reads_no_other (Ok nodes) is = one_topology bytes nodes twenty is reads_twenty
  reads_no_other (Err e) is = is

  pub refuses_for_memory : (r : Result (List NodeInfo) TopologyError) → IfErr r (IsRefusedBy bytes) → IfErr r (λ e. e ≡ OutOfMemory)
  refuses_for_memory (Ok nodes) is = is
  refuses_for_memory (Err e) is = topology_or_refusal bytes twenty e reads_twenty is
