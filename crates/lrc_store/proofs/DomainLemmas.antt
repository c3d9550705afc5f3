-- How the stored stripes follow an upgrade domain that is upgrading, or no longer.
use Rattle.std.proofs.Common.{◌≡◌, Bool, true, false, if◌then◌else◌, List, [], ◌∷◌, map, Option, Some, None, refl, sym, ap, ap₂, ◌∙◌}
use Rattle.std.specs.Option.{option_map_or}
use Rattle.lrc_code.specs.declared.numbers.UpgradeNo.{UpgradeNo}
use Rattle.lrc_code.specs.Numbers.{same_upgrade}
use Rattle.lrc_topology.specs.declared.NodeInfo.{NodeInfo}
use Rattle.lrc_nodes.specs.declared.node_state.NodeState.{NodeState}
use Rattle.lrc_stripes.specs.Stored.{Stored}
use Rattle.lrc_stripes.specs.Stored as stored
use Rattle.lrc_stripes.specs.Upgrades.{at_rest}
use Rattle.lrc_stripes.specs.Tables as tables
use Rattle.lrc_stripes.specs.Tables.{stored_in}
use Rattle.lrc_store.specs.declared.store.Store.{Store}
use Rattle.lrc_rules.specs.States.{State, is_upgrading}
use Rattle.lrc_rules.specs.Steps.{with_upgrading, without_upgrading}
use Rattle.lrc_store.specs.Stores.{IsOf, node_state, stored_of}
use Rattle.lrc_rules.proofs.SeatedLemmas.{upgrading-seated}
use Rattle.lrc_rules.proofs.LookUpLemmas.{test-sym}
use Rattle.lrc_store.proofs.NodeStateLemmas.{upgrading-set}

module _ (nodes : List NodeInfo) (st : State) (u : UpgradeNo) where
  domain-set : (v : Option UpgradeNo) (b : Bool) → ((x : NodeInfo) → (if same_upgrade x.upgrade u then b else is_upgrading st x) ≡ is_upgrading (record st { upgrading = v }) x)
      → stored.with_upgrading_in (stored_of nodes st) u b ≡ stored_of nodes (record st { upgrading = v })
  domain-set v b each = ap (λ (list : List NodeState). record (stored_of nodes st) { nodes = list }) (upgrading-set st v u b each nodes)

  -- the domain is upgrading, where none was
  pub domain-out : st.upgrading ≡ None → stored.with_upgrading_in (stored_of nodes st) u true ≡ stored_of nodes (with_upgrading st u)
  domain-out none = domain-set (Some u) true (λ x.
      ap (λ (o : Option UpgradeNo). if same_upgrade x.upgrade u then true else option_map_or (λ v. same_upgrade v x.upgrade) o false) none
      ∙ (itself (same_upgrade x.upgrade u) ∙ test-sym x.upgrade.value u.value)) where
        itself : (b : Bool) → (if b then true else false) ≡ b
        itself true = refl
        itself false = refl

  -- it is no longer
  pub domain-back : st.upgrading ≡ Some u → stored.with_upgrading_in (stored_of nodes st) u false ≡ stored_of nodes (without_upgrading st)
  domain-back this = domain-set None false (λ x.
      ap (λ (o : Option UpgradeNo). if same_upgrade x.upgrade u then false else option_map_or (λ v. same_upgrade v x.upgrade) o false) this
      ∙ (ap (λ (b : Bool). if same_upgrade x.upgrade u then false else b) (test-sym u.value x.upgrade.value) ∙ neither (same_upgrade x.upgrade u))) where
        neither : (b : Bool) → (if b then false else b) ≡ false
        neither true = refl
        neither false = refl

  -- where none is, the stripes are those with none upgrading
  pub domains-rest : st.upgrading ≡ None → at_rest (stored_of nodes st) ≡ stored_of nodes st
  domains-rest none = ap (λ (list : List NodeState). record (stored_of nodes st) { nodes = list }) (resting nodes) where
    off : (x : NodeInfo) → is_upgrading st x ≡ false
    off x = ap (λ (o : Option UpgradeNo). option_map_or (λ v. same_upgrade v x.upgrade) o false) none

    resting : (ns : List NodeInfo) → map {A = NodeState} {B = NodeState} (λ x. record x { is_upgrading = false }) (map (node_state st) ns) ≡ map (node_state st) ns
    resting [] = refl
    resting (x ∷ ns) = ap₂ (λ (y : NodeState) (ys : List NodeState). y ∷ ys) (ap (λ (b : Bool). let y : NodeState = record (node_state st x) { is_upgrading = b } in y) (sym (off x))) (resting ns)

-- with the stripes told, what is kept is that of the state in which a domain is upgrading, or none
pub domain-kept : (st : State) (upgrading : Option UpgradeNo) (k : Store) (stripes : tables.Table) → IsOf st k
    → stored_in stripes ≡ stored_of k.topology (record st { upgrading = upgrading })
    → IsOf (record st { upgrading = upgrading }) (record k { upgrading = upgrading; stripes = stripes })
domain-kept st upgrading k stripes kept set = record {
  known = kept.known;
  seated = upgrading-seated k.topology st upgrading kept.seated;
  apart = kept.apart;
  table_is = kept.table_is;
  stripes_is = set;
  leases_is = kept.leases_is;
  upgrading_is = refl;
  domains_are = kept.domains_are;
  clock_is = kept.clock_is;
}
