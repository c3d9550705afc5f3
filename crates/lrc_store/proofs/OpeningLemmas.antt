-- What is kept at first is that of the opening state.
use Rattle.std.proofs.Common.{◌≡◌, Bool, true, length, Option, Some, None, refl, ap, ◌∙◌}
use Rattle.std.proofs.Math.Path.{fun_ext}
use Rattle.std.specs.Option.{option_map_or}
use Rattle.lrc_code.specs.declared.numbers.NodeNo.{NodeNo}
use Rattle.lrc_topology.specs.declared.NodeInfo.{NodeInfo}
use Rattle.lrc_topology.specs.Nodes.{AreNodes, node_at}
use Rattle.lrc_slots.specs.Slots.{all_free}
use Rattle.lrc_slots.specs.Tables.{slots_of}
use Rattle.lrc_stripes.specs.Stored as stored
use Rattle.lrc_stripes.specs.Tables.{stored_in}
use Rattle.lrc_terms.specs.Leased as leased
use Rattle.lrc_leases.specs.Tables.{leased_in}
use Rattle.lrc_store.specs.declared.store.Store.{Store}
use Rattle.lrc_rules.specs.States.{opening, takes_seats}
use Rattle.lrc_store.specs.Stores.{IsOf}
use Rattle.lrc_rules.proofs.StepSeatedLemmas.{opening-seated}
use Rattle.lrc_store.proofs.TargetLemmas.{targets-none}

takes-first : (o : Option NodeInfo) → true ≡ option_map_or (takes_seats opening) o true
takes-first None = refl
takes-first (Some n) = refl

pub opening-kept : (k : Store) → AreNodes k.topology → slots_of k.table ≡ all_free k.topology → stored_in k.stripes ≡ stored.empty k.topology
    → leased_in k.leases ≡ leased.empty → length k.target_domains.items ≡ 4096 → k.upgrading ≡ None → k.clock.value ≡ 0 → IsOf opening k
opening-kept k known table stripes leases long upgrading clock = record {
  known = known;
  seated = opening-seated k.topology;
  apart = λ n gone. refl;
  table_is = table ∙ ap (λ (eligible : NodeNo → Bool). record (all_free k.topology) { eligible = eligible })
      (fun_ext (λ n. takes-first (node_at k.topology n)));
  stripes_is = stripes;
  leases_is = leases;
  upgrading_is = upgrading;
  domains_are = targets-none k.topology (leased_in k.leases) k.target_domains.items leases long;
  clock_is = clock;
}
