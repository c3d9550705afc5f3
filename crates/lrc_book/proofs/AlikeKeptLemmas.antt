-- The store of a state is that of any alike state.
use Rattle.std.proofs.Common.{◌≡◌, true, false, ◌&&◌, List, map, refl, sym, ◌∙◌}
use Rattle.std.proofs.Math.Path.{fun_ext}
use Rattle.std.specs.Option.{option_map_or}
use Rattle.lrc_code.specs.declared.numbers.UpgradeNo.{UpgradeNo}
use Rattle.lrc_code.specs.Numbers.{same_upgrade}
use Rattle.lrc_topology.specs.declared.NodeInfo.{NodeInfo}
use Rattle.lrc_topology.specs.Nodes.{node_at}
use Rattle.lrc_rules.specs.States.{State, takes_seats}
use Rattle.lrc_terms.specs.Modes.{is_active}
use Rattle.lrc_rules.specs.Steps.{without_upgrading}
use Rattle.lrc_rules.specs.Alike.{AreAlike}
use Rattle.lrc_rules.specs.Goodness.{AreSeated}
use Rattle.lrc_rules.proofs.AlikeReadLemmas.{alike-there, alike-code, alike-gone, alike-draining, alike-mode, alike-down, alike-online, alike-homes, alike-leases}
use Rattle.lrc_rules.proofs.AlikeChoiceLemmas.{same-taken}
use Rattle.lrc_store.specs.declared.store.Store.{Store}
use Rattle.lrc_bars.specs.Ties.{kept_table}
use Rattle.lrc_store.specs.Stores.{IsOf, node_state, stored_of}

-- a node takes seats in both
alike-takes : (w v : State) → AreAlike w v → takes_seats w ≡ takes_seats v
alike-takes w v alike =
    let mode = fun_ext (alike-mode w v alike) in
    let online = alike-online w v alike in λ i n. is_active (mode i n.number) && online i n

module _ (nodes : List NodeInfo) (w v : State) (alike : AreAlike w v) (seated : AreSeated nodes w) (seated' : AreSeated nodes v) where
  alike-without : AreAlike (without_upgrading w) (without_upgrading v)
  alike-without = record {
    stripes = alike.stripes;
    narrow = alike.narrow;
    homes = alike.homes;
    leases = alike.leases;
    gone = alike.gone;
    draining = alike.draining;
    down = alike.down;
    upgrading = refl;
    clock = alike.clock;
  }

  alike-table : kept_table nodes w ≡ kept_table nodes v
  alike-table =
      let takes = alike-takes (without_upgrading w) (without_upgrading v) alike-without in
      let taken = same-taken nodes w v alike seated seated' in
      λ i. record { nodes = nodes; eligible = λ n. option_map_or (takes i) (node_at nodes n) true; taken = taken i }

  -- a node is stored in the same state
  alike-state : (n : NodeInfo) → node_state w n ≡ node_state v n
  alike-state n =
      let mode = alike-mode w v alike n.number in
      let down = alike-down w v alike n.number in
      λ i. record { node = n; mode = mode i; is_down = down i; is_upgrading = option_map_or (λ (u : UpgradeNo). same_upgrade u n.upgrade) (alike.upgrading i) false }

  alike-stored : stored_of nodes w ≡ stored_of nodes v
  alike-stored =
      let stripes = alike-there w v alike in
      let code = alike-code w v alike in
      let homes = alike-homes nodes w v alike seated seated' in
      λ i. record { nodes = map (λ n. alike-state n i) nodes; stripes = stripes i; code = code i; homes = homes i }

pub alike-kept : (w v : State) (k : Store) → AreAlike w v → AreSeated k.topology v → IsOf w k → IsOf v k
alike-kept w v k alike seated kept =
    let nodes = k.topology in
    let leases = alike-leases nodes w v alike kept.seated seated in record {
      known = kept.known;
      seated = seated;
      apart = λ n gone. sym (alike-draining w v alike n) ∙ kept.apart n (alike-gone w v alike n ∙ gone);
      table_is = kept.table_is ∙ alike-table nodes w v alike kept.seated seated;
      stripes_is = kept.stripes_is ∙ alike-stored nodes w v alike kept.seated seated;
      leases_is = kept.leases_is ∙ (λ i. record { leases = leases i; spare = 0 });
      upgrading_is = kept.upgrading_is ∙ alike.upgrading;
      domains_are = kept.domains_are;
      clock_is = kept.clock_is ∙ alike.clock;
    }
