use Rattle.std.proofs.Common.{Some, ◌≡◌, false, IsTrue, List, Option, None, get_or, is_some, ap, subst, sym, ◌∙◌}
use Rattle.std.specs.List.{All}
use Rattle.lrc_topology.specs.Nodes.{node_at}
use Rattle.lrc_topology.specs.declared.seat.Seat.{Seat}
use Rattle.lrc_homes.specs.declared.losses.Losses.{Losses}
use Rattle.lrc_code.specs.declared.codes.Code.{Code}
use Rattle.lrc_rows.specs.Kept.{IsKept}
use Rattle.lrc_homes.specs.Homes.{seated_homes}
use Rattle.lrc_homes.specs.Masks.{AreLosses}
use Rattle.lrc_homes.specs.declared.home_domains.HomeDomains.{HomeDomains}
use Rattle.lrc_homes.specs.Domains.{AreDomainsOf}
use Rattle.lrc_stripes.specs.Stored.{has_slot}
use Rattle.lrc_rows.specs.NodeStates.{NodeStates, states_in}
use Rattle.lrc_stripes.specs.Tables.{stored_in}
use Rattle.lrc_rows.specs.Listed.{rows_in}
use Rattle.lrc_stripes.proofs.KeptLemmas.{kept-enter, upgrading-stays}
use Rattle.lrc_stripes.proofs.StoredLemmas.{stored_by, stored-seated, slot-known}
use Rattle.lrc_rows.specs.NodeStates.{is_on_several_down}
use Rattle.lrc_stripes.specs.UpgradeLosses.{lost_in}
use Rattle.lrc_stripes.proofs.UpgradeLemmas.{others-same, put-others}
use Rattle.lrc_stripes.proofs.stripes.Stripes.add_with_homes.Goals as goal

pub enter-losses-requires : goal.enter-losses-requires
unfolding stored_in states_in
enter-losses-requires c =
    let slots : All (λ (seat : Seat). IsTrue (has_slot (states_in c.self.inside.node_table).nodes seat)) c.args.seats.now = rw (← c.self.view_is) at c.requires.slots in
    record { length = c.requires.length; nodes = λ k d below. slot-known (node_at (states_in c.self.inside.node_table).nodes (get_or c.args.seats.now k d).node) (get_or c.args.seats.now k d).slot (slots k d below) }

pub invariant_of-self : goal.invariant_of-self
unfolding stored_in
invariant_of-self c =
    let z = states_in c.self.inside.node_table in
    let homes = seated_homes c.args.seats.now in
    let e = c.enter-losses.ensures.losses in
    let absent : is_some (rows_in c.self.inside.rows.list c.args.stripe) ≡ false = rw (← c.self.view_is) at c.requires.absent in
    let coded : c.seated-row.result.losses.code ≡ c.args.code = ap (λ (l : Losses). l.code) c.seated-row.ensures.losses ∙ c.enter-losses.ensures.code in
    let are : AreLosses c.seated-row.result.losses.code z.up z.draining homes c.seated-row.result.losses =
    subst (λ (code : Code). AreLosses code z.up z.draining homes c.seated-row.result.losses) (sym coded)
    (subst (λ (l : Losses). AreLosses c.args.code z.up z.draining homes l) (sym c.seated-row.ensures.losses) (record { within = e.within; homeless = e.homeless; missing = e.missing; needs = e.needs })) in
    let at : AreDomainsOf z.nodes (λ f. get_or homes f None) c.seated-row.result.domains =
    subst (λ (d : HomeDomains). AreDomainsOf z.nodes (λ f. get_or homes f None) d) (sym c.seated-row.ensures.domains) c.enter-losses.ensures.domains in
    record {
      kept = subst (λ (y : NodeStates). IsKept y (rows_in c.add.new.self.list)) (sym c.enter-losses.ensures.on)
          (kept-enter z (rows_in c.self.inside.rows.list) c.self.invariant.kept c.args.stripe homes c.seated-row.result (rows_in c.add.new.self.list) absent c.seated-row.ensures.homes are at c.add.ensures.rows);
      upgrading = upgrading-stays c.self.inside.node_table c.enter-losses.new.self c.enter-losses.ensures.on c.self.inside.rows.upgrading c.add.new.self.upgrading c.add.ensures.upgrading c.self.invariant.upgrading;
      verdicts =
          c.mark.ensures (lost_in z c.self.inside.rows.list) (lost_in (states_in c.enter-losses.new.self) c.add.new.self.list) (is_on_several_down z) (is_on_several_down (states_in c.enter-losses.new.self)) c.self.invariant.verdicts
          (others-same z (states_in c.enter-losses.new.self) c.args.stripe c.self.inside.rows.list c.add.new.self.list (ap (λ (y : NodeStates). y.nodes) c.enter-losses.ensures.on) (ap (λ (y : NodeStates). y.up) c.enter-losses.ensures.on)
          (put-others c.args.stripe (Some c.seated-row.result) (rows_in c.self.inside.rows.list) (rows_in c.add.new.self.list) c.add.ensures.rows));
    }

pub returns : goal.returns
unfolding stored_in states_in
returns c =
    rw (← c.self.view_is) (ap (λ (z : NodeStates). stored_by z (rows_in c.add.new.self.list)) c.enter-losses.ensures.on
    ∙ stored-seated (states_in c.self.inside.node_table) (rows_in c.self.inside.rows.list) (rows_in c.add.new.self.list) c.args.stripe c.args.code c.seated-row.result c.args.seats.now
    (ap (λ (l : Losses). l.code) c.seated-row.ensures.losses ∙ c.enter-losses.ensures.code) c.seated-row.ensures.homes c.add.ensures.rows)
