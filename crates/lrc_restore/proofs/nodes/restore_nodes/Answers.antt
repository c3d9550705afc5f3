use Rattle.std.proofs.Common.{◌≡◌, false, take, get_or, List, None, sym, ap, subst, ◌∙◌}
use Rattle.std.proofs.lemmas.List.{take_more}
use Rattle.lrc_topology.specs.declared.NodeInfo.{NodeInfo}
use Rattle.lrc_terms.specs.declared.mode.Mode.TheVariants.{Active}
use Rattle.lrc_images.specs.declared.image.NodeRow.{NodeRow}
use Rattle.lrc_images.specs.Rising.{node_first}
use Rattle.lrc_images.specs.Causes.{at_place, node_cause}
use Rattle.lrc_images.proofs.AnswerLemmas.{none-map}
use Rattle.lrc_store.specs.Stores.{IsOf}
use Rattle.lrc_restore.specs.Stages.{with_nodes}
use Rattle.lrc_restore.proofs.WalkLemmas.{from-next, rising-next}
use Rattle.lrc_restore.proofs.NodeLemmas.{in-order, row-kept}
use Rattle.lrc_restore.proofs.nodes.restore_nodes.Goals as goal

pub loop-i-preserved : goal.loop-i-preserved
loop-i-preserved c =
    let rows = c.as_slice-rows.result.now in
    let i = c.loop-i.i in
    let k = c.loop-i.store in
    let now = c.set_state.new.self in
    let nodes = c.args.store.now.topology in
    let so_far = c.loop-i.invariant in
    let d : NodeRow = record { node = record { value = 0 }; mode = Active; is_down = false } in
    let row = get_or rows i d in
    let before = take i rows in
    let none : node_cause k.topology before row ≡ None = sym c.node_cause.ensures ∙ c.in_default.is in
    let none' : node_cause nodes before row ≡ None = subst (λ (ns : List NodeInfo). node_cause ns before row ≡ None) so_far.nodes none in
    record {
      nodes = ap (λ s. s.topology) c.set_state.ensures.rest ∙ so_far.nodes;
      kept = subst (λ (rs : List NodeRow). IsOf (with_nodes c.args.image.now rs) now) (sym (take_more rows i d c.loop-i-test.true))
          (row-kept c.args.image.now before row k now so_far.kept none c.set_state.ensures.rest c.set_state.ensures.table c.set_state.ensures.stripes);
      rising = rising-next node_first rows i d c.loop-i-test.true so_far.rising (in-order k.topology before row none);
      from = from-next (at_place 1 (node_cause nodes)) rows i d c.loop-i-test.true (none-map _ (node_cause nodes before row) none') so_far.from;
    }
