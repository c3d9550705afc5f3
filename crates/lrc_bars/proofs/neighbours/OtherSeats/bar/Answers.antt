use Rattle.std.proofs.Common.{◌≡◌, List, length, take, get_or, ap, refl, subst, arith, ◌∙◌}
use Rattle.std.proofs.lemmas.List.{take_all}
use Rattle.lrc_code.specs.declared.numbers.Fragment.{Fragment}
use Rattle.lrc_code.specs.Codes.{all_fragments}
use Rattle.lrc_slots.specs.Barred.{Barred, joined}
use Rattle.lrc_slots.specs.BarredNodes.{AreBarredNodes}
use Rattle.lrc_slots.specs.Tables.{slots_of}
use Rattle.lrc_bars.specs.Neighbouring.{domains_bar, with_seat_fault}
use Rattle.lrc_bars.proofs.NeighbourLemmas.{seats-none, seats-more}
use Rattle.lrc_bars.proofs.neighbours.OtherSeats.bar.Goals as goal

pub loop-fragment-init : goal.loop-fragment-init
loop-fragment-init c =
    let n = c.args.self.now in record {
      barred_are = λ b are. subst (λ (x : Barred). AreBarredNodes (slots_of c.args.table.now).nodes x c.args.barred_nodes.now)
          (seats-none b n.domains.now.faults n.domains.now.upgrades n.others.bits n.members.bits) are;
      all = c.all.ensures;
    }

pub loop-fragment-preserved : goal.loop-fragment-preserved
loop-fragment-preserved c =
    let n = c.args.self.now in
    let i = c.loop-fragment.fragment-index in
    let long : length c.all.result ≡ 16 = rw c.loop-fragment.invariant.all refl in record {
      barred_are = λ b are.
          let so_far = joined b (domains_bar n.domains.now.faults n.domains.now.upgrades n.others.bits n.members.bits (take i c.all.result)) in
          let with_fault = with_seat_fault so_far n.domains.now.faults n.others.bits (get_or c.all.result i c.fragment-item.result) in
          subst (λ (x : Barred). AreBarredNodes (slots_of c.args.table.now).nodes x c.bar_upgrade.new.barred_nodes)
          (seats-more b n.domains.now.faults n.domains.now.upgrades n.others.bits n.members.bits c.all.result i c.fragment-item.result (omega (arith, long)))
          (c.bar_upgrade.ensures with_fault (c.bar_fault.ensures so_far (c.loop-fragment.invariant.barred_are b are)));
      all = c.loop-fragment.invariant.all;
    }

pub returns : goal.returns
returns c = λ b are.
    let n = c.args.self.now in
    let i = c.loop-fragment.fragment-index in
    let whole : take i c.all.result ≡ all_fragments = ap (take i) c.loop-fragment.invariant.all ∙ take_all i all_fragments (omega arith) in
    subst (λ (fs : List Fragment). AreBarredNodes (slots_of c.args.table.now).nodes
    (joined b (domains_bar n.domains.now.faults n.domains.now.upgrades n.others.bits n.members.bits fs)) c.loop-fragment.barred_nodes)
    whole (c.loop-fragment.invariant.barred_are b are)
