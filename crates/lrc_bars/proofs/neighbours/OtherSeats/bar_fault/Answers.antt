use Rattle.std.proofs.Common.{get_or, refl, sym, subst, ◌∙◌}
use Rattle.lrc_slots.specs.Barred.{Barred}
use Rattle.lrc_slots.specs.BarredNodes.{AreBarredNodes}
use Rattle.lrc_slots.specs.Tables.{slots_of}
use Rattle.lrc_bars.proofs.NeighbourLemmas.{seat-fault, no-seat-fault}
use Rattle.lrc_bars.proofs.neighbours.OtherSeats.bar_fault.Goals as goal

pub returns-then-contains : goal.returns-then-contains
returns-then-contains c = λ b are.
    let n = c.args.self.now in
    subst (λ (x : Barred). AreBarredNodes (slots_of c.args.table.now).nodes x c.bar_fault_in.new.barred_nodes)
    (seat-fault b n.domains.now.faults n.others.bits c.args.fragment (record { value = get_or n.domains.now.faults c.args.fragment.value 0 }) refl (sym c.contains.ensures ∙ c.if-contains.true))
    (c.bar_fault_in.ensures b are)

pub returns-else-contains : goal.returns-else-contains
returns-else-contains c = λ b are.
    let n = c.args.self.now in
    subst (λ (x : Barred). AreBarredNodes (slots_of c.args.table.now).nodes x c.args.barred_nodes.now)
    (no-seat-fault b n.domains.now.faults n.others.bits c.args.fragment (sym c.contains.ensures ∙ c.if-contains.false)) are
