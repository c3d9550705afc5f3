use Rattle.std.proofs.Common.{get_or, refl, sym, subst, ◌∙◌}
use Rattle.lrc_slots.specs.Barred.{Barred}
use Rattle.lrc_slots.specs.BarredNodes.{AreBarredNodes}
use Rattle.lrc_slots.specs.Tables.{slots_of}
use Rattle.lrc_bars.proofs.NeighbourLemmas.{seat-upgrade, no-seat-upgrade}
use Rattle.lrc_bars.proofs.neighbours.OtherSeats.bar_upgrade.Goals as goal

pub returns-then-contains : goal.returns-then-contains
returns-then-contains c = λ b are.
    let n = c.args.self.now in
    subst (λ (x : Barred). AreBarredNodes (slots_of c.args.table.now).nodes x c.bar_upgrade_in.new.barred_nodes)
    (seat-upgrade b n.domains.now.upgrades n.members.bits c.args.fragment (record { value = get_or n.domains.now.upgrades c.args.fragment.value 0 }) refl (sym c.contains.ensures ∙ c.if-contains.true))
    (c.bar_upgrade_in.ensures b are)

pub returns-else-contains : goal.returns-else-contains
returns-else-contains c = λ b are.
    let n = c.args.self.now in
    subst (λ (x : Barred). AreBarredNodes (slots_of c.args.table.now).nodes x c.args.barred_nodes.now)
    (no-seat-upgrade b n.domains.now.upgrades n.members.bits c.args.fragment (sym c.contains.ensures ∙ c.if-contains.false)) are
