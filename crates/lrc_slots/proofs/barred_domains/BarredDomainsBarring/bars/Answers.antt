use Rattle.std.proofs.Common.{◌≡◌, true, false, get_or, sym, ◌∙◌}
use Rattle.lrc_slots.specs.Tables.{barred}
use Rattle.lrc_slots.proofs.barred_domains.BarredDomainsBarring.bars.Goals as goal

pub returns-then-contains : goal.returns-then-contains
unfolding barred
returns-then-contains c =
    let hit : get_or c.self.inside.faults c.args.node.now.fault.value false ≡ true = sym c.contains.ensures ∙ c.if-contains.true in
    rw (← c.self.view_is, hit) c.if-contains.true

pub returns-else-contains : goal.returns-else-contains
unfolding barred
returns-else-contains c =
    let miss : get_or c.self.inside.faults c.args.node.now.fault.value false ≡ false = sym c.contains.ensures ∙ c.if-contains.false in
    rw (← c.self.view_is, miss) c.contains-else-contains.ensures
