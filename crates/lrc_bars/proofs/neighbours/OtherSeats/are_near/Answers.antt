use Rattle.std.proofs.Common.{Bool, sym, ap, ◌∙◌, ◌||◌}
use Rattle.std.specs.List.{list_any}
use Rattle.lrc_code.specs.Codes.{all_fragments}
use Rattle.lrc_bars.specs.Neighbouring.{stands_in}
use Rattle.lrc_bars.proofs.neighbours.OtherSeats.are_near.Goals as goal

pub returns-else-meet : goal.returns-else-meet
returns-else-meet c =
    let domains = c.args.self.now.domains.now in
    let node = c.args.node.now in
    c.meet-else-meet.ensures domains.upgrades node.upgrade.value c.in_upgrade.ensures.on
    ∙ ap (λ (b : Bool). b || list_any (stands_in domains.upgrades c.args.self.now.members.bits node.upgrade.value) all_fragments)
    (sym c.if-meet.false ∙ c.meet.ensures domains.faults node.fault.value c.in_fault.ensures.on)
