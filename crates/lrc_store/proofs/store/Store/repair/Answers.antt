use Rattle.std.proofs.Common.{Option, sym, ap, ap₂, ◌∙◌}
use Rattle.lrc_rules.specs.declared.kind.Kind.{Kind}
use Rattle.lrc_rules.specs.Placement.{chosen}
use Rattle.lrc_store.specs.Repairing.{repair_by}
use Rattle.lrc_store.proofs.store.Store.repair.Goals as goal

pub returns-in-None : goal.returns-in-None
returns-in-None c = λ st kept own.
    ap (λ (o : Option Kind). repair_by c.args.stripe c.args.fragment o (chosen c.args.self.now.topology st c.args.stripe c.args.fragment))
    (sym c.in-None.is ∙ c.repair_kind.ensures st kept own)

pub returns-in-None-repair_seat : goal.returns-in-None-repair_seat
returns-in-None-repair_seat c = λ st kept own.
    ap₂ (repair_by c.args.stripe c.args.fragment) (sym c.in-Some.is ∙ c.repair_kind.ensures st kept own) (sym c.in-None-repair_seat.is ∙ c.repair_seat.ensures st kept)

pub returns-in-Some-repair_seat : goal.returns-in-Some-repair_seat
returns-in-Some-repair_seat c = λ st kept own.
    ap₂ (repair_by c.args.stripe c.args.fragment) (sym c.in-Some.is ∙ c.repair_kind.ensures st kept own) (sym c.in-Some-repair_seat.is ∙ c.repair_seat.ensures st kept)
