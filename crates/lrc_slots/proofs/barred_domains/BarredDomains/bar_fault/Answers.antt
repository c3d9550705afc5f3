use Rattle.std.proofs.Common.{arith}
use Rattle.lrc_slots.proofs.BarLemmas.{barred-fault}
use Rattle.lrc_slots.proofs.barred_domains.BarredDomains.bar_fault.Goals as goal

pub returns : goal.returns
returns c = rw (c.insert.ensures, ← c.self.view_is)
    (barred-fault (record { faults = c.self.inside.faults; upgrades = c.self.inside.upgrades }) c.args.domain (omega arith))
