use Rattle.std.proofs.Common.{arith}
use Rattle.lrc_slots.proofs.BarLemmas.{barred-upgrade}
use Rattle.lrc_slots.proofs.barred_domains.BarredDomains.bar_upgrade.Goals as goal

pub returns : goal.returns
returns c = rw (c.insert.ensures, ← c.self.view_is)
    (barred-upgrade (record { faults = c.self.inside.faults; upgrades = c.self.inside.upgrades }) c.args.domain (omega arith))
