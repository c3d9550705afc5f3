use Rattle.std.proofs.Common.{ap₂}
use Rattle.lrc_slots.specs.Barred.{Barred, joined}
use Rattle.lrc_slots.specs.Tables.{barred}
use Rattle.lrc_store.proofs.store.Store.neighbours.Goals as goal

pub returns : goal.returns
returns c = λ st code kept members.
    ap₂ (λ (targets homes : Barred). joined (joined (barred c.args.more.now) targets) homes)
    (c.other_targets.ensures st code kept members) (c.other_homes.ensures st code kept members)
