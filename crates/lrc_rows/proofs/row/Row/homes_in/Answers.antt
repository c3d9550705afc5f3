use Rattle.std.proofs.Common.{Bool, ◌&&◌, ap₂, ◌∙◌}
use Rattle.lrc_homes.proofs.HomesLemmas.{both-bits}
use Rattle.lrc_rows.proofs.row.Row.homes_in.Goals as goal

pub returns-clause-homes : goal.returns-clause-homes
returns-clause-homes c = λ f.
    both-bits c.in_upgrade.result.bits c.homed.result.bits c.from_bits.result.bits f c.from_bits.ensures
    ∙ ap₂ (λ (a b : Bool). a && b) (c.in_upgrade.ensures.on f) (c.homed.ensures.homed f)
