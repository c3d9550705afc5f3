use Rattle.std.proofs.Common.{Bool, ◌&&◌, ap₂, ◌∙◌}
use Rattle.lrc_homes.proofs.HomesLemmas.{both-bits}
use Rattle.lrc_rows.proofs.row.Row.in_upgrade.Goals as goal

pub returns-clause-homes : goal.returns-clause-homes
returns-clause-homes c = λ f.
    both-bits c.fragments_in.result.bits c.homed.result.bits c.from_bits.result.bits f c.from_bits.ensures
    ∙ ap₂ (λ (a b : Bool). a && b) (c.fragments_in.ensures.on f) (c.homed.ensures.homed f)
