use Rattle.std.proofs.Common.{ap, ◌∙◌}
use Rattle.lrc_code.specs.Losses.{bits_set}
use Rattle.lrc_homes.proofs.HomesLemmas.{home-there}
use Rattle.lrc_homes.proofs.homes.Homes.homed.Goals as goal

pub returns-clause-homed : goal.returns-clause-homed
returns-clause-homed c = λ f.
    let h = c.self.inside in
    rw (← c.self.view_is) (ap (λ n. bits_set n f) c.from_bits.ensures ∙ home-there h.nodes h.slots h.homed.bits f c.self.invariant.few)
