use Rattle.lrc_homes.proofs.HomesLemmas.{homes-flagged}
use Rattle.lrc_homes.proofs.homes.Homes.fragments_where.Goals as goal

pub returns-clause-on : goal.returns-clause-on
returns-clause-on c = λ f.
    let h = c.self.inside in
    rw (← c.self.view_is) (
    homes-flagged h.nodes h.slots c.args.flags.now h.homed.bits c.fragments_flagged-flagged.result.bits c.from_bits.result.bits c.self.invariant.few c.fragments_flagged-flagged.ensures c.from_bits.ensures f)
