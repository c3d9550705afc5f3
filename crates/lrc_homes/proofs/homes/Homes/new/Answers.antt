use Rattle.lrc_homes.proofs.HomesLemmas.{homes-none}
use Rattle.lrc_homes.proofs.homes.Homes.new.Goals as goal

pub returns : goal.returns
returns c = homes-none _ _ c.from_bits.result.bits c.from_bits.ensures
