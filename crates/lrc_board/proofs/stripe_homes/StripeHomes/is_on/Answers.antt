use Rattle.lrc_board.proofs.HomesLemmas.{any-seated}
use Rattle.lrc_board.proofs.stripe_homes.StripeHomes.is_on.Goals as goal

pub returns : goal.returns
returns c = any-seated c.args.self.now c.args.node c.fragments_on.result.bits c.fragments_on.ensures.on c.fragments_on.ensures.few
