use Rattle.std.proofs.Common.{◌∙◌}
use Rattle.lrc_board.proofs.HomesLemmas.{level-masks}
use Rattle.lrc_board.proofs.stripe_homes.StripeHomes.level.Goals as goal

pub returns : goal.returns
returns c =
    c.level_by.ensures
    ∙ level-masks c.args.online.now c.args.self.now c.homed.result.bits c.standing.result.bits c.all_but-homeless.result.bits c.all_but-missing.result.bits
    c.homed.ensures.homed c.standing.ensures c.all_but-homeless.ensures c.all_but-missing.ensures
