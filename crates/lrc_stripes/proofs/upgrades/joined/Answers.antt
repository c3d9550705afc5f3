use Rattle.lrc_rows.proofs.UpgradingLemmas.{either-bits}
use Rattle.lrc_stripes.proofs.upgrades.joined.Goals as goal

pub returns : goal.returns
returns c = λ f. either-bits c.args.missing.bits c.args.homes.bits c.from_bits.result.bits f c.from_bits.ensures
