use Rattle.std.proofs.Common.{Bool, ◌||◌, ap, ◌∙◌}
use Rattle.lrc_code.specs.Losses.{bits_set}
use Rattle.lrc_rows.proofs.UpgradingLemmas.{either-bits}
use Rattle.lrc_rows.proofs.row.Row.missing.Goals as goal

pub returns : goal.returns
returns c = λ f.
    either-bits c.args.self.now.losses.missing.bits c.in_upgrade.result.bits c.from_bits.result.bits f c.from_bits.ensures
    ∙ ap (λ (b : Bool). bits_set c.args.self.now.losses.missing.bits f || b) (c.in_upgrade.ensures.homes f)
