use Rattle.std.proofs.Common.{◌∙◌}
use Rattle.lrc_code.specs.Losses.{bits_set}
use Rattle.lrc_homes.proofs.RankLemmas.{rank_by-margin}
use Rattle.lrc_homes.proofs.losses.Losses.rank.Goals as goal

pub returns-clause-value : goal.returns-clause-value
returns-clause-value c =
    c.unwrap_or.ensures ∙ rank_by-margin c.args.self.code (bits_set c.args.self.missing.bits) c.margin_in.result c.margin_in.ensures.value
