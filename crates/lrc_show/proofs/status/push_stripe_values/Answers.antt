use Rattle.std.proofs.Common.{codes, string_bytes}
use Rattle.lrc_show.specs.Facts.{stripe_lines}
use Rattle.lrc_show.proofs.StatusLemmas.{join, row-join}
use Rattle.lrc_show.proofs.status.push_stripe_values.Goals as goal

pub returns : goal.returns
unfolding stripe_lines
returns c =
    let old = string_bytes c.args.out.now in
    let two = join old _ _ _ _ c.in_ok-push_value.ensures c.in_ok-push_levels.ensures in
    let three = row-join old _ (codes "missing_fragments") _ _ _ _ two c.in_ok-push_value-2.ensures c.sum_missing.ensures in
    row-join old _ (codes "homeless_fragments") _ _ _ _ three c.in_ok-push_value-3.ensures c.sum_homeless.ensures
