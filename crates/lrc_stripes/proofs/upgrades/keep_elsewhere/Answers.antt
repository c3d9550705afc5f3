use Rattle.std.proofs.Common.{Bool, sym, ap, ◌∙◌}
use Rattle.std.specs.Option.{option_copied}
use Rattle.lrc_code.specs.declared.numbers.StripeNo.{StripeNo}
use Rattle.lrc_code.specs.declared.numbers.UpgradeNo.{UpgradeNo}
use Rattle.lrc_rows.specs.NodeStates.{states_in, is_on_several_down}
use Rattle.lrc_rows.specs.Kept.{is_row_on}
use Rattle.lrc_stripes.specs.UpgradeLosses.{row_lost, lost_in}
use Rattle.lrc_stripes.proofs.upgrades.keep_elsewhere.Goals as goal

pub keep_row-requires-clause-kept : goal.keep_row-requires-clause-kept
keep_row-requires-clause-kept c = c.requires.kept.losses c.args.stripe c.in-Some.row.now (sym c.get.ensures ∙ ap option_copied c.in-Some.is)

pub keep_row-requires-clause-stands : goal.keep_row-requires-clause-stands
keep_row-requires-clause-stands c = λ n any.
    (c.requires.kept.listed n c.args.stripe ∙ (ap (is_row_on n) (sym c.get.ensures ∙ ap option_copied c.in-Some.is) ∙ any))

pub keep_row-requires-clause-domains : goal.keep_row-requires-clause-domains
keep_row-requires-clause-domains c = c.requires.kept.domains c.args.stripe c.in-Some.row.now (sym c.get.ensures ∙ ap option_copied c.in-Some.is)

pub returns-then-row-eq0 : goal.returns-then-row-eq0
returns-then-row-eq0 c =
    let z = states_in c.args.node_table.now in
    let lost : UpgradeNo → StripeNo → Bool = lost_in z c.args.rows.now.list in
    c.keep_row.ensures lost (is_on_several_down z) c.requires.verdicts (λ u. ap (row_lost z u) (sym c.get.ensures ∙ ap option_copied c.in-Some.is))
