use Rattle.std.proofs.Common.{sym, ap, ◌∙◌}
use Rattle.std.specs.Option.{option_copied}
use Rattle.lrc_rows.specs.NodeStates.{states_in}
use Rattle.lrc_rows.specs.Kept.{is_row_on}
use Rattle.lrc_stripes.specs.UpgradeLosses.{lost_by, row_lost}
use Rattle.lrc_stripes.proofs.upgrades.is_lost.Goals as goal

pub is_row_lost-requires-clause-kept : goal.is_row_lost-requires-clause-kept
is_row_lost-requires-clause-kept c = c.requires.kept.losses c.args.stripe c.in-Some.row.now (sym c.get.ensures ∙ ap option_copied c.in-Some.is)

pub is_row_lost-requires-clause-stands : goal.is_row_lost-requires-clause-stands
is_row_lost-requires-clause-stands c = λ n any.
    (c.requires.kept.listed n c.args.stripe ∙ (ap (is_row_on n) (sym c.get.ensures ∙ ap option_copied c.in-Some.is) ∙ any))

pub is_row_lost-requires-clause-domains : goal.is_row_lost-requires-clause-domains
is_row_lost-requires-clause-domains c = c.requires.kept.domains c.args.stripe c.in-Some.row.now (sym c.get.ensures ∙ ap option_copied c.in-Some.is)

pub returns-in-Some : goal.returns-in-Some
returns-in-Some c =
    c.is_row_lost.ensures ∙ sym (ap (row_lost (states_in c.args.node_table.now) c.args.domain) (sym c.get.ensures ∙ ap option_copied c.in-Some.is))

pub returns-in-None : goal.returns-in-None
unfolding lost_by
returns-in-None c = sym (ap (row_lost (states_in c.args.node_table.now) c.args.domain) (sym c.get.ensures ∙ ap option_copied c.in-None.is))
