use Rattle.std.proofs.Common.{Bool, sym, ◌∙◌}
use Rattle.lrc_code.specs.declared.numbers.StripeNo.{StripeNo}
use Rattle.lrc_code.specs.declared.numbers.UpgradeNo.{UpgradeNo}
use Rattle.lrc_rows.specs.NodeStates.{states_in, is_on_several_down}
use Rattle.lrc_stripes.specs.UpgradeLosses.{lost_in}
use Rattle.lrc_stripes.proofs.upgrades.settle.Goals as goal

pub reach-requires : goal.reach-requires
reach-requires c =
    let lost : UpgradeNo → StripeNo → Bool = lost_in (states_in c.args.node_table.now) c.args.rows.now.list in
    let settled = c.settle.ensures lost (c.take_nodes_changed.ensures lost (is_on_several_down (states_in c.args.node_table.now)) c.requires.verdicts) in
    settled.room

pub loop-stripe-init : goal.loop-stripe-init
loop-stripe-init c =
    let lost : UpgradeNo → StripeNo → Bool = lost_in (states_in c.args.node_table.now) c.args.rows.now.list in
    c.reach.ensures lost (is_on_several_down (states_in c.args.node_table.now)) (c.settle.ensures lost (c.take_nodes_changed.ensures lost (is_on_several_down (states_in c.args.node_table.now)) c.requires.verdicts))

pub keep_elsewhere-requires-clause-kept : goal.keep_elsewhere-requires-clause-kept
keep_elsewhere-requires-clause-kept c = record { losses = c.requires.kept.losses; domains = c.requires.kept.domains; listed = c.requires.kept.listed }

pub keep_elsewhere-requires-clause-verdicts : goal.keep_elsewhere-requires-clause-verdicts
keep_elsewhere-requires-clause-verdicts c =
    let lost : UpgradeNo → StripeNo → Bool = lost_in (states_in c.args.node_table.now) c.args.rows.now.list in
    c.keep_safe.ensures lost (is_on_several_down (states_in c.args.node_table.now)) c.loop-stripe.invariant (sym c.is_lost.ensures ∙ c.if-is_lost.false)
