use Rattle.std.proofs.Common.{ℕ, Bool, cond, sym, ap, ◌∙◌}
use Rattle.lrc_code.specs.Numbers.{same_stripe}
use Rattle.lrc_code.specs.declared.numbers.StripeNo.{StripeNo}
use Rattle.lrc_ranks.specs.Sets.{has, at_rank}
use Rattle.lrc_rows.specs.NodeStates.{states_in}
use Rattle.lrc_rows.specs.Listed.{rows_in}
use Rattle.lrc_homes.specs.Masks.{risk_rank}
use Rattle.lrc_rows.specs.Kept.{IsKept, queued, freshened}
use Rattle.lrc_rows.proofs.FreshLemmas.{at_risk-among}
use Rattle.lrc_stripes.proofs.RiskLemmas.{nothing-below, not-yet, one-more, all-found}
use Rattle.lrc_stripes.proofs.at_risk.stripes_at_risk.Goals as goal

pub loop-stripe-init : goal.loop-stripe-init
loop-stripe-init c =
    let states = states_in c.args.node_table.now in
    let queue : ℕ → StripeNo → Bool = queued risk_rank (rows_in (freshened states.online c.args.rows.now.list)) in
    let kept : IsKept states (rows_in c.args.rows.now.list) = record { losses = c.requires.kept.losses; domains = c.requires.kept.domains; listed = c.requires.kept.listed } in
    let covers = at_risk-among states c.args.rows.now.list kept (has c.stripes_offline-among.result) (has c.join_work.new.set) c.stripes_offline-among.ensures c.join_work.ensures in
    record {
      kept = kept;
      upgrading = record { long = c.requires.upgrading.long; each = c.requires.upgrading.each };
      all = covers;
      below = nothing-below queue (has c.join_work.new.set) covers _ c.new-ranks.ensures;
    }

pub loop-stripe-preserved : goal.loop-stripe-preserved
loop-stripe-preserved c =
    let queue : ℕ → StripeNo → Bool = queued risk_rank (rows_in (freshened (states_in c.args.node_table.now).online c.args.rows.now.list)) in
    let is = c.loop-stripe.invariant in
    let sets = c.loop-stripe.ranks in
    let s = c.in-Some.stripe in
    record {
      kept = is.kept;
      upgrading = is.upgrading;
      all = is.all;
      below = one-more queue (has c.join_work.new.set) is.all (at_rank sets) (at_rank c.add.new.self) c.loop-stripe.from s c.in-Some.ensures is.below
          (λ k t. c.add.ensures k t ∙ ap (λ b. cond (same_stripe s t) b (at_rank sets k t)) (sym (c.risk_rank.ensures.rank k)));
    }

pub add-requires-clause-none : goal.add-requires-clause-none
add-requires-clause-none c =
    let queue : ℕ → StripeNo → Bool = queued risk_rank (rows_in (freshened (states_in c.args.node_table.now).online c.args.rows.now.list)) in
    let is = c.loop-stripe.invariant in
    not-yet queue (has c.join_work.new.set) is.all (at_rank c.loop-stripe.ranks) c.loop-stripe.from c.in-Some.stripe c.in-Some.ensures is.below

pub returns : goal.returns
returns c =
    let queue : ℕ → StripeNo → Bool = queued risk_rank (rows_in (freshened (states_in c.args.node_table.now).online c.args.rows.now.list)) in
    let is = c.loop-stripe.invariant in
    all-found queue (has c.join_work.new.set) is.all (at_rank c.loop-stripe.ranks) c.loop-stripe.from c.in_default.ensures is.below
