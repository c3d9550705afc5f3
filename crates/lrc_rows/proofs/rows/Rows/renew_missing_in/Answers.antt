use Rattle.std.proofs.Common.{arith, refl, ◌∙◌}
use Rattle.lrc_ranks.specs.Sets.{has}
use Rattle.lrc_rows.specs.Listed.{rows_in}
use Rattle.lrc_rows.specs.Kept.{IsMissingOn}
use Rattle.lrc_rows.proofs.TurnLemmas.{renewed-first, renewed-more, renewed-all}
use Rattle.lrc_ranks.proofs.StripeSetLemmas.{has-taken}
use Rattle.lrc_rows.proofs.rows.Rows.renew_missing_in.Goals as goal

pub loop-stripe-init : goal.loop-stripe-init
loop-stripe-init c = record {
  rows = rw c.members-left.ensures (renewed-first (has c.args.stripes.now) (IsMissingOn c.args.node c.args.are_missing) (rows_in c.args.self.now.list));
  upgrading = refl;
}

pub loop-stripe-preserved : goal.loop-stripe-preserved
loop-stripe-preserved c =
    let left = c.loop-stripe.left in
    let after = c.next_stripe.new.self in
    let s = c.in-Some.stripe in
    let there = c.in-Some.ensures.first.has in
    let e = c.renew_missing_of.ensures.rows in
    record {
      rows = renewed-more (has c.args.stripes.now) (IsMissingOn c.args.node c.args.are_missing) (rows_in c.args.self.now.list) (has left) (has after) (rows_in c.loop-stripe.self.list) (rows_in c.renew_missing_of.new.self.list)
          s (record { there = there; rest = has-taken left after s there c.in-Some.ensures.left }) c.loop-stripe.invariant.rows (record { listed = e.listed; others = e.others });
      upgrading = c.renew_missing_of.ensures.upgrading ∙ c.loop-stripe.invariant.upgrading;
    }

pub returns-clause-rows : goal.returns-clause-rows
returns-clause-rows c =
    renewed-all (has c.args.stripes.now) (IsMissingOn c.args.node c.args.are_missing) (rows_in c.args.self.now.list) (has c.loop-stripe.left) (rows_in c.loop-stripe.self.list)
    (λ t. c.in_default.ensures.first t (omega arith)) c.loop-stripe.invariant.rows
