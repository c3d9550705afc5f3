use Rattle.std.proofs.Common.{arith, refl, sym, ap, ◌∙◌}
use Rattle.std.specs.Option.{option_copied}
use Rattle.std.proofs.lemmas.Option.{same_Some}
use Rattle.lrc_rows.specs.declared.row.Row.{Row}
use Rattle.lrc_ranks.specs.Sets.{has}
use Rattle.lrc_rows.specs.NodeStates.{states_in}
use Rattle.lrc_rows.specs.Listed.{rows_in}
use Rattle.lrc_rows.specs.Kept.{is_row_on, IsWithLosses, IsToMoveOn}
use Rattle.lrc_rows.proofs.BecomeLemmas.{to_move_on-put}
use Rattle.lrc_rows.proofs.TurnLemmas.{renewed-first, renewed-one, renewed-absent, renewed-all}
use Rattle.lrc_ranks.proofs.StripeSetLemmas.{has-taken}
use Rattle.lrc_rows.proofs.rows.Rows.renew_needs_in.Goals as goal

pub loop-stripe-init : goal.loop-stripe-init
loop-stripe-init c = record {
  rows = rw c.members-left.ensures (renewed-first (has c.args.stripes.now) (IsToMoveOn (states_in c.args.node_table.now).up c.args.node c.args.are_to_move) (rows_in c.args.self.now.list));
  upgrading = refl;
}

pub with_needs-losses-requires-clause-kept : goal.with_needs-losses-requires-clause-kept
with_needs-losses-requires-clause-kept c =
    let was = sym (c.loop-stripe.invariant.rows.waiting c.in-Some.stripe c.in-Some.ensures.first.has) ∙ (sym c.get.ensures ∙ ap option_copied c.in-Some-get.is) in
    c.requires.losses c.in-Some.stripe c.in-Some-get.row.now was

pub with_needs-losses-requires-clause-stands : goal.with_needs-losses-requires-clause-stands
with_needs-losses-requires-clause-stands c =
    let was = sym (c.loop-stripe.invariant.rows.waiting c.in-Some.stripe c.in-Some.ensures.first.has) ∙ (sym c.get.ensures ∙ ap option_copied c.in-Some-get.is) in
    λ n any. c.requires.listed n c.in-Some.stripe ∙ (ap (is_row_on n) was ∙ any)

pub set_losses-requires : goal.set_losses-requires
set_losses-requires c = λ r at.
    let row = c.in-Some-get.row.now in
    let is = sym c.get.ensures ∙ ap option_copied c.in-Some-get.is in
    c.with_needs-losses.ensures.code ∙ ap (λ (x : Row). x.losses.code) (same_Some row r (sym is ∙ at))

pub loop-stripe-preserved-in-Some-get : goal.loop-stripe-preserved-in-Some-get
loop-stripe-preserved-in-Some-get c =
    let Renews = IsToMoveOn (states_in c.args.node_table.now).up c.args.node c.args.are_to_move in
    let left = c.loop-stripe.left in
    let after = c.next_stripe.new.self in
    let s = c.in-Some.stripe in
    let there = c.in-Some.ensures.first.has in
    let row = c.in-Some-get.row.now in
    let e = c.with_needs-losses.ensures in
    let changed = c.set_losses.ensures.rows in
    let is = sym c.get.ensures ∙ ap option_copied c.in-Some-get.is in
    record {
      rows = renewed-one (has c.args.stripes.now) Renews (rows_in c.args.self.now.list) (has left) (has after) (rows_in c.loop-stripe.self.list) (rows_in c.set_losses.new.self.list)
          s (record { there = there; rest = has-taken left after s there c.in-Some.ensures.left }) c.loop-stripe.invariant.rows (IsWithLosses c.with_needs-losses.result) row is
          (record { listed = changed.listed; others = changed.others })
          (λ q put. to_move_on-put (states_in c.args.node_table.now).up c.args.node c.args.are_to_move c.fragments_on-fragments.result c.with_needs-losses.result row q
          (c.fragments_on-fragments.ensures.on row is) e.code e.homeless e.missing e.needs put);
      upgrading = c.set_losses.ensures.upgrading ∙ c.loop-stripe.invariant.upgrading;
    }

pub loop-stripe-preserved : goal.loop-stripe-preserved
loop-stripe-preserved c =
    let left = c.loop-stripe.left in
    let after = c.next_stripe.new.self in
    let s = c.in-Some.stripe in
    let there = c.in-Some.ensures.first.has in
    record {
      rows = renewed-absent (has c.args.stripes.now) (IsToMoveOn (states_in c.args.node_table.now).up c.args.node c.args.are_to_move) (rows_in c.args.self.now.list) (has left) (has after) (rows_in c.loop-stripe.self.list)
          s (record { there = there; rest = has-taken left after s there c.in-Some.ensures.left }) c.loop-stripe.invariant.rows
          (sym c.get.ensures ∙ ap option_copied c.in_default-get.is);
      upgrading = c.loop-stripe.invariant.upgrading;
    }

pub returns-clause-rows : goal.returns-clause-rows
returns-clause-rows c =
    renewed-all (has c.args.stripes.now) (IsToMoveOn (states_in c.args.node_table.now).up c.args.node c.args.are_to_move) (rows_in c.args.self.now.list) (has c.loop-stripe.left) (rows_in c.loop-stripe.self.list)
    (λ t. c.in_default.ensures.first t (omega arith)) c.loop-stripe.invariant.rows
