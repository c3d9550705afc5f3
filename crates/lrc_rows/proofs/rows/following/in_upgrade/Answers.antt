use Rattle.std.proofs.Common.{◌≡◌, ◌<◌, ◌&&◌, ℕ, Bool, true, false, not, cond, List, Some, None, length, arith, refl, sym, ap, ◌∙◌}
use Rattle.std.proofs.lemmas.Bool.{eq-eqb}
use Rattle.std.proofs.lemmas.List.{get_or_default}
use Rattle.lrc_code.specs.Losses.{bits_set}
use Rattle.lrc_code.specs.Numbers.{same_stripe}
use Rattle.lrc_code.specs.declared.numbers.StripeNo.{StripeNo}
use Rattle.lrc_ranks.specs.Sets.{has, at_fragment}
use Rattle.lrc_ranks.proofs.StripeSetLemmas.{has-taken}
use Rattle.lrc_rows.specs.Listed.{rows_in}
use Rattle.lrc_rows.specs.Kept.{is_in_upgrade}
use Rattle.lrc_rows.proofs.TurnLemmas.{IsTaken, none-yet, upgraded-more}
use Rattle.lrc_rows.proofs.rows.following.in_upgrade.Goals as goal

pub loop-stripe-init : goal.loop-stripe-init
loop-stripe-init c = record {
  within = λ s there. sym (ap (λ (xs : List Bool). has xs s) c.members-left.ensures) ∙ there;
  sets = λ f s low.
      ap (λ (m : ℕ → StripeNo → Bool). m f s) c.new-sets.ensures
      ∙ sym (ap (λ (xs : List Bool). (has c.args.stripes.now s && not (has xs s)) && is_in_upgrade c.args.upgrading.now f (rows_in c.args.list.now.items s)) c.members-left.ensures
      ∙ all-left (has c.args.stripes.now s) (is_in_upgrade c.args.upgrading.now f (rows_in c.args.list.now.items s)));
} where
  all-left : (a b : Bool) → ((a && not a) && b) ≡ false
  all-left true b = refl
  all-left false b = refl

pub loop-stripe-preserved-in-Some-index : goal.loop-stripe-preserved-in-Some-index
loop-stripe-preserved-in-Some-index c =
    let list = c.args.list.now.items in
    let upgrading = c.args.upgrading.now in
    let left = c.loop-stripe.left in
    let after = c.next_stripe.new.self in
    let s = c.in-Some.stripe in
    let row = c.in-Some-index.row in
    let there = c.in-Some.ensures.first.has in
    let is = c.loop-stripe.invariant in
    let within : s.value < length list = let low = s.in_range in let long = c.requires in omega (arith, low, long) in
    let at : rows_in list s ≡ Some row = sym (c.index.ensures ∙ get_or_default list s.value c.index.result.now None within) ∙ c.in-Some-index.is in
    let taken : IsTaken (has left) s (has after) = record { there = there; rest = has-taken left after s there c.in-Some.ensures.left } in
    record {
      within = λ t later. is.within t (second (same_stripe s t) (has left t) (has after t) (ap (λ (f : StripeNo → Bool). f t) taken.rest) later);
      sets = upgraded-more upgrading (rows_in list) (has c.args.stripes.now) (has left) (has after) (at_fragment c.loop-stripe.sets) s taken is.within is.sets (at_fragment c.put.new.self)
          (λ f t low other. c.put.ensures f t ∙ ap (λ (b : Bool). cond (b && bits_set c.in_upgrade.result.bits f) true (at_fragment c.loop-stripe.sets f t)) other)
          (λ f low. c.put.ensures f s
          ∙ (ap (λ (b : Bool). cond (b && bits_set c.in_upgrade.result.bits f) true (at_fragment c.loop-stripe.sets f s)) (eq-eqb s.value s.value refl)
          ∙ (ap (λ (b : Bool). cond (bits_set c.in_upgrade.result.bits f) true b) (none-yet upgrading (rows_in list) (has c.args.stripes.now) (has left) (has after) (at_fragment c.loop-stripe.sets) s taken is.within is.sets f low)
          ∙ (one (bits_set c.in_upgrade.result.bits f) ∙ (c.in_upgrade.ensures.homes f ∙ sym (ap (is_in_upgrade upgrading f) at))))));
    }
  where
    second : (a b x : Bool) → x ≡ (not a && b) → x ≡ true → b ≡ true
    second true b x is hit = absurd (let clash : false ≡ true = sym is ∙ hit in cc)
    second false b x is hit = sym is ∙ hit

    one : (b : Bool) → (cond b true false) ≡ b
    one true = refl
    one false = refl
