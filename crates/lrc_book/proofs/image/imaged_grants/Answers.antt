use Rattle.std.proofs.Common.{rules, ◌≡◌, sym, ap, ◌∙◌}
use Rattle.std.specs.Prelude.{option_to_list}
use Rattle.lrc_terms.specs.Stripes.{stripe_at}
use Rattle.lrc_images.specs.Rows.{grant_row}
use Rattle.lrc_images.proofs.RowLemmas.{rows-none, row-push, row-pass, own-number}
use Rattle.lrc_book.proofs.image.imaged_grants.Goals as goal
use Rattle.lrc_book.proofs.image.imaged_grants.Goals.{in-Some+in_ok-push, in_default}

pub loop-number-init : goal.loop-number-init
loop-number-init c = λ past kept. c.new-rows.ensures.items ∙ sym (rows-none stripe_at (λ s. option_to_list (grant_row past s)))

pub loop-number-preserved : goal.loop-number-preserved
loop-number-preserved c = λ past kept.
    let number = c.loop-number.number in
    let stripe = c.unwrap-stripe.result in
    let is : stripe.value ≡ number = search rules in
    let at : stripe_at number ≡ stripe = ap stripe_at (sym is) ∙ own-number stripe in
    let row = sym (c.grant_row_of.ensures past kept) in
    let items = c.loop-number.rows.items in
    let so_far = c.loop-number.invariant past kept in
    elim c.match-grant_row_of.branch [
      | in-Some+in_ok-push w ↦
          ap (λ v. v.items) w.rows-is ∙ w.in_ok-push.ensures.items ∙ row-push stripe_at (grant_row past) number stripe items at so_far w.in-Some.row (row ∙ w.in-Some.is)
      | in_default w ↦ ap (λ v. v.items) w.rows-is ∙ row-pass stripe_at (grant_row past) number stripe items at so_far (row ∙ w.in_default.is)
    ]
