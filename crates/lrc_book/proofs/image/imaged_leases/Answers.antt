use Rattle.std.proofs.Common.{rules, ◌≡◌, ◌++◌, List, sym, ap, ◌∙◌}
use Rattle.lrc_terms.specs.Stripes.{stripe_at}
use Rattle.lrc_images.specs.declared.image.LeaseRow.{LeaseRow}
use Rattle.lrc_images.specs.Rows.{stripe_leases}
use Rattle.lrc_images.proofs.RowLemmas.{rows-none, rows-more, own-number}
use Rattle.lrc_book.proofs.image.imaged_leases.Goals as goal

pub loop-number-init : goal.loop-number-init
loop-number-init c = λ st kept. c.new-rows.ensures.items ∙ sym (rows-none stripe_at (stripe_leases st))

pub loop-number-preserved : goal.loop-number-preserved
loop-number-preserved c = λ st kept.
    let number = c.loop-number.number in
    let stripe = c.unwrap-stripe.result in
    let is : stripe.value ≡ number = search rules in
    c.in_ok-push_leases.ensures.value st kept
    ∙ ap (λ (rows : List LeaseRow). rows ++ stripe_leases st stripe) (c.loop-number.invariant st kept)
    ∙ sym (rows-more stripe_at (stripe_leases st) number stripe (ap stripe_at (sym is) ∙ own-number stripe))
