use Rattle.std.proofs.Common.{List, take, length, subst, rules}
use Rattle.lrc_terms.specs.Stripes.{stripe_at}
use Rattle.lrc_records.specs.declared.stripe.LrcStripe.{LrcStripe}
use Rattle.lrc_walks.specs.WalkRows.{AreFirstRows}
use Rattle.lrc_walks.proofs.WalkLemmas.{stripe_found, stripes-found, stripe-told}
use Rattle.lrc_walks.proofs.walks.put_stripes.Goals as goal

pub returns : goal.returns
returns c =
    let b = c.args.book.now in
    subst (λ (l : List LrcStripe). AreFirstRows (take (length c.args.rows.now) l) c.put_found.result c.args.rows.now c.put_found.new.rows) (stripes-found b c.args.from)
    (c.put_found.ensures (λ i. stripe_found b c.args.from (stripe_at i)) (λ i found low high is. stripe-told b c.args.from i found low high (search rules)))
