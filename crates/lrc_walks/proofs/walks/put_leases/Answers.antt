use Rattle.std.proofs.Common.{List, take, length, subst, rules}
use Rattle.lrc_records.specs.declared.lease.LrcLease.{LrcLease}
use Rattle.lrc_walks.specs.WalkRows.{AreFirstRows, place_at}
use Rattle.lrc_walks.proofs.WalkLemmas.{lease_found, leases-found}
use Rattle.lrc_walks.proofs.walks.put_leases.Goals as goal

pub returns : goal.returns
returns c =
    let b = c.args.book.now in
    let stripe = c.args.from_stripe in
    let fragment = c.args.from_fragment in
    subst (λ (l : List LrcLease). AreFirstRows (take (length c.args.rows.now) l) c.put_found.result c.args.rows.now c.put_found.new.rows) (leases-found b stripe fragment)
    (c.put_found.ensures (λ i. lease_found b stripe fragment (place_at i)) (λ i found low high is. search rules))
