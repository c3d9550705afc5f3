use Rattle.lrc_walks.specs.WalkRows.{leases_from}
use Rattle.lrc_embed.proofs.WalkLemmas.{walk-done}
use Rattle.lrc_embed.proofs.exports.walks.lrc_embed_leases.Goals as goal

pub returns : goal.returns
returns c =
    walk-done (λ b. leases_from b c.args.from_stripe c.args.from_fragment) c.args.handle.now.owned.book c.put.new.self.owned.book c.in-Some.book.value c.deref.result.now c.args.rows.now c.put_leases.new.rows
    c.args.count.now c.put_leases.result c.in-Some.ensures.book c.put.ensures c.deref.ensures c.put_leases.ensures
