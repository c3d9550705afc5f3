use Rattle.lrc_walks.specs.WalkRows.{nodes_from}
use Rattle.lrc_embed.proofs.WalkLemmas.{walk-done}
use Rattle.lrc_embed.proofs.exports.walks.lrc_embed_nodes.Goals as goal

pub returns : goal.returns
returns c =
    walk-done (λ b. nodes_from b c.args.from) c.args.handle.now.owned.book c.put.new.self.owned.book c.in-Some.book.value c.deref.result.now c.args.rows.now c.put_nodes.new.rows
    c.args.count.now c.put_nodes.result c.in-Some.ensures.book c.put.ensures c.deref.ensures c.put_nodes.ensures
