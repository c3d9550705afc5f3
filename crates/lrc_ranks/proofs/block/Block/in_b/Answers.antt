use Rattle.std.proofs.Common.{ℕ, ◌%◌, Bool, false, cond, ◌∙◌}
use Rattle.std.specs.Int.{bit_at}
use Rattle.lrc_code.specs.Losses.{FragmentSet}
use Rattle.lrc_ranks.specs.Sets.{has}
use Rattle.lrc_ranks.specs.Blocks.{misses_in}
use Rattle.lrc_ranks.proofs.CountLemmas.{bit-count}
use Rattle.lrc_ranks.proofs.BlockLemmas.{losses-b}
use Rattle.lrc_ranks.proofs.block.Block.in_b.Goals as goal

pub returns : goal.returns
returns c = λ s here.
    let block = c.args.self.now in
    let k : ℕ = s.value % 64 in
    let m : FragmentSet = misses_in block s in
    let narrow : Bool = has block.planes.now.narrow s in
    c.count.ensures k
    ∙ losses-b m (bit_at c.either.result k) (bit_at c.missing.result k) (bit_at c.either-2.result k) (bit_at c.either-3.result k) (bit_at c.wide.result k)
    (bit_at c.wide-2.result k) (bit_at c.wide-3.result k) narrow
    (bit-count c.either.result k (cond narrow (m 3) (m 6)) (c.either.ensures s here)) (bit-count c.missing.result k (m 7) (c.missing.ensures s here))
    (bit-count c.either-2.result k (cond narrow (m 4) (m 8)) (c.either-2.ensures s here)) (bit-count c.either-3.result k (cond narrow (m 5) (m 9)) (c.either-3.ensures s here))
    (bit-count c.wide.result k (cond narrow false (m 10)) (c.wide.ensures s here)) (bit-count c.wide-2.result k (cond narrow false (m 11)) (c.wide-2.ensures s here))
    (bit-count c.wide-3.result k (cond narrow false (m 13)) (c.wide-3.ensures s here))
