use Rattle.std.proofs.Common.{ℕ, ◌%◌, Bool, false, cond, ◌∙◌}
use Rattle.std.specs.Int.{bit_at}
use Rattle.lrc_code.specs.Losses.{FragmentSet}
use Rattle.lrc_ranks.specs.Sets.{has}
use Rattle.lrc_ranks.specs.Blocks.{misses_in}
use Rattle.lrc_ranks.proofs.CountLemmas.{bit-count}
use Rattle.lrc_ranks.proofs.BlockLemmas.{losses-a}
use Rattle.lrc_ranks.proofs.block.Block.in_a.Goals as goal

pub returns : goal.returns
returns c = λ s here.
    let block = c.args.self.now in
    let k : ℕ = s.value % 64 in
    let m : FragmentSet = misses_in block s in
    let narrow : Bool = has block.planes.now.narrow s in
    c.count.ensures k
    ∙ losses-a m (bit_at c.missing.result k) (bit_at c.missing-2.result k) (bit_at c.missing-3.result k) (bit_at c.either.result k) (bit_at c.wide.result k)
    (bit_at c.wide-2.result k) (bit_at c.wide-3.result k) narrow
    (bit-count c.missing.result k (m 0) (c.missing.ensures s here)) (bit-count c.missing-2.result k (m 1) (c.missing-2.ensures s here))
    (bit-count c.missing-3.result k (m 2) (c.missing-3.ensures s here)) (bit-count c.either.result k (cond narrow (m 6) (m 3)) (c.either.ensures s here))
    (bit-count c.wide.result k (cond narrow false (m 4)) (c.wide.ensures s here)) (bit-count c.wide-2.result k (cond narrow false (m 5)) (c.wide-2.ensures s here))
    (bit-count c.wide-3.result k (cond narrow false (m 12)) (c.wide-3.ensures s here))
