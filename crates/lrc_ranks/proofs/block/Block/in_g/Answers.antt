use Rattle.std.proofs.Common.{ℕ, ◌%◌, Bool, cond, subst}
use Rattle.std.specs.Int.{bit_at}
use Rattle.lrc_code.specs.Losses.{FragmentSet}
use Rattle.lrc_ranks.specs.Counts.{IsAtLeast}
use Rattle.lrc_ranks.specs.Sets.{has}
use Rattle.lrc_ranks.specs.Blocks.{misses_in}
use Rattle.lrc_ranks.proofs.CountLemmas.{bit-count}
use Rattle.lrc_ranks.proofs.BlockLemmas.{losses-g}
use Rattle.lrc_ranks.proofs.block.Block.in_g.Goals as goal

pub returns : goal.returns
returns c = λ s here.
    let block = c.args.self.now in
    let k : ℕ = s.value % 64 in
    let m : FragmentSet = misses_in block s in
    let narrow : Bool = has block.planes.now.narrow s in
    subst (IsAtLeast c.count.result k)
    (losses-g m (bit_at c.either.result k) (bit_at c.either-2.result k) 0 0 0 0 0 narrow
    (bit-count c.either.result k (cond narrow (m 8) (m 14)) (c.either.ensures s here)) (bit-count c.either-2.result k (cond narrow (m 9) (m 15)) (c.either-2.ensures s here)))
    (c.count.ensures k)
