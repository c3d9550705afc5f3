use Rattle.std.proofs.Common.{◌%◌, arith}
use Rattle.lrc_ranks.specs.Sets.{has}
use Rattle.lrc_ranks.specs.Blocks.{misses_in}
use Rattle.lrc_ranks.proofs.BlockLemmas.{wide-bit}
use Rattle.lrc_ranks.proofs.block.Block.wide.Goals as goal

pub returns : goal.returns
returns c = λ s here.
    let block = c.args.self.now in
    wide-bit c.missing.result c.word.result (s.value % 64) (misses_in block s c.args.fragment) (has block.planes.now.narrow s) (omega arith) (omega arith)
    (c.missing.ensures s here) (c.word.ensures s here)
