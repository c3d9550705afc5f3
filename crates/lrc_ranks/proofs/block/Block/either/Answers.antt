use Rattle.std.proofs.Common.{◌%◌}
use Rattle.lrc_ranks.specs.Sets.{has}
use Rattle.lrc_ranks.specs.Blocks.{misses_in}
use Rattle.lrc_ranks.proofs.BlockLemmas.{either-bit}
use Rattle.lrc_ranks.proofs.block.Block.either.Goals as goal

pub returns : goal.returns
returns c = λ s here.
    let block = c.args.self.now in
    either-bit c.wide.result c.missing.result c.word.result (s.value % 64) (misses_in block s c.args.wide) (misses_in block s c.args.narrow) (has block.planes.now.narrow s)
    (c.wide.ensures s here) (c.missing.ensures s here) (c.word.ensures s here)
