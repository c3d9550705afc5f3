use Rattle.std.proofs.Common.{◌||◌, ◌%◌, ap, ◌∙◌}
use Rattle.lrc_bits.proofs.UnionLemmas.{or_flag}
use Rattle.lrc_code.specs.Losses.{bits_set}
use Rattle.lrc_ranks.specs.Sets.{at_fragment}
use Rattle.lrc_ranks.proofs.block.Block.missing.Goals as goal

pub returns : goal.returns
returns c = λ s here.
    or_flag c.word.result c.word-2.result (s.value % 64)
    ∙ (ap (λ b. b || bits_set c.word-2.result (s.value % 64)) (c.word.ensures s here)
    ∙ ap (λ b. at_fragment c.args.self.now.planes.now.missing c.args.fragment s || b) (c.word-2.ensures s here))
