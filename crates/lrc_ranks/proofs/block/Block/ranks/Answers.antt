use Rattle.std.proofs.Common.{ℕ, ◌+◌, ◌-◌, ◌%◌, ◌||◌, nat_lt, arith, ap, ◌∙◌}
use Rattle.lrc_bits.proofs.UnionLemmas.{or_flag}
use Rattle.lrc_code.specs.Losses.{bits_set}
use Rattle.lrc_code.specs.declared.codes.Class.TheVariants.{G}
use Rattle.lrc_ranks.specs.Counts.{number_at}
use Rattle.lrc_ranks.specs.Sets.{has}
use Rattle.lrc_ranks.specs.Blocks.{code_in, misses_in, count_in}
use Rattle.lrc_ranks.proofs.BlockLemmas.{rank-known}
use Rattle.lrc_ranks.proofs.block.Block.ranks.Goals as goal

pub returns-clause-ranks : goal.returns-clause-ranks
returns-clause-ranks c = λ s rank here.
    let block = c.args.self.now in
    let k : ℕ = s.value % 64 in
    let x : ℕ = number_at c.in_a-in_a.result k in
    let y : ℕ = number_at c.in_b-in_b.result k in
    let excess : ℕ = (x - 1) + (y - 1) + count_in block G s in
    let at_least = c.plus-excess.ensures k ((x - 1) + (y - 1)) (count_in block G s) (c.plus.ensures k (x - 1) (y - 1) (c.less_one.ensures k) (c.less_one-2.ensures k)) (c.in_g.ensures s here) in
    let local = or_flag c.any.result c.any-2.result k ∙ (ap (λ b. b || bits_set c.any-2.result k) (c.any.ensures k) ∙ ap (λ b. nat_lt 0 x || b) (c.any-2.ensures k)) in
    c.rank_words.ensures.ranks k rank excess (omega arith) at_least
    ∙ rank-known (code_in block s) (misses_in block s) x y _ _ (has block.planes.now.work s) rank (c.in_a-in_a.ensures s here) (c.in_b-in_b.ensures s here) local (c.word-work.ensures s here)
