use Rattle.std.proofs.Common.{ℕ, Bool, ◌&&◌, nat_eq, get_or, arith}
use Rattle.lrc_code.specs.declared.numbers.StripeNo.{StripeNo}
use Rattle.lrc_code.specs.Losses.{joined}
use Rattle.lrc_ranks.specs.Missing.{code_by, fragments_at, rank_with}
use Rattle.lrc_ranks.specs.Sets.{has}
use Rattle.lrc_ranks.proofs.BlockLemmas.{rank-few}
use Rattle.lrc_ranks.proofs.QueueLemmas.{filled-none, filled-next, filled-past, five-filled}
use Rattle.lrc_ranks.proofs.by_rank.ByRank.ranked.Goals as goal

pub loop-index-init : goal.loop-index-init
loop-index-init c =
    let planes = c.args.planes.now in
    let wanted : ℕ → StripeNo → Bool = λ k s. has planes.work s && nat_eq (rank_with planes.narrow planes.missing c.args.more.now s) k in
    record {
      zero = filled-none c.new-zero.result (wanted 0) c.new-zero.ensures;
      one = filled-none c.new-one.result (wanted 1) c.new-one.ensures;
      two = filled-none c.new-two.result (wanted 2) c.new-two.ensures;
      three = filled-none c.new-three.result (wanted 3) c.new-three.ensures;
      four = filled-none c.new-four.result (wanted 4) c.new-four.ensures;
    }

pub loop-index-preserved : goal.loop-index-preserved
loop-index-preserved c =
    let planes = c.args.planes.now in
    let wanted : ℕ → StripeNo → Bool = λ k s. has planes.work s && nat_eq (rank_with planes.narrow planes.missing c.args.more.now s) k in
    let index = c.loop-index.index in
    let words = c.ranks-words.result in
    let right = c.ranks-words.ensures.ranks in
    let filled = c.loop-index.invariant in
    record {
      zero = filled-next c.loop-index.zero (wanted 0) index filled.zero c.put_word.new.self (get_or words 0 0) c.put_word.ensures (λ s here. right s 0 here);
      one = filled-next c.loop-index.one (wanted 1) index filled.one c.put_word-in-loop-index.new.self (get_or words 1 0) c.put_word-in-loop-index.ensures (λ s here. right s 1 here);
      two = filled-next c.loop-index.two (wanted 2) index filled.two c.put_word-in-loop-index-2.new.self (get_or words 2 0) c.put_word-in-loop-index-2.ensures (λ s here. right s 2 here);
      three = filled-next c.loop-index.three (wanted 3) index filled.three c.put_word-in-loop-index-3.new.self (get_or words 3 0) c.put_word-in-loop-index-3.ensures (λ s here. right s 3 here);
      four = filled-next c.loop-index.four (wanted 4) index filled.four c.put_word-in-loop-index-4.new.self (get_or words 4 0) c.put_word-in-loop-index-4.ensures (λ s here. right s 4 here);
    }

pub of-requires-clause-all : goal.of-requires-clause-all
of-requires-clause-all c = λ s past.
    let end = c.loop-index-test.false in
    filled-past c.loop-index.zero (λ s. has c.args.planes.now.work s && nat_eq (rank_with c.args.planes.now.narrow c.args.planes.now.missing c.args.more.now s) 0) c.loop-index.index c.loop-index.invariant.zero s (omega (arith, past, end))

pub returns : goal.returns
returns c =
    let planes = c.args.planes.now in
    let more = c.args.more.now in
    let filled = c.loop-index.invariant in
    let end = c.loop-index-test.false in
    five-filled c.loop-index.zero c.loop-index.one c.loop-index.two c.loop-index.three c.loop-index.four c.of.result c.of-2.result c.of-3.result c.of-4.result c.of-5.result
    (has planes.work) (rank_with planes.narrow planes.missing more)
    (λ s. rank-few (code_by planes.narrow s) (joined (fragments_at planes.missing s) (fragments_at more s)))
    c.loop-index.index (λ s past. c.blocks-blocks.ensures.all s (omega (arith, past, end))) filled.zero filled.one filled.two filled.three filled.four
    c.of.ensures c.of-2.ensures c.of-3.ensures c.of-4.ensures c.of-5.ensures
