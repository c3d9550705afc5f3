use Rattle.std.proofs.Common.{◌&&◌, nat_eq}
use Rattle.lrc_ranks.specs.Missing.{rank_with}
use Rattle.lrc_ranks.specs.Sets.{has}
use Rattle.lrc_ranks.proofs.QueueLemmas.{IsFilled}
use Rattle.lrc_ranks.proofs.by_rank.ByRank.ranked.Given as goal

-- the stripes of the blocks that are passed are in the sets of their ranks
abbrev pub invariant-loop-index : goal.invariant-loop-index
invariant-loop-index l = record {
  zero : IsFilled l.zero (λ s. has l.planes.work s && nat_eq (rank_with l.planes.narrow l.planes.missing l.more s) 0) l.index;
  one : IsFilled l.one (λ s. has l.planes.work s && nat_eq (rank_with l.planes.narrow l.planes.missing l.more s) 1) l.index;
  two : IsFilled l.two (λ s. has l.planes.work s && nat_eq (rank_with l.planes.narrow l.planes.missing l.more s) 2) l.index;
  three : IsFilled l.three (λ s. has l.planes.work s && nat_eq (rank_with l.planes.narrow l.planes.missing l.more s) 3) l.index;
  four : IsFilled l.four (λ s. has l.planes.work s && nat_eq (rank_with l.planes.narrow l.planes.missing l.more s) 4) l.index;
}
