use Rattle.std.proofs.Common.{◌≡◌, ℕ, true, length}
use Rattle.lrc_code.specs.Losses.{bits_set}
use Rattle.lrc_ranks.proofs.FragmentLemmas.{ArePut}
use Rattle.lrc_ranks.proofs.fragment_sets.FragmentSets.put.Given as goal

-- the sets of the fragments that are passed have changed
abbrev pub invariant-loop-left : goal.invariant-loop-left
invariant-loop-left l = record {
  long : length l.self-inside.sets ≡ 16;
  within : (f : ℕ) → bits_set l.left f ≡ true → bits_set l.fn.fragments.bits f ≡ true;
  put : ArePut l.initial.self-inside.sets l.stripe l.fn.fragments.bits l.is_in l.left l.self-inside.sets;
}

abbrev pub decreases-loop-left : goal.decreases-loop-left
decreases-loop-left l = l.left
