use Rattle.std.proofs.Common.{◌≡◌, ℕ, ◌&&◌, ◌||◌, nat_lt, length}
use Rattle.lrc_code.specs.declared.numbers.StripeNo.{StripeNo}
use Rattle.lrc_ranks.specs.Sets.{at_fragment}
use Rattle.lrc_ranks.proofs.fragment_sets.FragmentSets.insert_all.Given as goal

-- the sets that are passed have the other's stripes too
abbrev pub invariant-loop-i : goal.invariant-loop-i
invariant-loop-i l = record {
  long : length l.self-inside.sets ≡ 16;
  joined : (f : ℕ) (s : StripeNo)
      → at_fragment l.self-inside.sets f s ≡ (at_fragment l.initial.self-inside.sets f s || (nat_lt f l.i && at_fragment l.other-inside.sets f s));
}
