use Rattle.std.proofs.Common.{◌≡◌, ◌<◌, ℕ, true, not, ◌&&◌}
use Rattle.lrc_code.specs.declared.numbers.StripeNo.{StripeNo}
use Rattle.lrc_ranks.specs.Sets.{has, at_fragment}
use Rattle.lrc_ranks.proofs.StripeSetLemmas.{member_count}
use Rattle.lrc_rows.specs.Listed.{rows_in}
use Rattle.lrc_rows.specs.Kept.{is_in_upgrade}
use Rattle.lrc_rows.proofs.rows.following.in_upgrade.Given as goal

-- the stripes that are passed are in the sets of their fragments
abbrev pub invariant-loop-stripe : goal.invariant-loop-stripe
invariant-loop-stripe l = record {
  within : (s : StripeNo) → has l.left s ≡ true → has l.stripes s ≡ true;
  sets : (f : ℕ) (s : StripeNo) → f < 16 → at_fragment l.sets f s ≡ ((has l.stripes s && not (has l.left s)) && is_in_upgrade l.upgrading f (rows_in l.list.items s));
}

abbrev pub decreases-loop-stripe : goal.decreases-loop-stripe
decreases-loop-stripe l = member_count l.left
