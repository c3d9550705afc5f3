use Rattle.std.proofs.Common.{◌≡◌, ℕ, true, false, ◌&&◌, not, nat_lt, length, get_or}
use Rattle.lrc_code.specs.Losses.{bits_set}
use Rattle.lrc_ranks.proofs.StripeSetLemmas.{member_count}
use Rattle.lrc_rows.proofs.upgrading_domains.UpgradingDomains.fragments_among.Given as goal

-- the fragments of the domains that are passed
abbrev pub invariant-loop-number : goal.invariant-loop-number
invariant-loop-number l = record {
  long : length l.left ≡ 256;
  within : (k : ℕ) → get_or l.left k false ≡ true → get_or l.self k false ≡ true;
  on : (f : ℕ) → bits_set l.bits f ≡ (nat_lt f 16 && (get_or l.self (get_or l.domains.upgrades f 0) false && not (get_or l.left (get_or l.domains.upgrades f 0) false)));
}

abbrev pub decreases-loop-number : goal.decreases-loop-number
decreases-loop-number l = member_count l.left
