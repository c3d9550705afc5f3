-- Stripe numbers, and pairs of a stripe with a fragment or a level.
use Rattle.std.specs.Prelude.{ℕ, ◌%◌, Bool, ◌&&◌, ◌||◌, nat_lt}
use Rattle.lrc_code.specs.declared.numbers.StripeNo.{StripeNo}
use Rattle.lrc_code.specs.declared.numbers.Fragment.{Fragment}
use Rattle.lrc_code.specs.Numbers.{same_stripe}
use Rattle.lrc_terms.specs.declared.level.Level.{Level}
use Rattle.std.proofs.Common.{lit<}
use Rattle.std.proofs.lemmas.Nat.{mod_below}

-- the stripe of a number below 4,096
abbrev pub stripe_at : ℕ → StripeNo
stripe_at k = record { value = k % 4096; in_range = mod_below k 4096 (lit< tt) }

-- a stripe, and one of its fragments
abbrev pub StripeFragment : Type 0
StripeFragment = StripeNo × Fragment

-- the first pair comes before the second: by stripe number, then by fragment number
abbrev pub comes_before : StripeFragment → StripeFragment → Bool
comes_before p q = nat_lt p.0.value q.0.value || (same_stripe p.0 q.0 && nat_lt p.1.value q.1.value)

-- a stripe, and its level
abbrev pub StripeLevel : Type 0
StripeLevel = StripeNo × Level
