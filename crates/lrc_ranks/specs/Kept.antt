-- Internal: no public clause reaches these definitions.
-- The stored form of the sets: the blocks that have a member, and the one rank of each stripe.
use Rattle.std.specs.Prelude.{◌≡◌, ℕ, ◌/◌, Bool, true, false, List, length, get_or}
use Rattle.lrc_code.specs.declared.numbers.StripeNo.{StripeNo}
use Rattle.lrc_ranks.specs.Sets.{has, at_rank}

-- the blocks of 64 numbers with a member of the set are marked, and no others
pub record AreMarked (bits marks : List Bool) : Type 0 where
  pub long : length marks ≡ 64
  pub covered : (s : StripeNo) → has bits s ≡ true → get_or marks (s.value / 64) false ≡ true
  pub needed : (index : ℕ) → get_or marks index false ≡ true → (s : StripeNo) × (s.value / 64 ≡ index) × (has bits s ≡ true)

-- no stripe is at two ranks
abbrev pub AreAtOneRank : List (List Bool) → Type 0
AreAtOneRank sets = (j k : ℕ) (s : StripeNo) → at_rank sets j s ≡ true → at_rank sets k s ≡ true → j ≡ k
