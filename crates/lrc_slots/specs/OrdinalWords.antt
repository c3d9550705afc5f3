-- Internal: no public clause reaches these definitions.
-- Sets of ordinals, 64 in a word, and the words that have one.
use Rattle.std.specs.Prelude.{◌≡◌, ℕ, ◌/◌, ◌<◌, Bool, true, false, ◌||◌, List, length, get_or, Option, Some, None}

-- exactly the words that are marked have an ordinal
pub record AreOrdinalWords (ordinals words : List Bool) : Type 0 where
  pub low : length ordinals ≡ 512
  pub few : length words ≡ 64
  pub covered : (ordinal : ℕ) → get_or ordinals ordinal false ≡ true → get_or words (ordinal / 64) false ≡ true
  pub filled : (word : ℕ) → get_or words word false ≡ true → (ordinal : ℕ) × (ordinal / 64 ≡ word) × (get_or ordinals ordinal false ≡ true)

-- `k` is the first number that is in `xs` and in neither of the other two
pub record IsFirstOutsideBoth (xs ys zs : List Bool) (k : ℕ) : Type 0 where
  pub within : k < length xs
  pub has : get_or xs k false ≡ true
  pub lacks : (get_or ys k false || get_or zs k false) ≡ false
  pub first : (j : ℕ) → j < k → get_or xs j false ≡ true → (get_or ys j false || get_or zs j false) ≡ true

-- what a search for such a number returns
abbrev pub FindsOutsideBoth : List Bool → List Bool → List Bool → Option ℕ → Type 0
FindsOutsideBoth xs ys zs None = (j : ℕ) → get_or xs j false ≡ true → (get_or ys j false || get_or zs j false) ≡ true
FindsOutsideBoth xs ys zs (Some k) = IsFirstOutsideBoth xs ys zs k
