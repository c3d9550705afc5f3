-- How a fragment is rebuilt from others.
use Rattle.std.specs.Prelude.{◌≡◌, ℕ, ◌<◌, ◌≤◌, not, ◌&&◌, nat_eq, IsTrue, IsFalse, List, replicate, set}
use Rattle.lrc_code.specs.declared.codes.Code.{Code}
use Rattle.lrc_code.specs.Codes.{fragment_count}
use Rattle.lrc_code.specs.Losses.{FragmentSet, size_of}
use Rattle.lrc_field.specs.Stripes.{Bytes, IsStripe, Determines, sum_of, numbers_of}

-- the fragments with a coefficient that is not 0: those that are read
abbrev pub read_by : (ℕ → ℕ) → FragmentSet
read_by coefficient g = not (nat_eq (coefficient g) 0)

-- the fragments that can be read to rebuild another: those that are not missing, but for the fragment itself
abbrev pub readable : FragmentSet → ℕ → FragmentSet
readable missing f g = not (missing g) && not (nat_eq g f)

-- A coefficient for each fragment: the fragment is the sum of the others, each times its coefficient. No fragment is
-- read that is missing, and no fewer determine it.
pub record IsRecipe (code : Code) (missing : FragmentSet) (f : ℕ) (coefficient : ℕ → ℕ) : Type 0 where
  pub within : (g : ℕ) → IsTrue (read_by coefficient g) → g < fragment_count code
  pub standing : (g : ℕ) → IsTrue (read_by coefficient g) → IsTrue (readable missing f g)
  pub exact : (v : Bytes) → IsStripe code v → v f ≡ sum_of coefficient v (numbers_of code)
  pub fewest : (known : FragmentSet) → ((g : ℕ) → g < fragment_count code → IsTrue (known g) → IsTrue (readable missing f g)) → Determines code known f → size_of code (read_by coefficient) ≤ size_of code known

-- Of two sets the first comes first by their fragments in rising order, or they are the same: for each fragment that only
-- the second has there is a lower one that only the first has.
abbrev pub ComesFirst : Code → FragmentSet → FragmentSet → Type 0
ComesFirst code s t = (g : ℕ) → g < fragment_count code → IsTrue (t g) → IsFalse (s g) → (h : ℕ) × (h < g) × IsTrue (s h) × IsFalse (t h)

-- The recipe that is told. Of the sets of fewest fragments that can be read and determine the fragment, it reads the one
-- that comes first by its fragments in rising order. Each coefficient is a byte.
pub record IsFirstRecipe (code : Code) (missing : FragmentSet) (f : ℕ) (coefficient : ℕ → ℕ) : Type 0 where
  pub recipe : IsRecipe code missing f coefficient
  pub bytes : (g : ℕ) → coefficient g < 256
  pub first : (known : FragmentSet) → ((g : ℕ) → g < fragment_count code → IsTrue (known g) → IsTrue (readable missing f g)) → Determines code known f →
      size_of code known ≡ size_of code (read_by coefficient) → ComesFirst code (read_by coefficient) known

-- the sixteen coefficients of a copy: 1 at the fragment itself, and 0 at the others
abbrev pub only_itself : ℕ → List ℕ
only_itself f = set (replicate 16 0) f 1
