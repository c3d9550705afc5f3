-- What the fragments of a stripe hold at one position of their bytes, and which of them determine others.
use Rattle.std.specs.Prelude.{◌≡◌, ◌≢◌, ℕ, zero, suc, ◌+◌, ◌-◌, ◌*◌, ◌<◌, ◌≤◌, if◌then◌else◌, nat_lt, nat_eq, not, IsTrue, IsFalse, List, [], ◌∷◌, ◌++◌, length, get_or}
use Rattle.lrc_code.specs.declared.codes.Code.{Code}
use Rattle.lrc_code.specs.declared.codes.Code.TheVariants.{Wide, Narrow}
use Rattle.lrc_code.specs.Codes.{group_size, data_count, fragment_count}
use Rattle.lrc_code.specs.Losses.{FragmentSet, size_of, joined}
use Rattle.lrc_field.specs.Field.{plus, times}

-- a byte of each fragment, by fragment number
abbrev pub Bytes : Type 0
Bytes = ℕ → ℕ

-- the data fragments, in ascending order
abbrev pub data_of : Code → List ℕ
data_of Wide = 0 ∷ 1 ∷ 2 ∷ 3 ∷ 4 ∷ 5 ∷ 6 ∷ 7 ∷ 8 ∷ 9 ∷ 10 ∷ 11 ∷ []
data_of Narrow = 0 ∷ 1 ∷ 2 ∷ 3 ∷ 4 ∷ 5 ∷ []

-- the parities, in ascending order
abbrev pub parities : Code → List ℕ
parities Wide = 12 ∷ 13 ∷ 14 ∷ 15 ∷ []
parities Narrow = 6 ∷ 7 ∷ 8 ∷ 9 ∷ []

-- all fragments, in ascending order
abbrev pub numbers_of : Code → List ℕ
numbers_of code = data_of code ++ parities code

-- the factor of a data fragment in the first global parity: 1, 2, 3 and so on in group A; 16, 32, 48 and so on in
-- group B
abbrev pub factor : Code → ℕ → ℕ
factor code d = if nat_lt d (group_size code) then d + 1 else 16 * ((d + 1) - group_size code)

-- the coefficient of a data fragment in each of the four parities: 1 in the local parity of its group and 0 in the
-- other, its factor, and the square of its factor
abbrev pub in_parity : Code → ℕ → ℕ → ℕ
in_parity code zero d = if nat_lt d (group_size code) then 1 else 0
in_parity code (suc zero) d = if nat_lt d (group_size code) then 0 else 1
in_parity code (suc (suc zero)) d = factor code d
in_parity code (suc (suc (suc j))) d = times (factor code d) (factor code d)

-- the generator matrix: the coefficient of a data fragment in a fragment
abbrev pub generator : Code → ℕ → ℕ → ℕ
generator code f d = if nat_lt f (data_count code) then (if nat_eq d f then 1 else 0) else in_parity code (f - data_count code) d

-- the row of a fragment in the generator matrix, with twelve columns for either code
pub record IsRow (code : Code) (f : ℕ) (row : List ℕ) : Type 0 where
  pub long : length row ≡ 12
  pub entries : (d : ℕ) → d < data_count code → get_or row d 0 ≡ generator code f d
  pub rest : (d : ℕ) → data_count code ≤ d → get_or row d 0 ≡ 0

-- the sum of the bytes of some fragments, each times its coefficient
abbrev pub sum_of : (ℕ → ℕ) → Bytes → List ℕ → ℕ
sum_of coefficient v [] = 0
sum_of coefficient v (f ∷ fs) = plus (times (coefficient f) (v f)) (sum_of coefficient v fs)

-- these are bytes of a stripe: each parity is the sum of the data, each times its coefficient in the parity
pub record IsStripe (code : Code) (v : Bytes) : Type 0 where
  pub bytes : (f : ℕ) → v f < 256
  pub encoded : (j : ℕ) → j < 4 → v (data_count code + j) ≡ sum_of (in_parity code j) v (data_of code)

-- each fragment is the sum of the data, each times its coefficient in the fragment's row
pub record IsOfRows (code : Code) (v : Bytes) : Type 0 where
  pub bytes : (f : ℕ) → v f < 256
  pub encoded : (f : ℕ) → f < fragment_count code → v f ≡ sum_of (generator code f) v (data_of code)

-- the bytes of the known fragments determine that of another: two stripes that have the former in common have the
-- latter too
abbrev pub Determines : Code → FragmentSet → ℕ → Type 0
Determines code known f =
    (v w : Bytes) → IsStripe code v → IsStripe code w → ((g : ℕ) → g < fragment_count code → IsTrue (known g) → v g ≡ w g) → v f ≡ w f

-- the fragments that are not in the set
abbrev pub outside : FragmentSet → FragmentSet
outside m f = not (m f)

-- the fragments that are left determine all
abbrev pub IsDecodable : Code → FragmentSet → Type 0
IsDecodable code lost = (f : ℕ) → f < fragment_count code → Determines code (outside lost) f

-- two stripes that have all fragments outside of the set in common, and differ in another
pub record AreAlikeOutside (code : Code) (lost : FragmentSet) (v w : Bytes) : Type 0 where
  pub first : IsStripe code v
  pub second : IsStripe code w
  pub common : (g : ℕ) → g < fragment_count code → IsTrue (outside lost g) → v g ≡ w g
  pub fragment : ℕ
  pub within : fragment < fragment_count code
  pub differ : v fragment ≢ w fragment

-- the fragments that are left determine all, also after any `t` further losses
abbrev pub StaysDecodable : Code → FragmentSet → ℕ → Type 0
StaysDecodable code m t =
    (more : FragmentSet) → ((f : ℕ) → f < fragment_count code → IsTrue (more f) → IsFalse (m f)) → size_of code more ≡ t → IsDecodable code (joined m more)

-- further losses after which the fragments that are left no longer determine all
pub record AreTooMany (code : Code) (m more : FragmentSet) : Type 0 where
  pub further : (f : ℕ) → f < fragment_count code → IsTrue (more f) → IsFalse (m f)
  pub undecodable : ¬ IsDecodable code (joined m more)

-- the greatest number of further losses after which the fragments that are left determine all, whichever are lost
pub record IsDecodableMargin (code : Code) (m : FragmentSet) (t : ℕ) : Type 0 where
  pub decodable : IsDecodable code m
  pub left : t + size_of code m ≤ fragment_count code
  pub withstood : StaysDecodable code m t
  pub greatest : (u : ℕ) → u + size_of code m ≤ fragment_count code → StaysDecodable code m u → u ≤ t
