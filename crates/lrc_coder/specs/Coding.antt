-- What is encoded and rebuilt, and which buffers are refused.
use Rattle.std.specs.Prelude.{◌≡◌, ◌≢◌, ℕ, ◌<◌, ◌≤◌, ◌⊎◌, List, length, ◌++◌, get_or, IsTrue}
use Rattle.lrc_code.specs.declared.codes.Code.{Code}
use Rattle.lrc_code.specs.Codes.{fragment_count, data_count}
use Rattle.lrc_code.specs.Losses.{FragmentSet}
use Rattle.lrc_field.specs.Stripes.{Bytes, IsStripe}
use Rattle.lrc_field.specs.Recipes.{IsRecipe, read_by, only_itself}
use Rattle.lrc_coder.specs.Buffers.{buffer_at, bytes_at, each_of, AreLong, IsSum}
use Rattle.lrc_coder.specs.declared.error.CodingError.{CodingError}
use Rattle.lrc_coder.specs.declared.error.CodingError.TheVariants.{Count, NoFragment, Length}

-- the buffers are as many as the data fragments and the parities of a stripe
abbrev pub AreCounted : Code → List (List ℕ) → List (List ℕ) → Type 0
AreCounted code sources parities = (length sources ≡ data_count code) × (length parities ≡ 4)

-- each of the first `n` buffers is as long as the first
abbrev pub AreEven : List (List ℕ) → ℕ → Type 0
AreEven buffers n = (f : ℕ) → f < n → length (buffer_at buffers f) ≡ length (buffer_at buffers 0)

-- why buffers are not encoded: their number, or else the first one of another length than the first
abbrev pub IsEncodeRefusal : Code → List (List ℕ) → List (List ℕ) → CodingError → Type 0
IsEncodeRefusal code sources parities Count = AreCounted code sources parities → ⊥
IsEncodeRefusal code sources parities (NoFragment f) = ⊥
IsEncodeRefusal code sources parities (Length f) =
    AreCounted code sources parities × (f.value < fragment_count code)
    × (length (buffer_at (sources ++ parities) f.value) ≢ length (buffer_at sources 0)) × AreEven (sources ++ parities) f.value

-- of the fragments below a number the code has those with a coefficient other than 0
abbrev pub AreOwn : Code → List ℕ → ℕ → Type 0
AreOwn code coefficients n = (f : ℕ) → fragment_count code ≤ f → f < n → each_of coefficients f ≡ 0

-- the first fragment with a coefficient other than 0 that the code lacks
abbrev pub IsForeign : Code → List ℕ → ℕ → Type 0
IsForeign code coefficients f = (fragment_count code ≤ f) × (each_of coefficients f ≢ 0) × AreOwn code coefficients f

-- why a fragment is not rebuilt: the first one that would be read and the code lacks; or else the number of buffers; or
-- else the first one that is read and not as long as the result
abbrev pub IsRebuildRefusal : Code → List ℕ → List (List ℕ) → ℕ → CodingError → Type 0
IsRebuildRefusal code coefficients fragments long (NoFragment f) = IsForeign code coefficients f.value
IsRebuildRefusal code coefficients fragments long Count = AreOwn code coefficients 16 × (length fragments ≢ fragment_count code)
IsRebuildRefusal code coefficients fragments long (Length f) =
    AreOwn code coefficients 16 × (length fragments ≡ fragment_count code) × (f.value < fragment_count code) × (each_of coefficients f.value ≢ 0)
    × (length (buffer_at fragments f.value) ≢ long) × AreLong coefficients fragments f.value long

-- The parities were made of the data: at each position the bytes are a stripe, in which the data are what they were.
pub record IsEncoded (code : Code) (sources before after : List (List ℕ)) : Type 0 where
  pub counted : AreCounted code sources before
  pub even : AreEven (sources ++ before) (fragment_count code)
  pub stripe : (i : ℕ) → i < length (buffer_at sources 0) → IsStripe code (bytes_at (sources ++ after) i)

-- the coefficients give a fragment of the code: they are a recipe of it, whichever are missing, or they copy it
abbrev pub Gives : Code → ℕ → List ℕ → Type 0
Gives code f coefficients = ((missing : FragmentSet) × IsRecipe code missing f (each_of coefficients)) ⊎ ((f < fragment_count code) × (coefficients ≡ only_itself f))

-- At each position there is the sum of the fragments' bytes, each times its coefficient. If the coefficients give a fragment, and what is read are bytes of a stripe, then that is the fragment's byte. A copy is what is read, whatever it is.
pub record IsRebuilt (code : Code) (coefficients : List ℕ) (fragments : List (List ℕ)) (before after : List ℕ) : Type 0 where
  pub own : AreOwn code coefficients 16
  pub counted : length fragments ≡ fragment_count code
  pub lengths : AreLong coefficients fragments (fragment_count code) (length before)
  pub sum : IsSum coefficients fragments (fragment_count code) before after
  pub exact : (f i : ℕ) (v : Bytes) → Gives code f coefficients → IsStripe code v →
      ((g : ℕ) → IsTrue (read_by (each_of coefficients) g) → bytes_at fragments i g ≡ v g) → i < length before → get_or after i 0 ≡ v f
  pub copied : (f i : ℕ) → f < fragment_count code → coefficients ≡ only_itself f → i < length before → get_or after i 0 ≡ bytes_at fragments i f
