-- What calls over buffers return.
use Rattle.std.specs.Prelude.{◌≡◌, ◌≢◌, ℕ, ◌≤◌, List}
use Rattle.lrc_code.specs.declared.codes.Code.{Code}
use Rattle.lrc_code.specs.declared.numbers.Fragment.{Fragment}
use Rattle.lrc_code.specs.Codes.{fragment_count}
use Rattle.lrc_coder.specs.Buffers.{each_of}
use Rattle.lrc_coder.specs.Coding.{IsEncodeRefusal, IsRebuildRefusal}
use Rattle.lrc_coder.specs.declared.error.CodingError.TheVariants.{Length}
use Rattle.lrc_records.specs.Shown.{encoded_code}

-- a buffer has another length than the first
abbrev pub IsUneven : Code → List (List ℕ) → List (List ℕ) → Type 0
IsUneven code sources parities = (f : Fragment) × IsEncodeRefusal code sources parities (Length f)

-- no code of this number has all the fragments with a coefficient other than 0
abbrev pub IsOfNoCode : ℕ → List ℕ → Type 0
IsOfNoCode number coefficients =
    (code : Code) → encoded_code code ≡ number → (f : ℕ) × (fragment_count code ≤ f) × (each_of coefficients f ≢ 0)

-- a fragment that is read has another length than the result
abbrev pub IsReadUneven : Code → List ℕ → List (List ℕ) → ℕ → Type 0
IsReadUneven code coefficients fragments long =
    (f : Fragment) × IsRebuildRefusal code coefficients fragments long (Length f)
