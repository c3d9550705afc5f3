-- What calls return of codes and recipes.
use Rattle.std.specs.Prelude.{◌≡◌, ◌≢◌, ℕ, ◌≤◌, ◌++◌, List, take, drop}
use Rattle.lrc_code.specs.declared.codes.Code.{Code}
use Rattle.lrc_code.specs.Codes.{fragment_count}
use Rattle.lrc_code.specs.Losses.{bits_set}
use Rattle.lrc_field.specs.Stripes.{Determines, outside}
use Rattle.lrc_coder.specs.Matrices.{IsMatrix, matrix_count}
use Rattle.lrc_records.specs.Shown.{encoded_code}

-- the code of this number
abbrev pub AtCode : ℕ → (Code → Type 0) → Type 0
AtCode number P = (code : Code) × (encoded_code code ≡ number) × P code

-- no code has this number
abbrev pub IsNoCode : ℕ → Type 0
IsNoCode number = (code : Code) → encoded_code code ≢ number

-- no code of this number has the fragment
abbrev pub IsNoFragment : ℕ → ℕ → Type 0
IsNoFragment number f = (code : Code) → encoded_code code ≡ number → fragment_count code ≤ f

-- what is not missing determines the fragment
abbrev pub IsDetermined : Code → ℕ → ℕ → Type 0
IsDetermined code missing f = Determines code (outside (bits_set missing)) f

-- the buffer starts with the generator matrix, and is as it was after it
abbrev pub HasMatrix : Code → List ℕ → List ℕ → Type 0
HasMatrix code before after =
    (matrix : List ℕ) × IsMatrix code matrix
    × (after ≡ take (matrix_count code) matrix ++ drop (matrix_count code) before)
