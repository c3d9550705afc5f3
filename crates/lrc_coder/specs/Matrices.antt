-- The generator matrix as one list.
use Rattle.std.specs.Prelude.{◌≡◌, ℕ, ◌*◌, ◌/◌, ◌%◌, ◌<◌, ◌≤◌, List, length, get_or}
use Rattle.lrc_code.specs.declared.codes.Code.{Code}
use Rattle.lrc_code.specs.Codes.{fragment_count, data_count}
use Rattle.lrc_field.specs.Stripes.{generator}

-- the number of coefficients
abbrev pub matrix_count : Code → ℕ
matrix_count code = fragment_count code * data_count code

-- row by row, with a column for each data fragment, and 0 after the last row
pub record IsMatrix (code : Code) (matrix : List ℕ) : Type 0 where
  pub long : length matrix ≡ 192
  pub entries : (i : ℕ) → i < matrix_count code → get_or matrix i 0 ≡ generator code (i / data_count code) (i % data_count code)
  pub rest : (i : ℕ) → matrix_count code ≤ i → get_or matrix i 0 ≡ 0
