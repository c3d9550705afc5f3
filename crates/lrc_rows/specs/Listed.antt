-- The rows of a store, and the code and the homes that a row shows.
use Rattle.std.specs.Prelude.{Bool, List, get_or, Option, Some, None}
use Rattle.lrc_code.specs.declared.numbers.StripeNo.{StripeNo}
use Rattle.lrc_code.specs.declared.codes.Code.{Code}
use Rattle.lrc_code.specs.declared.codes.Code.TheVariants.{Wide}
use Rattle.lrc_rows.specs.declared.row.Row.{Row}
use Rattle.lrc_terms.specs.Levels.{Homes}

-- the rows by stripe number, and the set of the upgrade domains whose nodes are upgrading
pub record RowTable : Type 0 where
  pub list : List (Option Row)
  pub upgrading : List Bool

-- the row of a stripe
abbrev pub rows_in : List (Option Row) → StripeNo → Option Row
rows_in rows s = get_or rows s.value None

-- the seats of a row's fragments
abbrev pub row_homes : Option Row → Homes
row_homes None f = None
row_homes (Some r) f = get_or r.homes f None

-- the code of a row; a stripe that does not exist counts as Wide
abbrev pub row_code : Option Row → Code
row_code None = Wide
row_code (Some r) = r.losses.code
