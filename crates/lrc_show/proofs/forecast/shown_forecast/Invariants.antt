use Rattle.std.proofs.Common.{◌≡◌, ◌++◌, take, string_bytes}
use Rattle.std.specs.Prelude.{flat_map}
use Rattle.lrc_show.specs.Shown.{forecast_row}
use Rattle.lrc_show.proofs.forecast.shown_forecast.Given as goal

-- the rows of the stripes so far
abbrev pub invariant-loop-row : goal.invariant-loop-row
invariant-loop-row l = string_bytes l.out ≡ string_bytes l.initial.out ++ flat_map forecast_row (take l.row-index l.rows)
