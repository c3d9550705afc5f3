-- When opening returns which error.
use Rattle.std.specs.Prelude.{ℕ, ◌≤◌}
use Rattle.lrc_board.specs.declared.open_error.OpenError.{OpenError}
use Rattle.lrc_board.specs.declared.open_error.OpenError.TheVariants.{OutOfMemory, NoReader, BadCount}

-- BadCount is returned exactly for counts that are not 1 to 8
abbrev pub OpenFits : ℕ → OpenError → Type 0
OpenFits count OutOfMemory = (1 ≤ count) × (count ≤ 8)
OpenFits count NoReader = ⊥
OpenFits count BadCount = ¬ ((1 ≤ count) × (count ≤ 8))
