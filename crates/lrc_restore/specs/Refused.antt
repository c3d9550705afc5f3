-- Which row of an image is refused, and why.
use Rattle.std.specs.Prelude.{◌≡◌, ℕ, Option, Some}
use Rattle.lrc_images.specs.declared.cause.Cause.{Cause}
use Rattle.lrc_restore.specs.declared.error.BeginError.{BeginError}
use Rattle.lrc_restore.specs.declared.error.BeginError.TheVariants.{Refused, OutOfMemory}

-- this row and this cause are the first; of want of memory nothing is said
abbrev pub IsRefusedFor : Option (ℕ × Cause) → BeginError → Type 0
IsRefusedFor first OutOfMemory = Unit {0}
IsRefusedFor first (Refused position cause) = first ≡ Some (position, cause)
