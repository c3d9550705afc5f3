-- What was read of a source, up to a limit.
use Rattle.std.specs.Prelude.{ℕ, ◌<◌, ◌⊎◌, List, length, Option}
use Rattle.std.specs.Io.KnownBytes.{Consumes, IsAtEnd}

-- these bytes were read first, and they are all that there were, or more than the limit
abbrev pub IsReadUpTo : ℕ → Option (List ℕ) → Option (List ℕ) → List ℕ → Type 0
IsReadUpTo limit old new bytes = Consumes old new bytes × (IsAtEnd new ⊎ (limit < length bytes))
