-- What was read of a source and written to a sink, and when one of them has failed.
use Rattle.std.specs.Prelude.{ℕ, ◌≤◌, Bool, true, false, ◌&&◌, nat_lt, nat_eq, List, length, take, Option, Result, Ok, Err}
use Rattle.std.specs.Io.KnownBytes.{Consumes, Appends}
use Rattle.lrc_streams.specs.declared.streams.RunFault.{RunFault}
use Rattle.lrc_streams.specs.declared.streams.RunFault.TheVariants.{Read, Write}

-- a write failed: it returned an error, or took no byte of some
abbrev pub is_failed_write : {E : Type 0} → Result ℕ E → List ℕ → Bool
is_failed_write (Ok count) bytes = nat_eq count 0 && nat_lt 0 (length bytes)
is_failed_write (Err e) bytes = true

-- the call ended with the fault of a read
abbrev pub is_read_fault : {X : Type 0} → Result X RunFault → Bool
is_read_fault (Err Read) = true
is_read_fault _ = false

-- the call ended with the fault of a write
abbrev pub is_write_fault : {X : Type 0} → Result X RunFault → Bool
is_write_fault (Err Write) = true
is_write_fault _ = false

-- at most `most` bytes were read
pub record ConsumesAtMost (most : ℕ) (old new : Option (List ℕ)) : Type 0 where
  pub bytes : List ℕ
  pub few : length bytes ≤ most
  pub taken : Consumes old new bytes

-- a number of the bytes were written, from the first on, and no more
pub record AppendsPart (old new : Option (List ℕ)) (bytes : List ℕ) : Type 0 where
  pub count : ℕ
  pub within : count ≤ length bytes
  pub written : Appends old new (take count bytes)
