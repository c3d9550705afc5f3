use Rattle.std.proofs.Common.{◌≡◌, ℕ, ◌<◌, length, map}
use Rattle.lrc_field.specs.Stripes.{data_of, in_parity, sum_of}
use Rattle.lrc_coder.specs.Buffers.{read, written_buffers, buffer_addresses, buffer_at, bytes_at}
use Rattle.lrc_coder.proofs.coding.encode.Given as goal

-- the parities so far, all as long as they were
abbrev pub invariant-loop-number : goal.invariant-loop-number
invariant-loop-number l = record {
  places : buffer_addresses l.parities ≡ buffer_addresses l.fn.parities;
  lengths : map length (written_buffers l.parities) ≡ map length (written_buffers l.fn.parities);
  bytes : (j i : ℕ) → j < l.number → bytes_at (written_buffers l.parities) i j < 256;
  done : (j : ℕ) → j < l.number → (i : ℕ) → i < length (buffer_at (read l.data_fragments) 0) → bytes_at (written_buffers l.parities) i j ≡ sum_of (in_parity l.code j) (bytes_at (read l.data_fragments) i) (data_of l.code);
}
