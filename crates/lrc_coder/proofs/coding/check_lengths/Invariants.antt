use Rattle.std.proofs.Common.{ℕ, ◌<◌, ◌++◌, length}
use Rattle.lrc_coder.specs.Buffers.{read, written_buffers, bytes_at}
use Rattle.lrc_coder.specs.Coding.{AreEven}
use Rattle.lrc_coder.proofs.coding.check_lengths.Given as goal

-- the buffers so far
abbrev pub invariant-loop-number : goal.invariant-loop-number
invariant-loop-number l = record {
  even : AreEven (read l.data_fragments ++ written_buffers l.parities) l.number;
  bytes : (f i : ℕ) → f < l.number → f < length l.data_fragments → bytes_at (read l.data_fragments) i f < 256;
}
