use Rattle.std.proofs.Common.{◌≡◌, ℕ, ◌<◌, length, get_or, ◌≤◌}
use Rattle.lrc_field.specs.Field.{plus, times}
use Rattle.lrc_coder.proofs.products.add_by_table.Given as goal

-- the positions so far, and the rest as it was
abbrev pub invariant-loop-i : goal.invariant-loop-i
invariant-loop-i l = record {
  long : length l.sum ≡ length l.fn.sum;
  done : (k : ℕ) → k < l.i → get_or l.sum k 0 ≡ plus (get_or l.fn.sum k 0) (times l.coefficient (get_or l.source k 0));
  rest : (k : ℕ) → l.i ≤ k → get_or l.sum k 0 ≡ get_or l.fn.sum k 0;
}
