use Rattle.std.proofs.Common.{◌≡◌, ◌+◌, length}
use Rattle.lrc_store.proofs.store.Store.tick_reply.Given as goal

-- those that were counted, and those that are left
abbrev pub invariant-loop-lease : goal.invariant-loop-lease
invariant-loop-lease l = l.ended + length l._lease-iterator ≡ length l.initial._lease-iterator
