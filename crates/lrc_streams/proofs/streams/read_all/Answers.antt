use Rattle.std.proofs.Common.{rules, ◌+◌}
use Rattle.lrc_streams.proofs.StreamLemmas.{ConsumesAtMost-more}
use Rattle.lrc_streams.proofs.streams.read_all.Goals as goal

pub returns-then-is_err-clause-most : goal.returns-then-is_err-clause-most
returns-then-is_err-clause-most g c = ConsumesAtMost-more _ _ _ c.loop-buf.bytes.items c.read.new.buf c.in-Ok.count (c.args.limit + 1) c.loop-buf.invariant.taken c.in-Ok.ensures.bytes.0 (search rules)

pub returns-clause-most : goal.returns-clause-most
returns-clause-most g c = record { bytes = c.loop-buf.bytes.items; few = c.loop-buf.invariant.few; taken = c.loop-buf.invariant.taken }
