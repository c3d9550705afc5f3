use Rattle.std.proofs.Common.{false, get_or}
use Rattle.lrc_slots.specs.BarredNodes.{ordinal_of}
use Rattle.lrc_slots.proofs.MarkLemmas.{get_or-replicate_same}
use Rattle.lrc_slots.proofs.barred_nodes.BarredNodes.new.Goals as goal

pub returns : goal.returns
returns c = λ nodes k d within. rw c.new.ensures (get_or-replicate_same 512 (ordinal_of nodes (get_or nodes k d)) false)
