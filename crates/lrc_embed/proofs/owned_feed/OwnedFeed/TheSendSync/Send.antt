-- What an `OwnedFeed` owns says the same to every thread.
use mir.Raw.{raw}
use base.Fraction.{full_share}
use base.Shift.{Keyless}
use denote.Exit.{Exit, unchanged, leaves, hidden, under}
use denote.Memory.{lone}
use denote.RawPtr.{Ptr, block_ptr, null_ptr}
use denote.Struct.Struct.{exits_of}
use denote.Struct.Owning.{shape, fields, to}
use denote.Param.Send.{IsSend, AllSend, Quiet, owning_send, struct_send, part_keyless, sendable}
use Rattle.std.specs.Prelude.{Option, Some, None}
use Rattle.std.specs.declared.alloc.Global.{Global}
use Rattle.std.proofs.Crossing.{frees}
use Rattle.std.proofs.alloc.Global.TheSendSync as heap
use Rattle.lrc_feed.specs.Feeds.{FeedAt}
use Rattle.lrc_feed.specs.contracts.end.FeedEnd as End
use Rattle.lrc_feed.proofs.end.FeedEnd.TheSendSync.{the_send as end_send}
use Rattle.lrc_embed.specs.Handles.{owned_feed}
use Rattle.lrc_embed.specs.contracts.owned_feed.OwnedFeed.{the_row, the_type}

keyless : (a : Global) (p : Ptr) (end : Option FeedAt) → Keyless (owned_feed a p end)
keyless a p None = tt
keyless a null_ptr (Some b) = (tt, frees.frees a (raw (lone End.the_row.mir)) null_ptr)
keyless a (block_ptr b o) (Some x) = (part_keyless End.the_row end_send full_share x b o, frees.frees a (raw (lone End.the_row.mir)) (block_ptr b o))

quiet : {D X : Type 0} (to' : D → X) (e : Exit X) → Quiet e → Quiet (hidden (under to' e))
quiet to' unchanged q = λ x w. tt
quiet to' (leaves L l S s r₀) q = λ d. q (to' d)

pub send : IsSend the_row
send =
    let all : AllSend (fields the_type) = (search sendable, (heap.the_field_send, tt)) in
    owning_send the_type all (λ d. keyless d.alloc d.at d.end) (λ k. quiet (to the_type) (exits_of k (fields the_type)) ((struct_send (shape the_type) all).leaving k))
