-- An `OwnedFeed` that owns an end is a `Loose` of the same fields, and one that owns none is made of nothing. Assumes `Logic`.
use Rattle.std.proofs.Common.{[]}
use mir.Syntax.{impl, tnil, dnil}
use denote.RattleType.{RattleType}
use denote.Signature.{Slot, plain}
use Rattle.std.specs.Prelude.{Some}
use Rattle.std.proofs.alloc.Calls.{Al}
use Rattle.std.specs.contracts.alloc.Global as Heap
use Rattle.std.specs.contracts.impls.GlobalAllocator.TheImpl.{ghosts, dict}
use Rattle.std.proofs.alloc.Global.TheLaws as heap
use Rattle.lrc_feed.specs.contracts.end.FeedEnd as End
use Rattle.lrc_embed.specs.contracts.owned_feed.OwnedFeed as Owned
use Rattle.lrc_embed.proofs.Values.{Loose}

abbrev pub heap_al : Al
heap_al = record { row = Heap.the_row; laws = heap.the_row_laws; g = ghosts; d = dict; drops = impl [] tnil dnil }

abbrev pub TheLoose : RattleType
TheLoose = Loose End.the_row Heap.the_row heap.the_row_laws ghosts

abbrev pub TheOwned : RattleType
TheOwned = Owned.the_row

abbrev pub FromLoose : Slot 0
FromLoose = plain (λ _. TheLoose)

abbrev pub FromOwned : Slot 0
FromOwned = plain (λ _. TheOwned)

abbrev pub FromHeap : Slot 0
FromHeap = plain (λ _. Heap.the_row)

abbrev pub owned_of : TheLoose.Denot → TheOwned.Denot
owned_of l = record { at = l.at; alloc = l.alloc; end = Some l.value }
