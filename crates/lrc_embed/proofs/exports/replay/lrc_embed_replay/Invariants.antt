use Rattle.std.proofs.Common.{◌≡◌, None, take}
use Rattle.lrc_embed.specs.Replays.{IsReplay}
use Rattle.lrc_embed.proofs.exports.replay.lrc_embed_replay.Given as goal

abbrev pub invariant-loop-i : goal.invariant-loop-i
invariant-loop-i l = record {
  replayed : IsReplay (take l.i l.entries) l.initial.book.value l.book.value;
  empty : l.handle.owned.book ≡ None;
  unwritten : l.position ≡ l.initial.position;
}
