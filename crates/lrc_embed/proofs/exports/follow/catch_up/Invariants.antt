use Rattle.lrc_embed.specs.Published.{IsAt, HasFollowed}
use Rattle.lrc_embed.proofs.exports.follow.catch_up.Given as goal

abbrev pub invariant-loop : goal.invariant-loop
invariant-loop l = record {
  followed : HasFollowed l.fn.book l.fn.end l.book l.end;
  there : IsAt l.book l.end;
}
