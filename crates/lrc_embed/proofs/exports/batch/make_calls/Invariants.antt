use Rattle.lrc_embed.specs.Batches.{AreMade}
use Rattle.lrc_embed.proofs.exports.batch.make_calls.Given as goal

abbrev pub invariant-loop-i : goal.invariant-loop-i
invariant-loop-i l = AreMade l.i l.initial.entries l.entries l.initial.book l.book
