use Rattle.std.proofs.Common.{◌≡◌, ◌++◌, length, take}
use Rattle.lrc_outputs.specs.Plays.{batches_text}
use Rattle.lrc_outputs.proofs.together.push_batches.Given as goal

abbrev pub invariant-loop-batch : goal.invariant-loop-batch
invariant-loop-batch l = record {
  room : length l.room ≡ 56320;
  printed : l.out.items ≡ l.initial.out.items ++ batches_text l.history (take l.batch-index l.batches);
}
