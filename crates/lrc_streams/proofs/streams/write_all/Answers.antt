use Rattle.std.proofs.Common.{◌∙◌}
use Rattle.lrc_streams.proofs.StreamLemmas.{Appends-more, count_within, calm_more}
use Rattle.lrc_streams.proofs.streams.write_all.Goals as goal

pub loop-at-preserved : goal.loop-at-preserved
loop-at-preserved g c = record {
  written = Appends-more _ _ _ c.args.bytes.now c.loop-at.at c.in-Ok.count c.loop-at.invariant.written c.in-Ok.ensures.bytes;
  within = count_within c.args.bytes.now c.loop-at.at c.in-Ok.count c.loop-at.invariant.within c.in-Ok.ensures.bound;
  calm = calm_more _ _ _ c.in-Ok.count c.in-Ok.ensures.failed c.in-Ok.count-test.1 ∙ c.loop-at.invariant.calm;
}
