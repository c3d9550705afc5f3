use Rattle.lrc_forecast.proofs.SetLemmas.{none-long, none-in}
use Rattle.lrc_forecast.proofs.hits.set_of.Goals as goal

pub loop-node-init : goal.loop-node-init
loop-node-init c = record {
  long = none-long 65536 c.new-set.result c.new-set.ensures;
  each = λ n. none-in 65536 c.new-set.result c.new-set.ensures n.value;
}
