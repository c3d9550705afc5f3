use Rattle.lrc_forecast.proofs.ExampleLemmas.{node, eleven_nodes, three_entries, are-nodes, is-legal, first-safe, second-safe, both-unsafe}
use Rattle.lrc_forecast.proofs.laws.safe_alone_is_not_safe_together.Goals as goal

pub returns : goal.returns
returns c = λ outage. (eleven_nodes, three_entries, node 0, node 1, are-nodes, is-legal, first-safe outage, second-safe outage, both-unsafe outage)
