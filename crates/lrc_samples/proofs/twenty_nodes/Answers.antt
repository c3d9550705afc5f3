use Rattle.lrc_samples.proofs.TwentyLemmas.{reads_no_other, refuses_for_memory}
use Rattle.lrc_samples.proofs.twenty_nodes.Goals as goal

pub returns-clause-nodes : goal.returns-clause-nodes
returns-clause-nodes c = reads_no_other c.as_bytes.result.now c.as_bytes.ensures.value c.as_bytes.ensures.utf8 c.read.result c.read.ensures.ok

pub returns-clause-err : goal.returns-clause-err
returns-clause-err c = refuses_for_memory c.as_bytes.result.now c.as_bytes.ensures.value c.as_bytes.ensures.utf8 c.read.result c.read.ensures.refused
