use Rattle.std.proofs.lemmas.Bool.Decides.{not_from_Decides}
use Rattle.lrc_topology.proofs.AnswerLemmas.{one_topology}
use Rattle.lrc_embed.proofs.exports.view.same_nodes.Goals as goal

pub returns-in-Ok-false-clause-different : goal.returns-in-Ok-false-clause-different
returns-in-Ok-false-clause-different c = λ _ over. not_from_Decides _ c.in-Ok-false.ensures c.in-Ok-false.field-0-test
    (one_topology c.args.nodes.now c.in-Ok.read c.args.topology.now c.in-Ok.ensures.ok over)
