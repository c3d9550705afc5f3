use Rattle.lrc_sessions.proofs.CallLemmas.{called_none}
use Rattle.lrc_sessions.proofs.worker.no_calls.Goals as goal

pub returns-clause-made : goal.returns-clause-made
returns-clause-made g c = called_none g.N.ViewNaming.topology c.args.session.now 0 c.front.ensures.legal
