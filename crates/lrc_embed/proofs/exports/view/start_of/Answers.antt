use Rattle.std.proofs.Common.{List, sym, subst}
use Rattle.std.proofs.lemmas.Result.{err_from_is_err_and}
use Rattle.lrc_topology.specs.declared.NodeInfo.{NodeInfo}
use Rattle.lrc_topology.specs.Documents.{IsTopologyOf}
use Rattle.lrc_embed.proofs.exports.view.start_of.Goals as goal

pub returns-in_err-topology-clause-different : goal.returns-in_err-topology-clause-different
returns-in_err-topology-clause-different c =
    let p = err_from_is_err_and c.from_residual.result c.from_residual.ensures.1 in
    rw (p.1, p.2)
    (λ is over. c.in_err-topology.ensures.different is (subst (λ (ns : List NodeInfo). IsTopologyOf c.args.nodes.now ns) (sym c.topology.ensures) over))
