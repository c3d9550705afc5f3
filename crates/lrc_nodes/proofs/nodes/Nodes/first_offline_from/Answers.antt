use Rattle.lrc_nodes.specs.Kept.{StateBits}
use Rattle.lrc_nodes.proofs.KeptLemmas.{seen-found}
use Rattle.lrc_nodes.proofs.nodes.Nodes.first_offline_from.Goals as goal

pub returns : goal.returns
returns c =
    let s = c.self.inside in
    let bits : StateBits = record { gone = s.gone; draining = s.draining; down = s.down; upgrading = s.upgrading } in
    seen-found s.list.items bits c.args.self.now c.self.view_is s.offline c.self.invariant.off c.self.invariant.derived c.args.position c.first_from.result c.first_from.ensures
