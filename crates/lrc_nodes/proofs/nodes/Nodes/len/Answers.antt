use Rattle.std.proofs.Common.{arith}
use Rattle.lrc_nodes.specs.Kept.{StateBits}
use Rattle.lrc_nodes.proofs.KeptLemmas.{seen-long}
use Rattle.lrc_nodes.proofs.nodes.Nodes.len.Goals as goal

pub returns : goal.returns
returns c =
    let s = c.self.inside in
    let bits : StateBits = record { gone = s.gone; draining = s.draining; down = s.down; upgrading = s.upgrading } in
    let long = seen-long s.list.items bits c.args.self.now c.self.view_is in
    omega (arith, long, c.len.ensures, s.list.ok.0)
