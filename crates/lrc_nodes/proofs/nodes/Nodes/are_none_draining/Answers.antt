use Rattle.lrc_nodes.specs.Kept.{StateBits}
use Rattle.lrc_nodes.proofs.KeptLemmas.{seen-draining}
use Rattle.lrc_nodes.proofs.nodes.Nodes.are_none_draining.Goals as goal

pub returns : goal.returns
returns c =
    let s = c.self.inside in
    let bits : StateBits = record { gone = s.gone; draining = s.draining; down = s.down; upgrading = s.upgrading } in
    let none = seen-draining s.list.items bits c.args.self.now c.self.view_is c.self.invariant.states in
    (λ empty. none.0 (c.is_empty.ensures.0 empty), λ all. c.is_empty.ensures.1 (none.1 all))
