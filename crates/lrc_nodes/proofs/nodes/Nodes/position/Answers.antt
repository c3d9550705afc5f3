use Rattle.std.proofs.Common.{List, ap, sym, ◌∙◌}
use Rattle.lrc_code.specs.declared.numbers.NodeNo.{NodeNo}
use Rattle.lrc_topology.specs.Nodes.{place_in}
use Rattle.lrc_nodes.specs.Kept.{StateBits}
use Rattle.lrc_nodes.proofs.KeptLemmas.{seen-numbers}
use Rattle.lrc_nodes.proofs.nodes.Nodes.position.Goals as goal

pub returns : goal.returns
returns c =
    let s = c.self.inside in
    let bits : StateBits = record { gone = s.gone; draining = s.draining; down = s.down; upgrading = s.upgrading } in
    c.place.ensures ∙ ap (λ (ns : List NodeNo). place_in ns c.args.number) (c.self.invariant.found ∙ sym (seen-numbers s.list.items bits c.args.self.now c.self.view_is))
