use Rattle.std.proofs.Common.{IsSome, List, ap, sym, subst, ◌∙◌}
use Rattle.lrc_code.specs.declared.numbers.NodeNo.{NodeNo}
use Rattle.lrc_topology.specs.Nodes.{place_in}
use Rattle.lrc_nodes.specs.Kept.{StateBits}
use Rattle.lrc_nodes.proofs.KeptLemmas.{seen-numbers, some-place}
use Rattle.lrc_nodes.proofs.nodes.Nodes.position_of.Goals as goal

pub place_of-requires : goal.place_of-requires
place_of-requires c =
    let s = c.self.inside in
    let bits : StateBits = record { gone = s.gone; draining = s.draining; down = s.down; upgrading = s.upgrading } in
    subst (λ (ns : List NodeNo). IsSome (place_in ns c.args.number)) (seen-numbers s.list.items bits c.args.self.now c.self.view_is ∙ sym c.self.invariant.found)
    (some-place c.args.self.now c.args.number c.requires)

pub returns : goal.returns
returns c =
    let s = c.self.inside in
    let bits : StateBits = record { gone = s.gone; draining = s.draining; down = s.down; upgrading = s.upgrading } in
    ap (λ (ns : List NodeNo). place_in ns c.args.number) (seen-numbers s.list.items bits c.args.self.now c.self.view_is ∙ sym c.self.invariant.found) ∙ c.place_of.ensures.value
