use Rattle.std.proofs.Common.{arith, sym, ◌∙◌}
use Rattle.lrc_nodes.specs.Kept.{StateBits}
use Rattle.lrc_nodes.proofs.KeptLemmas.{seen-long, drain-bit}
use Rattle.lrc_nodes.proofs.nodes.Nodes.is_draining_at.Goals as goal

pub contains-requires : goal.contains-requires
contains-requires c =
    let s = c.self.inside in
    let bits : StateBits = record { gone = s.gone; draining = s.draining; down = s.down; upgrading = s.upgrading } in
    let long = seen-long s.list.items bits c.args.self.now c.self.view_is in
    omega (arith, long, c.requires, c.self.invariant.few, c.self.invariant.states.draining.long)

pub returns : goal.returns
returns c = λ d.
    let s = c.self.inside in
    let bits : StateBits = record { gone = s.gone; draining = s.draining; down = s.down; upgrading = s.upgrading } in
    let long = seen-long s.list.items bits c.args.self.now c.self.view_is in
    c.contains.ensures ∙ sym (drain-bit s.list.items bits c.args.self.now c.self.view_is c.self.invariant.states c.args.position d (omega (arith, long, c.requires)))
