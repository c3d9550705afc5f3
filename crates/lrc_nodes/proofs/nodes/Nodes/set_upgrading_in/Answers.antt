use Rattle.std.proofs.Common.{◌<◌, [], List, length, arith, ap, sym, subst, ◌∙◌}
use Rattle.std.proofs.lemmas.List.{get_or_default}
use Rattle.lrc_nodes.specs.declared.node_state.NodeState.{NodeState}
use Rattle.lrc_nodes.specs.States.{with_upgrading_in}
use Rattle.lrc_nodes.specs.Kept.{StateBits, AreUp, states_from}
use Rattle.lrc_nodes.proofs.SetLemmas.{flags-upgrading}
use Rattle.lrc_nodes.proofs.KeptLemmas.{turned-in, kept-upgrading, upgrading-turned}
use Rattle.lrc_nodes.proofs.nodes.Nodes.set_upgrading_in.Goals as goal

pub invariant_of-self : goal.invariant_of-self
invariant_of-self c =
    let s = c.self.inside in
    let bits : StateBits = record { gone = s.gone; draining = s.draining; down = s.down; upgrading = s.upgrading } in
    let is = c.self.invariant in
    let low : c.args.domain.value < length s.domains.items = let many = is.grouped.many in omega (arith, many) in
    let positions = c.index-positions.ensures ∙ get_or_default s.domains.items c.args.domain.value c.index-positions.result.now [] low in
    kept-upgrading s.list.items s.domains.items is.grouped c.args.domain (omega arith) c.index-positions.result.now positions bits s.offline s.index s.up.items is c.args.is_upgrading
    c.mark_all.new.set c.mark_all-2.new.set c.insert_all.new.self c.insert_all-2.new.self
    c.mark_all.ensures.same c.mark_all.ensures.each c.mark_all-2.ensures.same c.mark_all-2.ensures.each
    c.insert_all.ensures.same c.insert_all.ensures.either c.insert_all-2.ensures.same c.insert_all-2.ensures.either
    (subst (λ (xs : List NodeState). AreUp xs s.up.items)
    (sym (upgrading-turned s.list.items bits c.args.domain c.args.is_upgrading c.mark_all.new.set
    (turned-in s.list.items s.domains.items is.grouped c.args.domain (omega arith) c.index-positions.result.now positions s.upgrading c.mark_all.new.set c.args.is_upgrading c.mark_all.ensures.each)))
    (flags-upgrading (states_from 0 s.list.items bits) c.args.domain c.args.is_upgrading s.up.items is.flagged))

pub returns : goal.returns
returns c =
    let s = c.self.inside in
    let bits : StateBits = record { gone = s.gone; draining = s.draining; down = s.down; upgrading = s.upgrading } in
    let is = c.self.invariant in
    let low : c.args.domain.value < length s.domains.items = let many = is.grouped.many in omega (arith, many) in
    let positions = c.index-positions.ensures ∙ get_or_default s.domains.items c.args.domain.value c.index-positions.result.now [] low in
    upgrading-turned s.list.items bits c.args.domain c.args.is_upgrading c.mark_all.new.set
    (turned-in s.list.items s.domains.items is.grouped c.args.domain (omega arith) c.index-positions.result.now positions s.upgrading c.mark_all.new.set c.args.is_upgrading c.mark_all.ensures.each)
    ∙ ap (λ (xs : List NodeState). with_upgrading_in xs c.args.domain c.args.is_upgrading) c.self.view_is
