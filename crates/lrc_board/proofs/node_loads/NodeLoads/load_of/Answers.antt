use Rattle.std.proofs.Common.{arith, ap, sym, ◌∙◌}
use Rattle.std.specs.List.{position}
use Rattle.lrc_code.specs.Numbers.{same_node}
use Rattle.lrc_board.proofs.LoadLemmas.{load-within, load-here, load-none}
use Rattle.lrc_board.proofs.node_loads.NodeLoads.load_of.Goals as goal

pub returns-in_err-position : goal.returns-in_err-position
returns-in_err-position c =
    let s = c.self.inside in
    let n = c.args.node in
    let none = sym (c.in_err-position.ensures ∙ ap (position (same_node n)) c.deref.ensures.value) in
    rw (← c.self.view_is) (c.from_residual.ensures ∙ load-none n s.numbers.items s.loads.items c.self.invariant none)

pub index-requires : goal.index-requires
index-requires c =
    let s = c.self.inside in
    let n = c.args.node in
    let is_at = sym (c.in_ok-position.ensures ∙ ap (position (same_node n)) c.deref.ensures.value) in
    let within = load-within n s.numbers.items s.loads.items c.self.invariant c.in_ok-position.position is_at in
    omega (arith, within)

pub returns : goal.returns
returns c =
    let s = c.self.inside in
    let n = c.args.node in
    let is_at = sym (c.in_ok-position.ensures ∙ ap (position (same_node n)) c.deref.ensures.value) in
    rw (← c.self.view_is) (load-here n s.numbers.items s.loads.items c.self.invariant c.in_ok-position.position c.index.result.now is_at c.index.ensures)
