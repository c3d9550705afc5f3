use Rattle.std.proofs.Common.{sym, ◌∙◌}
use Rattle.std.proofs.lemmas.Simd.{splat_is_map}
use Rattle.lrc_board.proofs.LoadLemmas.{loads-long, loads-zipped}
use Rattle.lrc_board.proofs.node_loads.NodeLoads.new.Goals as goal

pub invariant_of-result : goal.invariant_of-result
invariant_of-result c =
    let nodes = c.args.topology.now in
    let none = c.in_ok-loads.ensures ∙ splat_is_map nodes c.len.result 0 (sym c.len.ensures.value) in
    loads-long nodes (λ n. 0) c.in_ok-numbers.numbers.items c.in_ok-loads.loads.items c.in_ok-numbers.ensures none

pub returns : goal.returns
returns c =
    let nodes = c.args.topology.now in
    let none = c.in_ok-loads.ensures ∙ splat_is_map nodes c.len.result 0 (sym c.len.ensures.value) in
    loads-zipped nodes (λ n. 0) c.in_ok-numbers.numbers.items c.in_ok-loads.loads.items c.in_ok-numbers.ensures none
