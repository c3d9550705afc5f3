use Rattle.std.proofs.Common.{sym, ap, arith, length, ◌∙◌}
use Rattle.lrc_rules.specs.States.{load}
use Rattle.lrc_book.specs.Books.{state_of}
use Rattle.lrc_board.proofs.LoadLemmas.{numbers-are, loads-long, loads-zipped}
use Rattle.lrc_board.proofs.node_loads.NodeLoads.copy_from.Goals as goal

pub copy_from_slice-requires : goal.copy_from_slice-requires
copy_from_slice-requires c =
    let s = c.self.inside in
    let nodes = c.args.book.now.nodes in
    let named = numbers-are nodes s.numbers.items s.loads.items c.self.invariant (rw (← c.self.view_is) at c.requires) in
    let long = loads-long nodes (load (state_of c.args.book.now)) s.numbers.items c.loads.result.now named c.loads.ensures in
    omega (arith, c.self.invariant, long)

pub invariant_of-self : goal.invariant_of-self
invariant_of-self c =
    let s = c.self.inside in
    let nodes = c.args.book.now.nodes in
    let named = numbers-are nodes s.numbers.items s.loads.items c.self.invariant (rw (← c.self.view_is) at c.requires) in
    loads-long nodes (load (state_of c.args.book.now)) s.numbers.items c.loads.result.now named c.loads.ensures
    ∙ ap length (sym c.copy_from_slice.ensures.items)

pub returns : goal.returns
returns c =
    let s = c.self.inside in
    let nodes = c.args.book.now.nodes in
    let named = numbers-are nodes s.numbers.items s.loads.items c.self.invariant (rw (← c.self.view_is) at c.requires) in
    loads-zipped nodes (load (state_of c.args.book.now)) s.numbers.items c.copy_from_slice.new.self.items named
    (c.copy_from_slice.ensures.items ∙ c.loads.ensures)
