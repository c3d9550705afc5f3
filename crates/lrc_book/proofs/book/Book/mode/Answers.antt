use Rattle.std.proofs.Common.{List, Some, option_map, sym, ap, ◌∙◌}
use Rattle.lrc_topology.specs.declared.NodeInfo.{NodeInfo}
use Rattle.lrc_nodes.specs.States.{state_at, online_in}
use Rattle.lrc_stripes.specs.Stored.{Stored}
use Rattle.lrc_rules.specs.States.{mode_shown}
use Rattle.lrc_book.specs.Books.{state_of}
use Rattle.lrc_store.proofs.NodeStateLemmas.{shown-there, shown-absent}
use Rattle.lrc_book.proofs.book.Book.mode.Goals as goal

pub returns-in_err-mode : goal.returns-in_err-mode
returns-in_err-mode c =
    let kept = c.store.ensures.kept in
    let st = state_of c.args.self.now in
    let n = c.args.node in
    let nodes = c.store.result.now.topology in
    c.from_residual.ensures
    ∙ (sym (shown-absent nodes st n (sym (ap (λ (t : Stored). option_map (λ x. x.mode) (state_at t.nodes n)) kept.stripes_is) ∙ (sym c.mode.ensures ∙ c.in_err-mode.was)))
    ∙ ap (λ (ns : List NodeInfo). mode_shown ns st n) c.store.ensures.nodes)

pub returns : goal.returns
returns c =
    let kept = c.store.ensures.kept in
    let st = state_of c.args.self.now in
    let n = c.args.node in
    let nodes = c.store.result.now.topology in
    let mode = c.in_ok-mode.mode in
    ap (λ b. Some (mode, b)) (c.is_online.ensures ∙ ap (λ (t : Stored). online_in t.nodes n) kept.stripes_is)
    ∙ (shown-there nodes st n mode (sym (ap (λ (t : Stored). option_map (λ x. x.mode) (state_at t.nodes n)) kept.stripes_is) ∙ (sym c.mode.ensures ∙ c.in_ok-mode.was))
    ∙ ap (λ (ns : List NodeInfo). mode_shown ns st n) c.store.ensures.nodes)
