use Rattle.std.proofs.Common.{List, Option, Some, unwrap_or, sym, ap, ◌∙◌}
use Rattle.lrc_topology.specs.declared.NodeInfo.{NodeInfo}
use Rattle.lrc_rules.specs.declared.kind.Kind.{Kind}
use Rattle.lrc_rules.specs.declared.kind.Kind.TheVariants.{Global}
use Rattle.lrc_rules.proofs.UrgencyLemmas.{needs-own}
use Rattle.lrc_book.specs.Books.{state_of}
use Rattle.lrc_book.specs.Looks.{kind_shown}
use Rattle.lrc_book.proofs.LookLemmas.{mask-absent, mask-there, mask-stored, mask-needs, kind-absent, kind-unneeded, kind-needed}
use Rattle.lrc_book.proofs.book.Book.kind.Goals as goal

pub repair_kind-requires : goal.repair_kind-requires
repair_kind-requires c =
    mask-stored (state_of c.args.self.now) c.store-store.result.now c.store-store.ensures.kept c.args.stripe c.in_ok-needing.needing c.in_ok-needing.ensures

pub returns-in_err-needing : goal.returns-in_err-needing
returns-in_err-needing c =
    let st = state_of c.args.self.now in
    let store = c.store-store.result.now in
    c.from_residual.ensures
    ∙ kind-absent store.topology st c.args.stripe c.args.fragment (mask-absent st store c.store-store.ensures.kept c.args.stripe c.in_err-needing.ensures)
    ∙ ap (λ (nodes : List NodeInfo). kind_shown nodes st c.args.stripe c.args.fragment) c.store-store.ensures.nodes

pub returns-then-not-contains : goal.returns-then-not-contains
returns-then-not-contains c =
    let st = state_of c.args.self.now in
    let store = c.store-store.result.now in
    let kept = c.store-store.ensures.kept in
    let s = c.args.stripe in
    let f = c.args.fragment in
    let mask = c.in_ok-needing.needing in
    kind-unneeded store.topology st s f (mask-there st store kept s mask c.in_ok-needing.ensures)
    (sym (mask-needs st store kept s mask c.in_ok-needing.ensures f) ∙ (sym c.contains.ensures ∙ c.if-not-contains.true))
    ∙ ap (λ (nodes : List NodeInfo). kind_shown nodes st s f) c.store-store.ensures.nodes

pub returns : goal.returns
returns c =
    let st = state_of c.args.self.now in
    let store = c.store-store.result.now in
    let kept = c.store-store.ensures.kept in
    let s = c.args.stripe in
    let f = c.args.fragment in
    let mask = c.in_ok-needing.needing in
    let needed = sym (mask-needs st store kept s mask c.in_ok-needing.ensures f) ∙ (sym c.contains.ensures ∙ c.if-not-contains.false) in
    ap Some (c.unwrap_or.ensures ∙ ap (λ (o : Option Kind). unwrap_or o Global) (c.repair_kind.ensures st kept (needs-own store.topology st s f needed)))
    ∙ kind-needed store.topology st s f (mask-there st store kept s mask c.in_ok-needing.ensures) needed
    ∙ ap (λ (nodes : List NodeInfo). kind_shown nodes st s f) c.store-store.ensures.nodes
