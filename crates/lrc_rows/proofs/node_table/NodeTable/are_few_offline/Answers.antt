use Rattle.std.proofs.Common.{is_none, true, ◌+◌, ◌≡◌, map, Bool, sym, ap, ◌∙◌, arith}
use Rattle.lrc_code.specs.declared.numbers.StripeNo.{StripeNo}
use Rattle.lrc_nodes.specs.States.{is_node_offline}
use Rattle.lrc_homes.proofs.MaskLemmas.{is_none-answer}
use Rattle.lrc_rows.proofs.ShortLemmas.{few-on_several, few-bits, none-found}
use Rattle.lrc_rows.proofs.node_table.NodeTable.are_few_offline.Goals as goal

pub returns-in-Some : goal.returns-in-Some
returns-in-Some c = λ few s.
    let states = c.self.inside.nodes in
    let none : is_none c.first_offline_from-in-Some.result ≡ true = is_none-answer c.first_offline_from-in-Some.result c.is_none.result c.is_none.ensures ∙ few in
    ap (λ (f : StripeNo → Bool). f s)
    (sym (few-on_several c.self.inside.nodes c.self.inside.stripes.items c.args.self.now c.self.view_is c.self.invariant.apart
    (few-bits states c.in-Some.position (λ i below. c.in-Some.ensures.first i (omega arith) below)
    (λ i above. none-found (map is_node_offline states) (c.in-Some.position + 1) c.first_offline_from-in-Some.result none c.first_offline_from-in-Some.ensures i (omega (arith, above))))))

pub returns-in-None : goal.returns-in-None
returns-in-None c = λ few s.
    ap (λ (f : StripeNo → Bool). f s)
    (sym (few-on_several c.self.inside.nodes c.self.inside.stripes.items c.args.self.now c.self.view_is c.self.invariant.apart
    (few-bits c.self.inside.nodes 0 (λ i below. c.in-None.ensures i (omega arith)) (λ i above. c.in-None.ensures i (omega arith)))))
