use Rattle.std.proofs.Common.{rules, ◌≡◌, ℕ, sym, ap, ◌∙◌, arith}
use Rattle.std.specs.Prelude.{option_to_list}
use Rattle.lrc_code.proofs.NumbersLemmas.{equal_nodes}
use Rattle.lrc_images.specs.Rows.{rows_below, node_no, node_row}
use Rattle.lrc_images.proofs.RowLemmas.{rows-none, row-push, row-pass}
use Rattle.lrc_book.proofs.image.imaged_nodes.Goals as goal
use Rattle.lrc_book.proofs.image.imaged_nodes.Goals.{in-Some+in_ok-push, in_default}

pub loop-number-init : goal.loop-number-init
loop-number-init c = λ st kept. c.new-rows.ensures.items ∙ sym (rows-none node_no (λ n. option_to_list (node_row c.args.store.now.topology st n)))

pub loop-number-preserved : goal.loop-number-preserved
loop-number-preserved c = λ st kept.
    let nodes = c.args.store.now.topology in
    let number = c.loop-number.number in
    let node = c.unwrap-node.result in
    let is : node.value ≡ number = search rules in
    let at : node_no number ≡ node = equal_nodes (node_no number) node (sym is) in
    let row = sym (c.node_row_of.ensures st kept) in
    let items = c.loop-number.rows.items in
    let so_far = c.loop-number.invariant st kept in
    elim c.match-node_row_of.branch [
      | in-Some+in_ok-push w ↦
          ap (λ v. v.items) w.rows-is ∙ w.in_ok-push.ensures.items ∙ row-push node_no (node_row nodes st) number node items at so_far w.in-Some.row (row ∙ w.in-Some.is)
      | in_default w ↦ ap (λ v. v.items) w.rows-is ∙ row-pass node_no (node_row nodes st) number node items at so_far (row ∙ w.in_default.is)
    ]

pub returns-clause-value : goal.returns-clause-value
returns-clause-value c = λ st kept.
    let end : c.loop-number.number ≡ 65536 = omega (arith, c.loop-number.auto.number-end, c.loop-number-test.false) in
    c.loop-number.invariant st kept
    ∙ ap (λ (n : ℕ). rows_below node_no (λ n. option_to_list (node_row c.args.store.now.topology st n)) n) end
