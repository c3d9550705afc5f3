use Rattle.std.proofs.Common.{◌++◌, List, ℕ, get_or, string_bytes, sym, ap, ◌∙◌, append-nil, arith}
use Rattle.lrc_code.specs.declared.numbers.Fragment.{Fragment}
use Rattle.lrc_book.specs.Books.{state_of}
use Rattle.lrc_show.proofs.FieldLemmas.{text-added}
use Rattle.lrc_show.proofs.WorkLemmas.{own_row, row-there, row-away, rows-there}
use Rattle.lrc_show.proofs.work.push_stripe_work.Goals as goal
use Rattle.lrc_show.proofs.work.push_stripe_work.Goals.{in-Some+in_ok-push_fragment_work, in_default}

pub loop-fragment-preserved : goal.loop-fragment-preserved
loop-fragment-preserved c =
    let nodes = c.args.book.now.nodes in
    let st = state_of c.args.book.now in
    let s = c.args.stripe in
    let items = c.all-fragment-items.result in
    let i = c.loop-fragment.fragment-index in
    let d = c.fragment-item.result in
    let f : Fragment = get_or items i d in
    let old = string_bytes c.loop-fragment.out in
    let add = text-added (own_row nodes st s) items c.all-fragment-items.ensures i d c.loop-fragment-test.true (string_bytes c.args.out.now) old in
    elim c.match-kind.branch [
      | in-Some+in_ok-push_fragment_work w ↦
          add _ c.loop-fragment.invariant
          (ap string_bytes w.out-is ∙ w.in_ok-push_fragment_work.ensures
          ∙ ap (λ (t : List ℕ). old ++ t) (sym (row-there nodes st s f w.in-Some.kind (sym c.kind.ensures ∙ w.in-Some.is))))
      | in_default w ↦
          add _ c.loop-fragment.invariant
          (ap string_bytes w.out-is ∙ sym (append-nil old) ∙ ap (λ (t : List ℕ). old ++ t) (sym (row-away nodes st s f (sym c.kind.ensures ∙ w.in_default.is))))
    ]

pub returns : goal.returns
returns c =
    rows-there c.args.book.now.nodes (state_of c.args.book.now) c.args.stripe c.loop-fragment.fragment-index (string_bytes c.args.out.now) (string_bytes c.loop-fragment.out)
    c.loop-fragment.invariant (omega (arith, c.loop-fragment-test.false, c.loop-fragment.auto.fragment-index-end))
