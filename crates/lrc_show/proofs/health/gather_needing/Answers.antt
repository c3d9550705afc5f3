use Rattle.std.proofs.Common.{rules, ◌≡◌, ◌<◌, ◌++◌, ◌∷◌, [], List, true, false, length, get_or, sym, ap, ◌∙◌, append-nil, arith}
use Rattle.std.specs.Prelude.{is_some}
use Rattle.lrc_code.specs.declared.numbers.Fragment.{Fragment}
use Rattle.lrc_code.specs.Codes.{all_fragments}
use Rattle.lrc_terms.specs.Stripes.{StripeFragment}
use Rattle.lrc_book.specs.Books.{state_of}
use Rattle.lrc_book.specs.Looks.{kind_shown}
use Rattle.lrc_show.proofs.ListLemmas.{flat-more}
use Rattle.lrc_show.proofs.HealthLemmas.{part_of, own_need, need-there, needs-told}
use Rattle.lrc_show.proofs.health.gather_needing.Goals as goal
use Rattle.lrc_show.proofs.health.gather_needing.Goals.{then-is_some+in_ok-push, else-is_some}

pub loop-fragment-preserved : goal.loop-fragment-preserved
loop-fragment-preserved c =
    let nodes = c.args.book.now.nodes in
    let st = state_of c.args.book.now in
    let s = c.args.stripe in
    let items = c.all-fragment-items.result in
    let i = c.loop-fragment.fragment-index in
    let d = c.fragment-item.result in
    let f : Fragment = get_or items i d in
    let old = c.loop-fragment.rows.items in
    let within : i < length all_fragments = c.loop-fragment-test.true in
    let here : f ≡ get_or all_fragments i d = ap (λ (fs : List Fragment). get_or fs i d) c.all-fragment-items.ensures in
    let told : c.is_some.result ≡ is_some (kind_shown nodes st s f) = c.is_some.ensures ∙ ap is_some c.kind.ensures in
    let add = flat-more (own_need nodes st s) all_fragments i d c.args.rows.now.items old _ within c.loop-fragment.invariant in
    elim c.if-is_some.branch [
      | then-is_some+in_ok-push w ↦
          let own : own_need nodes st s f ≡ part_of s f ∷ [] = need-there nodes st s f true (sym told ∙ w.if-is_some.true) in
          let added : w.push.new.self.items ≡ old ++ part_of s f ∷ [] = search rules in
          add (ap (λ v. v.items) w.rows-is ∙ added ∙ ap (λ (l : List StripeFragment). old ++ l) (sym own) ∙ ap (λ (g : Fragment). old ++ own_need nodes st s g) here)
      | else-is_some w ↦
          let own : own_need nodes st s f ≡ [] = need-there nodes st s f false (sym told ∙ w.if-is_some.false) in
          add (ap (λ v. v.items) w.rows-is ∙ sym (append-nil old) ∙ ap (λ (l : List StripeFragment). old ++ l) (sym own) ∙ ap (λ (g : Fragment). old ++ own_need nodes st s g) here)
    ]

pub returns-clause-value : goal.returns-clause-value
returns-clause-value c =
    needs-told c.args.book.now.nodes (state_of c.args.book.now) c.args.stripe c.loop-fragment.fragment-index c.args.rows.now.items c.loop-fragment.rows.items
    c.loop-fragment.invariant (omega (arith, c.loop-fragment-test.false, c.loop-fragment.auto.fragment-index-end))
