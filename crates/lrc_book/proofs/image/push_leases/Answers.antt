use Rattle.std.proofs.Common.{◌≡◌, get_or, sym, ap, ◌∙◌, arith}
use Rattle.lrc_code.specs.declared.numbers.Fragment.{Fragment}
use Rattle.lrc_terms.specs.Leased.{Leased}
use Rattle.lrc_rules.specs.States.{lease_of}
use Rattle.lrc_book.proofs.ImagedLemmas.{lease-push, lease-pass, leases-all}
use Rattle.lrc_book.proofs.image.push_leases.Goals as goal
use Rattle.lrc_book.proofs.image.push_leases.Goals.{in-Some+in_ok-push, in_default}

pub loop-fragment-preserved : goal.loop-fragment-preserved
loop-fragment-preserved c = λ st kept.
    let s = c.args.stripe in
    let items = c.all-fragment-items.result in
    let i = c.loop-fragment.fragment-index in
    let d = c.fragment-item.result in
    let fragment : Fragment = get_or items i d in
    let found : lease_of st s fragment ≡ c.lease.result = sym (c.lease.ensures.value ∙ ap (λ (t : Leased). t.leases s fragment.value) kept.leases_is) in
    let rows = c.loop-fragment.rows.items in
    let before = c.args.rows.now.items in
    let so_far = c.loop-fragment.invariant st kept in
    elim c.match-lease.branch [
      | in-Some+in_ok-push w ↦
          ap (λ v. v.items) w.rows-is ∙ w.in_ok-push.ensures.items
          ∙ lease-push st s items c.all-fragment-items.ensures i d c.loop-fragment-test.true rows before so_far w.in-Some.lease (found ∙ w.in-Some.is)
      | in_default w ↦
          ap (λ v. v.items) w.rows-is
          ∙ lease-pass st s items c.all-fragment-items.ensures i d c.loop-fragment-test.true rows before so_far (found ∙ w.in_default.is)
    ]

pub returns-clause-value : goal.returns-clause-value
returns-clause-value c = λ st kept.
    leases-all st c.args.stripe c.loop-fragment.fragment-index c.loop-fragment.rows.items c.args.rows.now.items (c.loop-fragment.invariant st kept)
    (omega (arith, c.loop-fragment-test.false, c.loop-fragment.auto.fragment-index-end))
