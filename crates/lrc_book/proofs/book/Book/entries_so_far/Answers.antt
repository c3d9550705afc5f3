use Rattle.std.proofs.Common.{◌≡◌, ◌≤◌, ◌<◌, ◌+◌, ◌++◌, ◌↔◌, ℕ, length, inl, refl, ap, subst, ◌∙◌, arith}
use Rattle.std.specs.Prelude.{IsNone}
use Rattle.lrc_code.specs.declared.numbers.StripeNo.{StripeNo}
use Rattle.lrc_code.specs.declared.numbers.Fragment.{Fragment}
use Rattle.lrc_rules.specs.Leases.{grants}
use Rattle.lrc_images.specs.Causes.{most_grants, most_ticks, most_entries}
use Rattle.lrc_store.specs.declared.store.Store.{Store}
use Rattle.lrc_book.specs.Books.{BookView, state_of}
use Rattle.lrc_book.proofs.ForgetLemmas.{spent-by}
use Rattle.lrc_book.proofs.book.Book.entries_so_far.Goals as goal

pub returns-then-not-are_low-clause-spent : goal.returns-then-not-are_low-clause-spent
returns-then-not-are_low-clause-spent c =
    let high = c.are_low.ensures.some c.if-not-are_low.true in
    rw (← c.self.view_is) (λ _. inl (high.0, high.1, subst (λ (n : ℕ). most_grants < n) (c.self.invariant.counted high.0 high.1) high.2), λ _. refl)

pub returns-clause-spent : goal.returns-clause-spent
returns-clause-spent c =
    let early = c.self.invariant.store_is.clock_is in
    let now = c.get.ensures ∙ ap (λ (k : Store). k.clock.value) c.deref.ensures in
    let long : c.len.result ≡ length c.self.inside.history.items = omega (arith, c.len.ensures, c.self.inside.history.ok.0) in
    let entries : c.before-2.result + c.len.result ≡ c.args.self.now.before + length c.args.self.now.history =
    ap (λ (n : ℕ). n + c.len.result) c.before-2.ensures ∙ ap (λ (n : ℕ). c.args.self.now.before + n) (long ∙ ap (λ (v : BookView). length v.history) c.self.view_is) in
    spent-by c.args.self.now c.entries_after.result
    (subst (λ (n : ℕ). IsNone c.entries_after.result ↔ (most_entries < n)) entries c.entries_after.ensures.many)
    (subst (λ (v : BookView). (s : StripeNo) (f : Fragment) → grants (v.base.past ++ v.history) s f ≤ most_grants) c.self.view_is
    (λ s f. subst (λ (n : ℕ). n ≤ most_grants) (c.self.invariant.counted s f) (c.are_low.ensures.all c.if-not-are_low.false s f)))
    (subst (λ (v : BookView). (state_of v).clock ≤ most_ticks) c.self.view_is (omega (arith, early, now, c.if-get-gt-MOST_TICKS.false)))
