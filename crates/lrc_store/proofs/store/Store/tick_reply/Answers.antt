use Rattle.std.proofs.Common.{◌≡◌, ◌+◌, ℕ, List, length, count_by, arith, ap, ap₂, ◌∙◌, subst}
use Rattle.lrc_terms.specs.declared.lease.Lease.{Lease}
use Rattle.lrc_terms.specs.Leased.{Leased, ends_at, AreThose}
use Rattle.lrc_rules.specs.declared.reply.Reply.TheVariants.{Ticked}
use Rattle.lrc_rules.specs.Leases.{tick_outcome}
use Rattle.lrc_store.proofs.DueLemmas.{counted-walk}
use Rattle.lrc_store.proofs.store.Store.tick_reply.Goals as goal

pub returns : goal.returns
unfolding tick_outcome
returns c = λ st kept.
    let clock = c.next-clock.result in
    let now : clock ≡ st.clock + 1 = c.next-clock.ensures ∙ ap (λ (n : ℕ). n + 1) kept.clock_is in
    let all = c.ending_at-lease-items.result in
    let leases = c.args.self.now.leases in
    let over : c.loop-lease.ended ≡ length all =
    omega (arith, c.loop-lease.invariant, ap (λ (ls : List Lease). length ls) c.in-None.ensures.steps.0, ap (λ (ls : List Lease). length ls) c.into_iter-lease-iterator.ensures.into_iter_gives) in
    let count = counted-walk clock st.leases all kept.seated.one_lease
    (subst (λ (t : Leased). AreThose (ends_at clock) t all) kept.leases_is c.ending_at-lease-items.ensures.those) in
    ap₂ (λ (a b : ℕ). Ticked a b) now (over ∙ count ∙ ap (λ (n : ℕ). count_by (ends_at n) st.leases) now)
