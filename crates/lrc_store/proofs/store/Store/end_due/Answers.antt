use Rattle.std.proofs.Common.{◌≡◌, ◌+◌, ◌-◌, ℕ, List, ap, subst, arith, ◌∙◌}
use Rattle.lrc_terms.specs.declared.lease.Lease.{Lease}
use Rattle.lrc_terms.specs.Leased.{AreThose, ends_at}
use Rattle.lrc_leases.specs.Tables.{leased_in}
use Rattle.lrc_store.specs.Stores.{IsOf}
use Rattle.lrc_rules.specs.Leases.{without_ending}
use Rattle.lrc_store.proofs.DueLemmas.{now, due-more, due-none, due-end, first-due}
use Rattle.lrc_store.proofs.store.Store.end_due.Goals.{in-Some, in_default}
use Rattle.lrc_store.proofs.store.Store.end_due.Goals as goal

pub loop-preserved : goal.loop-preserved
loop-preserved g c =
    let clock = c.next-clock.result in
    let k = c.loop.self in
    let e = c.loop.invariant.due in
    let left = c.args.ended - c.loop.counter in
    let next_left = c.args.ended - (c.loop.counter + 1) in
    elim c.match-next.branch [
      | in-Some w ↦
          let first = first-due (leased_in k.leases) clock c.ending_at.result c.next.new.self w.in-Some.lease c.ending_at.ensures.those w.in-Some.ensures.steps in
          rw w.self-is
          record {
            due = due-more g.st clock left k e w.in-Some.lease first.0 first.1 w.end_lease.new.self (w.end_lease.ensures.kept (now g.st clock left k e) e.kept) next_left (omega (arith));
            nodes = w.end_lease.ensures.nodes ∙ c.loop.invariant.nodes;
            same = w.end_lease.ensures.clock ∙ c.loop.invariant.same;
            within = omega (arith, c.loop-test.true);
          }
      | in_default w ↦ rw w.self-is
          record {
            due = due-none g.st clock left k e (subst (λ (ls : List Lease). AreThose (ends_at clock) (leased_in k.leases) ls) w.in_default.ensures.steps.0 c.ending_at.ensures.those) next_left;
            nodes = c.loop.invariant.nodes;
            same = c.loop.invariant.same;
            within = omega (arith, c.loop-test.true);
          }
    ]

pub returns-clause-kept : goal.returns-clause-kept
returns-clause-kept g c =
    let clock = c.next-clock.result in
    let is : clock ≡ g.st.clock + 1 = c.next-clock.ensures ∙ ap (λ (n : ℕ). n + 1) c.requires.0.clock_is in
    subst (λ (n : ℕ). IsOf (without_ending g.st n) c.loop.self) is
    (due-end g.st clock (c.args.ended - c.loop.counter) c.loop.self c.loop.invariant.due (omega (arith, c.loop-test.false, c.loop.invariant.within)))
