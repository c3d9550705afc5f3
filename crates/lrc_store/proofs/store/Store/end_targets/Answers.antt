use Rattle.std.proofs.Common.{refl, ◌∙◌, subst, List}
use Rattle.lrc_terms.specs.declared.lease.Lease.{Lease}
use Rattle.lrc_terms.specs.Leased.{AreTargetsOn}
use Rattle.lrc_leases.specs.Tables.{leased_in}
use Rattle.lrc_store.proofs.EmptyLemmas.{now, ending-more, ending-smaller, ending-end, first-target}
use Rattle.lrc_store.proofs.store.Store.end_targets.Goals as goal

pub loop-lease-init : goal.loop-lease-init
loop-lease-init g c = record { ending = record { live = g.st.leases; kept = c.requires.0; rest = refl }; nodes = refl }

pub end_lease-requires : goal.end_lease-requires
end_lease-requires g c = (now g.st c.args.node c.loop-lease.self c.loop-lease.invariant.ending, c.loop-lease.invariant.ending.kept)

pub loop-lease-smaller : goal.loop-lease-smaller
loop-lease-smaller g c =
    let k = c.loop-lease.self in
    let e = c.loop-lease.invariant.ending in
    let first = first-target (leased_in k.leases) c.args.node c.targets_on.result c.next.new.self c.in-Some.lease c.targets_on.ensures c.in-Some.ensures.steps in
    ending-smaller g.st c.args.node k e c.in-Some.lease first.0 first.1 c.end_lease.new.self c.end_lease.ensures.nodes (c.end_lease.ensures.kept (now g.st c.args.node k e) e.kept)
    (rw c.loop-lease.invariant.nodes c.requires.1)

pub loop-lease-preserved : goal.loop-lease-preserved
loop-lease-preserved g c =
    let k = c.loop-lease.self in
    let e = c.loop-lease.invariant.ending in
    let first = first-target (leased_in k.leases) c.args.node c.targets_on.result c.next.new.self c.in-Some.lease c.targets_on.ensures c.in-Some.ensures.steps in record {
      ending = ending-more g.st c.args.node k e c.in-Some.lease first.0 first.1 c.end_lease.new.self c.end_lease.ensures.nodes (c.end_lease.ensures.kept (now g.st c.args.node k e) e.kept);
      nodes = c.end_lease.ensures.nodes ∙ c.loop-lease.invariant.nodes;
    }

pub returns-clause-kept : goal.returns-clause-kept
returns-clause-kept g c =
    ending-end g.st c.args.node c.loop-lease.self c.loop-lease.invariant.ending
    (subst (λ (ls : List Lease). AreTargetsOn (leased_in c.loop-lease.self.leases) c.args.node ls) c.in_default.ensures.steps.0 c.targets_on.ensures)
