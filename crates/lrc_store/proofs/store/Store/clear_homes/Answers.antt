use Rattle.std.proofs.Common.{refl, ◌∙◌, subst, List, ap, arith}
use Rattle.lrc_stripes.specs.Stored.{Stored, AreHomesOn}
use Rattle.lrc_terms.specs.Stripes.{StripeFragment}
use Rattle.lrc_stripes.specs.Tables.{stored_in}
use Rattle.lrc_rules.specs.Leases.{without_lease}
use Rattle.lrc_store.proofs.AheadLemmas.{homes-from, first-ahead, cleared-ahead}
use Rattle.lrc_store.proofs.EmptyLemmas.{here, emptying-start, emptying-stripe, emptying-more, emptying-smaller, emptying-end, first-on}
use Rattle.lrc_store.proofs.store.Store.clear_homes.Goals as goal

pub loop-stripe-init : goal.loop-stripe-init
loop-stripe-init g c = record { emptying = emptying-start g.st c.args.node c.args.self.now c.requires.0; low = omega arith; ahead = λ p hit. omega arith; nodes = refl }

pub invariant_of-from : goal.invariant_of-from
invariant_of-from g c = record { in_range = c.loop-stripe.invariant.low }

pub end_lease-requires : goal.end_lease-requires
end_lease-requires g c = (here g.st c.args.node c.loop-stripe.self c.loop-stripe.invariant.emptying, c.loop-stripe.invariant.emptying.kept)

pub clear_home-requires : goal.clear_home-requires
clear_home-requires g c =
    let k = c.loop-stripe.self in
    let e = c.loop-stripe.invariant.emptying in
    let on = homes-from (stored_in k.stripes) c.args.node _ c.homes_on_from.result c.loop-stripe.invariant.ahead c.homes_on_from.ensures in
    let first = first-on (stored_in k.stripes) c.args.node c.homes_on_from.result c.next.new.self c.in-Some.stripe c.in-Some.fragment on c.in-Some.ensures.steps in
    let kept = c.end_lease.ensures.kept (here g.st c.args.node k e) e.kept in record {
      tied = (without_lease (here g.st c.args.node k e) c.in-Some.stripe c.in-Some.fragment, kept);
      there = ap (λ (t : Stored). t.stripes c.in-Some.stripe) kept.stripes_is ∙ emptying-stripe g.st c.args.node k e c.in-Some.stripe c.in-Some.fragment first;
    }

pub loop-stripe-smaller : goal.loop-stripe-smaller
loop-stripe-smaller g c =
    let k = c.loop-stripe.self in
    let e = c.loop-stripe.invariant.emptying in
    let on = homes-from (stored_in k.stripes) c.args.node _ c.homes_on_from.result c.loop-stripe.invariant.ahead c.homes_on_from.ensures in
    let first = first-on (stored_in k.stripes) c.args.node c.homes_on_from.result c.next.new.self c.in-Some.stripe c.in-Some.fragment on c.in-Some.ensures.steps in
    let ended = c.end_lease.ensures.kept (here g.st c.args.node k e) e.kept in
    emptying-smaller g.st c.args.node k e c.in-Some.stripe c.in-Some.fragment first c.clear_home.new.self (c.clear_home.ensures.nodes ∙ c.end_lease.ensures.nodes)
    (c.clear_home.ensures.kept (without_lease (here g.st c.args.node k e) c.in-Some.stripe c.in-Some.fragment) ended) (rw c.loop-stripe.invariant.nodes c.requires.1)

pub loop-stripe-preserved : goal.loop-stripe-preserved
loop-stripe-preserved g c =
    let k = c.loop-stripe.self in
    let e = c.loop-stripe.invariant.emptying in
    let on = homes-from (stored_in k.stripes) c.args.node _ c.homes_on_from.result c.loop-stripe.invariant.ahead c.homes_on_from.ensures in
    let first = first-on (stored_in k.stripes) c.args.node c.homes_on_from.result c.next.new.self c.in-Some.stripe c.in-Some.fragment on c.in-Some.ensures.steps in
    let ended = c.end_lease.ensures.kept (here g.st c.args.node k e) e.kept in record {
      emptying = emptying-more g.st c.args.node k e c.in-Some.stripe c.in-Some.fragment first c.clear_home.new.self (c.clear_home.ensures.nodes ∙ c.end_lease.ensures.nodes)
          (c.clear_home.ensures.kept (without_lease (here g.st c.args.node k e) c.in-Some.stripe c.in-Some.fragment) ended);
      low = c.in-Some.stripe.in_range;
      ahead = cleared-ahead (here g.st c.args.node k e) k c.clear_home.new.self e.kept c.in-Some.stripe c.in-Some.fragment
          (c.clear_home.ensures.kept (without_lease (here g.st c.args.node k e) c.in-Some.stripe c.in-Some.fragment) ended) c.args.node c.in-Some.stripe.value
          (first-ahead (stored_in k.stripes) c.args.node c.homes_on_from.result c.next.new.self c.in-Some.stripe c.in-Some.fragment on c.in-Some.ensures.steps);
      nodes = c.clear_home.ensures.nodes ∙ c.end_lease.ensures.nodes ∙ c.loop-stripe.invariant.nodes;
    }

pub returns-clause-kept : goal.returns-clause-kept
returns-clause-kept g c =
    emptying-end g.st c.args.node c.loop-stripe.self c.loop-stripe.invariant.emptying
    (subst (λ (places : List StripeFragment). AreHomesOn (stored_in c.loop-stripe.self.stripes) c.args.node places) c.in_default.ensures.steps.0
    (homes-from (stored_in c.loop-stripe.self.stripes) c.args.node _ c.homes_on_from.result c.loop-stripe.invariant.ahead c.homes_on_from.ensures))
