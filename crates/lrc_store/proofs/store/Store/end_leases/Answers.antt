use Rattle.std.proofs.Common.{◌≡◌, List, take, length, refl, sym, ap, ◌∙◌, subst, arith}
use Rattle.std.proofs.lemmas.List.{take_all}
use Rattle.lrc_code.specs.declared.numbers.Fragment.{Fragment}
use Rattle.lrc_code.specs.Codes.{all_fragments}
use Rattle.lrc_rules.specs.States.{State}
use Rattle.lrc_store.specs.Stores.{IsOf}
use Rattle.lrc_store.specs.Dropping.{unleased}
use Rattle.lrc_store.proofs.FragmentLemmas.{unleased-more}
use Rattle.lrc_store.proofs.EndLemmas.{none-leased, unleased-none}
use Rattle.lrc_store.proofs.store.Store.end_leases.Goals as goal

pub returns-then-bits-eq0-clause-kept : goal.returns-then-bits-eq0-clause-kept
returns-then-bits-eq0-clause-kept g c =
    let none = none-leased g.st c.args.self.now c.requires c.args.stripe c.leased.result.bits (sym c.bits.ensures ∙ c.if-bits-eq0.true) c.leased.ensures in
    subst (λ (st : State). IsOf st c.args.self.now) (sym (unleased-none g.st c.args.stripe none all_fragments)) c.requires

pub loop-fragment-init : goal.loop-fragment-init
loop-fragment-init g c = record { kept = c.requires; nodes = refl; all = c.all.ensures }

pub end_lease-requires : goal.end_lease-requires
end_lease-requires g c = (unleased g.st c.args.stripe (take c.loop-fragment.fragment-index c.all.result), c.loop-fragment.invariant.kept)

pub loop-fragment-preserved : goal.loop-fragment-preserved
loop-fragment-preserved g c =
    let i = c.loop-fragment.fragment-index in
    let long : length c.all.result ≡ 16 = rw c.loop-fragment.invariant.all refl in
    let before = unleased g.st c.args.stripe (take i c.all.result) in record {
      kept = subst (λ (st : State). IsOf st c.end_lease.new.self)
          (unleased-more g.st c.args.stripe c.all.result i c.fragment-item.result (omega (arith, long)))
          (c.end_lease.ensures.kept before c.loop-fragment.invariant.kept);
      nodes = c.end_lease.ensures.nodes ∙ c.loop-fragment.invariant.nodes;
      all = c.loop-fragment.invariant.all;
    }

pub returns-clause-kept : goal.returns-clause-kept
returns-clause-kept g c =
    let i = c.loop-fragment.fragment-index in
    let whole : take i c.all.result ≡ all_fragments = ap (take i) c.loop-fragment.invariant.all ∙ take_all i all_fragments (omega arith) in
    subst (λ (fs : List Fragment). IsOf (unleased g.st c.args.stripe fs) c.loop-fragment.self) whole c.loop-fragment.invariant.kept
