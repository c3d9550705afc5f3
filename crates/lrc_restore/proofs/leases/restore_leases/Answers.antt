use Rattle.std.proofs.Common.{[], ◌≡◌, ◌+◌, ◌<◌, ◌∷◌, ◌++◌, List, length, take, get_or, Some, None, option_map, sym, ap, subst, ◌∙◌, arith}
use Rattle.std.proofs.lemmas.List.{length-take-le, take_more}
use Rattle.lrc_topology.specs.declared.NodeInfo.{NodeInfo}
use Rattle.lrc_terms.specs.declared.lease.Lease.{Lease}
use Rattle.lrc_rules.specs.States.{State}
use Rattle.lrc_rules.specs.Leases.{with_lease}
use Rattle.lrc_images.specs.declared.cause.Cause.{Cause}
use Rattle.lrc_images.specs.declared.image.LeaseRow.{LeaseRow}
use Rattle.lrc_images.specs.Images.{earlier}
use Rattle.lrc_images.specs.Rising.{lease_first}
use Rattle.lrc_images.specs.Causes.{first_answer, at_place, lease_cause, with_leases}
use Rattle.lrc_images.proofs.AnswerLemmas.{none-map}
use Rattle.lrc_store.specs.Stores.{IsOf, MayLease}
use Rattle.lrc_restore.specs.Stages.{leases_from}
use Rattle.lrc_restore.proofs.WalkLemmas.{from-next, from-found, rising-next}
use Rattle.lrc_restore.proofs.LeaseLemmas.{lease-ordered, row-may, row-more}
use Rattle.lrc_restore.proofs.leases.restore_leases.Goals as goal

pub add_lease-requires : goal.add_lease-requires
add_lease-requires c =
    let image = c.args.image.now in
    let past = earlier image.grants.items in
    let before = take c.loop-index.index c.as_slice-rows.result.now in
    let row = c.index-rows-index.result in
    let st = with_leases image before in
    let kept = c.loop-index.invariant.kept in
    let none = sym (c.lease_cause.ensures image kept c.requires.grants) ∙ c.in_default.is in (
      st,
      kept,
      subst (λ (l : Lease). MayLease c.loop-index.store.topology st l) (sym (c.lease_of.ensures past c.requires.grants)) (row-may c.loop-index.store.topology image before row none),
    )

pub returns-in-Some-clause-refused : goal.returns-in-Some-clause-refused
returns-in-Some-clause-refused c =
    let image = c.args.image.now in
    let nodes = c.args.store.now.topology in
    let rows = c.as_slice-rows.result.now in
    let i = c.loop-index.index in
    let before = take i rows in
    let row = c.index-rows-index.result in
    let was = c.loop-index.invariant in
    let place = leases_from image in
    let ask = at_place place (lease_cause nodes image) in
    let within : i < length rows = c.loop-index-test.true in
    let found = c.in-Some.cause in
    let now = sym (c.lease_cause.ensures image was.kept c.requires.grants) ∙ c.in-Some.is in
    let here : lease_cause nodes image before (get_or rows i row) ≡ Some found =
    ap (lease_cause nodes image before) (sym c.index-rows-index.is) ∙ subst (λ (ns : List NodeInfo). lease_cause ns image before row ≡ Some found) was.nodes now in
    let some : ask before (get_or rows i row) ≡ Some (place + i, found) =
    ap (option_map (λ (k : Cause). (place + length before, k))) here ∙ ap (λ n. Some (place + n, found)) (length-take-le i rows (omega (arith, within))) in
    sym (ap (first_answer ask []) c.as_slice-rows.ensures.value) ∙ from-found ask rows i row within (place + i, found) some was.from
    ∙ ap (λ n. Some (n + i, found)) (sym c.leases_from.ensures.is)

pub loop-index-preserved : goal.loop-index-preserved
loop-index-preserved c =
    let image = c.args.image.now in
    let nodes = c.args.store.now.topology in
    let past = earlier image.grants.items in
    let rows = c.as_slice-rows.result.now in
    let i = c.loop-index.index in
    let before = take i rows in
    let row = c.index-rows-index.result in
    let st = with_leases image before in
    let was = c.loop-index.invariant in
    let place = leases_from image in
    let within : i < length rows = c.loop-index-test.true in
    let is = c.index-rows-index.is in
    let now = sym (c.lease_cause.ensures image was.kept c.requires.grants) ∙ c.in_default.is in
    let none = subst (λ (ns : List NodeInfo). lease_cause ns image before row ≡ None) was.nodes now in
    let here : lease_cause nodes image before (get_or rows i row) ≡ None = ap (lease_cause nodes image before) (sym is) ∙ none in
    let lease = c.lease_of.ensures past c.requires.grants in
    let may = subst (λ (l : Lease). MayLease c.loop-index.store.topology st l) (sym lease) (row-may c.loop-index.store.topology image before row now) in
    record {
      nodes = c.add_lease.ensures.nodes ∙ was.nodes;
      from = from-next (at_place place (lease_cause nodes image)) rows i row within
          (none-map (λ (k : Cause). (place + length before, k)) (lease_cause nodes image before (get_or rows i row)) here) was.from;
      rising = rising-next lease_first rows i row within was.rising (lease-ordered nodes image before (get_or rows i row) here);
      kept = subst (λ (xs : List LeaseRow). IsOf (with_leases image xs) c.add_lease.new.self)
          (ap (λ (r : LeaseRow). before ++ r ∷ []) is ∙ sym (take_more rows i row within))
          (subst (λ (s : State). IsOf s c.add_lease.new.self) (row-more nodes image before row)
          (subst (λ (l : Lease). IsOf (with_lease st l) c.add_lease.new.self) lease
          (c.add_lease.ensures.kept st was.kept may)));
    }
