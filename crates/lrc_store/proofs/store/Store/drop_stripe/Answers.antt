use Rattle.std.proofs.Common.{sym, subst, ap, ◌∙◌}
use Rattle.lrc_stripes.specs.Stored.{Stored}
use Rattle.lrc_stripes.specs.Stored as stored
use Rattle.lrc_stripes.specs.Tables.{stored_in}
use Rattle.lrc_rules.specs.Steps.{without_stripe}
use Rattle.lrc_store.specs.Stores.{IsOf}
use Rattle.lrc_store.specs.declared.store.Store.{Store}
use Rattle.lrc_store.proofs.FragmentLemmas.{unleased-has, dropped-kept}
use Rattle.lrc_rules.proofs.ToldLemmas.{drop-told}
use Rattle.lrc_store.proofs.store.Store.drop_stripe.Goals as goal

pub end_leases-requires : goal.end_leases-requires
end_leases-requires g c = c.requires.0

pub free_homes-requires : goal.free_homes-requires
free_homes-requires g c = (c.end_leases.ensures.kept, unleased-has g.st c.args.stripe (drop-told g.st c.args.stripe c.requires.1))

pub remove-requires : goal.remove-requires
remove-requires g c =
    ap (λ (k : Store). (stored_in k.stripes).stripes c.args.stripe) c.free_homes.ensures.rest
    ∙ ap (λ (t : Stored). t.stripes c.args.stripe) c.end_leases.ensures.kept.stripes_is ∙ unleased-has g.st c.args.stripe (drop-told g.st c.args.stripe c.requires.1)

pub returns-clause-kept : goal.returns-clause-kept
returns-clause-kept g c =
    let s = c.args.stripe in
    let table = c.free_homes.new.self.table in
    let stripes = c.remove.new.self in
    let removed = c.remove.ensures ∙ ap (λ (k : Store). stored.without_stripe (stored_in k.stripes) s) c.free_homes.ensures.rest in
    subst (λ (k : Store). IsOf (without_stripe g.st s) (record k { table = table; stripes = stripes })) (sym c.free_homes.ensures.rest)
    (dropped-kept g.st s c.args.self.now c.end_leases.new.self table stripes c.requires.0 c.end_leases.ensures.kept c.end_leases.ensures.nodes
    c.free_homes.ensures.table removed)
