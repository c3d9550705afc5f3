use Rattle.std.proofs.Common.{sym, ◌∙◌}
use Rattle.lrc_slots.specs.Tables.{slots_of}
use Rattle.lrc_store.proofs.TargetLemmas.{targets-nowhere, targets-with}
use Rattle.lrc_store.proofs.store.Store.put_domains.Goals as goal

pub returns-in-Some-clause-kept : goal.returns-in-Some-clause-kept
returns-in-Some-clause-kept c = λ t are.
    let k = c.args.self.now in
    targets-with (slots_of k.table).nodes t k.target_domains.items c.args.lease.now are c.in-Some.node (sym c.node.ensures ∙ c.in-Some.is)
    c.index_mut-domains.result.now c.put.new.self c.index_mut-domains.ensures.value c.put.ensures.faults c.put.ensures.upgrades

pub returns-in_default-clause-kept : goal.returns-in_default-clause-kept
returns-in_default-clause-kept c = λ t are.
    let k = c.args.self.now in
    targets-nowhere (slots_of k.table).nodes t k.target_domains.items c.args.lease.now are (sym c.node.ensures ∙ c.in_default.is)
