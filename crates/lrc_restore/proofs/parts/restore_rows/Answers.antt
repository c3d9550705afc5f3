use Rattle.std.proofs.Common.{◌≡◌, List, Some, None, refl, subst, ◌∙◌}
use Rattle.std.proofs.lemmas.Result.{err_from_is_err_and}
use Rattle.lrc_topology.specs.declared.NodeInfo.{NodeInfo}
use Rattle.lrc_restore.specs.declared.error.BeginError.TheVariants.{Refused}
use Rattle.lrc_restore.specs.declared.error.RefusedRow.{RefusedRow}
use Rattle.lrc_restore.specs.Stages.{nodes_refusal, stripes_refusal, leases_refusal}
use Rattle.lrc_restore.specs.Refused.{IsRefusedFor}
use Rattle.lrc_images.specs.Causes.{first_cause}
use Rattle.lrc_restore.proofs.RefusalLemmas.{head-first, nodes-first, stripes-first, grants-first, leases-first, all-lawful, if-err}
use Rattle.lrc_restore.proofs.parts.restore_rows.Goals as goal

pub returns-in_err-restore_head-clause-refused : goal.returns-in_err-restore_head-clause-refused
returns-in_err-restore_head-clause-refused c =
    let nodes = c.args.store.now.topology in
    let i = c.args.image.now in
    let p = err_from_is_err_and c.from_residual.result c.from_residual.ensures.1 in
    let row = c.in_err-restore_head.field-0.0 in
    let e = Refused row.position row.cause in
    rw (p.1, p.2) (head-first nodes i e c.in_err-restore_head.ensures.refused)

pub returns-in_err-restore_nodes-clause-refused : goal.returns-in_err-restore_nodes-clause-refused
returns-in_err-restore_nodes-clause-refused c =
    let nodes = c.args.store.now.topology in
    let i = c.args.image.now in
    let head = c.in_ok-restore_head.ensures.lawful refl in
    let one = c.restore_head.ensures.nodes in
    let p = err_from_is_err_and c.from_residual-in_err-restore_nodes.result c.from_residual-in_err-restore_nodes.ensures.1 in
    let row = c.in_err-restore_nodes.field-0.0 in
    let e = Refused row.position row.cause in
    rw (p.1, p.2) (nodes-first nodes i head e (subst (λ (ns : List NodeInfo). IsRefusedFor (nodes_refusal ns i) e) one c.in_err-restore_nodes.ensures.refused))

pub returns-in_err-restore_stripes-clause-refused : goal.returns-in_err-restore_stripes-clause-refused
returns-in_err-restore_stripes-clause-refused c =
    let nodes = c.args.store.now.topology in
    let i = c.args.image.now in
    let head = c.in_ok-restore_head.ensures.lawful refl in
    let one = c.restore_head.ensures.nodes in
    let node_rows = subst (λ (ns : List NodeInfo). nodes_refusal ns i ≡ None) one (c.in_ok-restore_nodes.ensures.lawful refl) in
    let two = c.restore_nodes.ensures.nodes ∙ one in
    let p = err_from_is_err_and c.from_residual-in_err-restore_stripes.result c.from_residual-in_err-restore_stripes.ensures.1 in
    let row = c.in_err-restore_stripes.field-0.0 in
    let e = Refused row.position row.cause in
    rw (p.1, p.2) (stripes-first nodes i head node_rows e (subst (λ (ns : List NodeInfo). IsRefusedFor (stripes_refusal ns i) e) two c.in_err-restore_stripes.ensures.refused))

pub returns-in_err-restore_grants-clause-refused : goal.returns-in_err-restore_grants-clause-refused
returns-in_err-restore_grants-clause-refused c =
    let nodes = c.args.store.now.topology in
    let i = c.args.image.now in
    let head = c.in_ok-restore_head.ensures.lawful refl in
    let one = c.restore_head.ensures.nodes in
    let node_rows = subst (λ (ns : List NodeInfo). nodes_refusal ns i ≡ None) one (c.in_ok-restore_nodes.ensures.lawful refl) in
    let two = c.restore_nodes.ensures.nodes ∙ one in
    let stripe_rows = subst (λ (ns : List NodeInfo). stripes_refusal ns i ≡ None) two (c.in_ok-restore_stripes.ensures.lawful refl) in
    let p = err_from_is_err_and c.from_residual-in_err-restore_grants.result c.from_residual-in_err-restore_grants.ensures.1 in
    let row = c.in_err-restore_grants.field-0.0 in
    let e = Refused row.position row.cause in
    rw (p.1, p.2) (grants-first nodes i head node_rows stripe_rows e c.in_err-restore_grants.ensures.refused)

pub returns-clause-lawful : goal.returns-clause-lawful
returns-clause-lawful c = λ ok.
    let nodes = c.args.store.now.topology in
    let i = c.args.image.now in
    let head = c.in_ok-restore_head.ensures.lawful refl in
    let one = c.restore_head.ensures.nodes in
    let node_rows = subst (λ (ns : List NodeInfo). nodes_refusal ns i ≡ None) one (c.in_ok-restore_nodes.ensures.lawful refl) in
    let two = c.restore_nodes.ensures.nodes ∙ one in
    let stripe_rows = subst (λ (ns : List NodeInfo). stripes_refusal ns i ≡ None) two (c.in_ok-restore_stripes.ensures.lawful refl) in
    let grant_rows = c.in_ok-restore_grants.ensures.lawful refl in
    let three = c.restore_stripes.ensures.nodes ∙ two in
    all-lawful nodes i head node_rows stripe_rows grant_rows (subst (λ (ns : List NodeInfo). leases_refusal ns i ≡ None) three (c.restore_leases.ensures.lawful ok))

pub returns-clause-refused : goal.returns-clause-refused
returns-clause-refused c =
    let nodes = c.args.store.now.topology in
    let i = c.args.image.now in
    let head = c.in_ok-restore_head.ensures.lawful refl in
    let one = c.restore_head.ensures.nodes in
    let node_rows = subst (λ (ns : List NodeInfo). nodes_refusal ns i ≡ None) one (c.in_ok-restore_nodes.ensures.lawful refl) in
    let two = c.restore_nodes.ensures.nodes ∙ one in
    let stripe_rows = subst (λ (ns : List NodeInfo). stripes_refusal ns i ≡ None) two (c.in_ok-restore_stripes.ensures.lawful refl) in
    let grant_rows = c.in_ok-restore_grants.ensures.lawful refl in
    let three = c.restore_stripes.ensures.nodes ∙ two in
    if-err c.restore_leases.result (λ (r : RefusedRow). leases_refusal c.restore_stripes.new.store.topology i ≡ Some (r.position, r.cause))
    (λ (r : RefusedRow). first_cause nodes i ≡ Some (r.position, r.cause))
    (λ r refused. leases-first nodes i head node_rows stripe_rows grant_rows (Refused r.position r.cause)
    (subst (λ (ns : List NodeInfo). leases_refusal ns i ≡ Some (r.position, r.cause)) three refused))
    c.restore_leases.ensures.refused
