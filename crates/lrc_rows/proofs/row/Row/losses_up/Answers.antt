use Rattle.std.proofs.Common.{ap, ◌∙◌}
use Rattle.lrc_code.specs.declared.losses.LossMask.{LossMask}
use Rattle.lrc_homes.specs.declared.losses.Losses.{Losses}
use Rattle.lrc_rows.specs.NodeStates.{states_in}
use Rattle.lrc_rows.proofs.FreshLemmas.{renewed-kept}
use Rattle.lrc_rows.proofs.row.Row.losses_up.Goals as goal

pub returns : goal.returns
returns c =
    let z = states_in c.args.node_table.now in
    let r = c.args.self.now in
    let k = c.requires.kept in
    ap (λ (m : LossMask). let l : Losses = record r.losses { missing = m } in l) c.missing-losses.ensures.value
    ∙ renewed-kept z.up z.draining r.homes r.losses (record { within = k.within; homeless = k.homeless; missing = k.missing; needs = k.needs }) c.if-self-eq0.false
