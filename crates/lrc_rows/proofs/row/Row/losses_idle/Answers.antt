use Rattle.std.proofs.Common.{◌≡◌, ℕ, true, false, sym, ap, ◌∙◌}
use Rattle.lrc_homes.specs.declared.losses.Losses.{Losses}
use Rattle.lrc_rows.specs.NodeStates.{states_in}
use Rattle.lrc_rows.proofs.FreshLemmas.{none-missing}
use Rattle.lrc_rows.proofs.UpgradingLemmas.{online-up}
use Rattle.lrc_rows.proofs.row.Row.losses_idle.Goals as goal

pub returns-then-is_clear : goal.returns-then-is_clear
returns-then-is_clear c =
    let z = states_in c.args.node_table.now in
    let r = c.args.self.now in
    let none = none-missing z.up z.draining r c.requires.kept.needs c.requires.idle
    (λ n down any. let clash : true ≡ false = sym (online-up c.args.node_table.now n (c.is_clear.ensures c.if-is_clear.true n (c.requires.stands n any))) ∙ down in cc) in
    ap (λ (b : ℕ). let l : Losses = record r.losses { missing = record { bits = b } } in l) (c.from_bits-losses.ensures ∙ sym none)
