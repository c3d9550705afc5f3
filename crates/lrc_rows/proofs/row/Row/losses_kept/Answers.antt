use Rattle.std.proofs.Common.{ℕ, Bool, ◌||◌, ap, ◌∙◌}
use Rattle.lrc_code.specs.Losses.{bits_set, bits_of}
use Rattle.lrc_homes.specs.declared.losses.Losses.{Losses}
use Rattle.lrc_homes.specs.Masks.{missing_of}
use Rattle.lrc_rows.specs.NodeStates.{states_in}
use Rattle.lrc_rows.proofs.FreshLemmas.{mask-is, mask-renewed}
use Rattle.lrc_rows.proofs.UpgradingLemmas.{either-bits, mask-upgraded}
use Rattle.lrc_rows.proofs.row.Row.losses_kept.Goals as goal

pub losses_up-losses-requires-clause-kept : goal.losses_up-losses-requires-clause-kept
losses_up-losses-requires-clause-kept c = c.requires.kept

pub losses_up-losses-requires-clause-stands : goal.losses_up-losses-requires-clause-stands
losses_up-losses-requires-clause-stands c = c.requires.stands

pub returns : goal.returns
returns c =
    let t = c.args.node_table.now in
    let z = states_in t in
    let r = c.args.self.now in
    let up = c.losses_up-losses.ensures in
    let before : ℕ = bits_of r.losses.code (missing_of r.losses.code z.up r.homes) in
    let was = ap (λ (l : Losses). l.missing.bits) up in
    let after = c.from_bits-losses.result.bits in
    let mask = mask-upgraded t c.args.upgrading.now (record { long = c.requires.upgrading.long; each = c.requires.upgrading.each }) r.losses.code r.homes r.domains c.requires.domains c.requires.kept.within
    (record { bits = before }) after (mask-is r.losses.code z.up r.homes)
    (λ f. either-bits c.losses_up-losses.result.missing.bits c.in_upgrade.result.bits after f c.from_bits-losses.ensures
    ∙ (ap (λ (b : ℕ). bits_set b f || bits_set c.in_upgrade.result.bits f) was ∙ ap (λ (b : Bool). bits_set before f || b) (c.in_upgrade.ensures.homes f))) in
    ap (λ (l : Losses). let m : Losses = record l { missing = record { bits = after } } in m) up
    ∙ ap (λ (b : ℕ). let m : Losses = record r.losses { missing = record { bits = b } } in m) (mask-renewed r.losses.code z.online r.homes (record { bits = after }) mask)
