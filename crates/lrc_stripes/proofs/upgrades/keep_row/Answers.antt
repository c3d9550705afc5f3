use Rattle.std.proofs.Common.{◌&&◌, ◌||◌, not, sym, ap, subst, ◌∙◌}
use Rattle.lrc_code.specs.Losses.{bits_set, is_recoverable}
use Rattle.lrc_homes.specs.declared.losses.Losses.{Losses}
use Rattle.lrc_rows.specs.NodeStates.{states_in}
use Rattle.lrc_stripes.specs.declared.verdicts.Verdicts.{Verdicts}
use Rattle.lrc_stripes.specs.UpgradeLosses.{row_lost, AreVerdicts}
use Rattle.lrc_stripes.proofs.UpgradeLemmas.{row-bits}
use Rattle.lrc_stripes.proofs.upgrades.keep_row.Goals as goal
use Rattle.lrc_stripes.proofs.upgrades.keep_row.Goals.{then-not-is_mask_lost, else-not-is_mask_lost}

pub loop-number-preserved : goal.loop-number-preserved
loop-number-preserved c = λ lost several are is.
    let r = c.args.row.now in
    let homes = c.homes_in-homes.result.bits in
    let before = c.loop-number.invariant lost several are is in
    elim c.if-not-is_mask_lost.branch [
      | then-not-is_mask_lost w ↦
          subst (AreVerdicts lost several) (sym w.verdicts-is)
          (w.keep_safe.ensures lost several before
          (is _
          ∙ (row-bits c.args.node_table.now _ r c.requires.domains c.requires.kept.within homes c.homes_in-homes.ensures.homes
          ∙ (sym (ap (λ (l : Losses). is_recoverable r.losses.code (bits_set l.missing.bits) && not (is_recoverable r.losses.code (λ f. bits_set l.missing.bits f || bits_set homes f))) c.losses_up.ensures)
          ∙ (sym c.is_mask_lost.ensures ∙ w.if-not-is_mask_lost.true)))))
      | else-not-is_mask_lost w ↦ subst (AreVerdicts lost several) (sym w.verdicts-is) before
    ]
