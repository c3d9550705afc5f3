use Rattle.std.proofs.Common.{nat_le, count_ones, ◌&&◌, ◌||◌, not, sym, ap, ◌∙◌}
use Rattle.lrc_code.specs.Losses.{bits_set, is_recoverable}
use Rattle.lrc_homes.specs.declared.losses.Losses.{Losses}
use Rattle.lrc_stripes.proofs.UpgradeLemmas.{row-bits, row-few, row-passed}
use Rattle.lrc_stripes.proofs.upgrades.is_row_lost.Goals as goal

pub returns-then-homes-eq0 : goal.returns-then-homes-eq0
returns-then-homes-eq0 c =
    let r = c.args.row.now in
    sym (row-passed c.args.node_table.now c.args.domain r c.requires.domains c.requires.kept.within c.homes_in-homes.result.bits c.homes_in-homes.ensures.homes c.if-homes-eq0.true)

pub returns-then-not-are_several-2 : goal.returns-then-not-are_several-2
returns-then-not-are_several-2 c =
    let r = c.args.row.now in
    sym (row-few c.args.node_table.now c.args.domain r c.requires.domains c.requires.kept.within c.homes_in-homes.result.bits c.homes_in-homes.ensures.homes
    (ap (λ (l : Losses). nat_le 2 (count_ones l.missing.bits)) (sym c.losses_up.ensures) ∙ (sym c.are_several.ensures ∙ c.if-not-are_several.true))
    (sym c.are_several-then-not-are_several.ensures ∙ c.if-not-are_several-2.true))

pub returns : goal.returns
returns c =
    let r = c.args.row.now in
    let homes = c.homes_in-homes.result.bits in
    c.is_mask_lost.ensures
    ∙ (ap (λ (l : Losses). is_recoverable r.losses.code (bits_set l.missing.bits) && not (is_recoverable r.losses.code (λ f. bits_set l.missing.bits f || bits_set homes f))) c.losses_up.ensures
    ∙ sym (row-bits c.args.node_table.now c.args.domain r c.requires.domains c.requires.kept.within homes c.homes_in-homes.ensures.homes))
