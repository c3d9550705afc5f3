use Rattle.lrc_text.proofs.MaskLemmas.{line_told}
use Rattle.lrc_text.proofs.masks.push_losses.Goals as goal

pub returns : goal.returns
returns c =
    let a = c.class_losses_in-a in
    let b = c.class_losses_in-b in
    let g = c.class_losses_in-g in
    line_told c.push_margin.result _ _ _ c.args.code c.args.losses.bits a.result b.result g.result c.margin_in.result a.ensures.value b.ensures.value g.ensures.value c.margin_in.ensures.value c.in_ok-push_counts.ensures c.push_margin.ensures
