use Rattle.std.proofs.Common.{◌≡◌, ◌∙◌, ◌++◌, OnOk, ap, subst, append_assoc, codes}
use Rattle.lrc_image_text.specs.Lines.{lines_text}
use Rattle.lrc_image_text.proofs.TextLemmas.{added_as, number_line, head_lines, head_text}
use Rattle.lrc_image_text.proofs.write.push_head.Goals as goal

pub returns : goal.returns
returns c =
    let line = number_line (codes "before ") c.args.before in
    let begun = c.in_ok-push_number_line.ensures ∙ ap (λ t. t ++ line) c.in_ok-extend_from_slice.ensures.items ∙ append_assoc c.args.out.now.items (codes "image 1\n") line in
    subst (λ clock. OnOk c.push_number_line-2.result (c.push_number_line-2.new.out.items ≡ c.args.out.now.items ++ lines_text (head_lines c.args.before clock))) c.from.ensures
    (added_as c.push_number_line-2.result _ _ c.args.out.now.items _ _ _ (head_text c.args.before c.from.result) begun c.push_number_line-2.ensures)
