use Rattle.lrc_image_text.proofs.TextLemmas.{taken, image_added}
use Rattle.lrc_image_text.proofs.write.push_image.Goals as goal

pub returns : goal.returns
returns c =
    image_added c.args.image.now c.extend_from_slice.result c.args.out.now.items _ _ _ _ _ _ _ _ _ _ _
    c.as_slice.ensures.value c.as_slice-2.ensures.value c.as_slice-3.ensures.value c.as_slice-4.ensures.value
    c.in_ok-push_head.ensures c.in_ok-push_upgrading.ensures c.in_ok-push_rows.ensures c.in_ok-push_rows-2.ensures c.in_ok-push_rows-3.ensures c.in_ok-push_rows-4.ensures
    (taken c.extend_from_slice.result _ _ _ c.extend_from_slice.ensures.items)
