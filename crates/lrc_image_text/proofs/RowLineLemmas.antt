-- The lines of an image from that of a row on.
use Rattle.std.proofs.Common.{◌≡◌, ℕ, suc, ◌+◌, [], ◌∷◌, ◌++◌, length, drop, ap, subst, ◌∙◌, append_assoc, arith}
use Rattle.std.proofs.Math.Seq.{drop-append-add}
use Rattle.lrc_images.specs.declared.cause.Cause.{Cause}
use Rattle.lrc_images.specs.declared.image.Image.{Image}
use Rattle.lrc_image_text.specs.Lines.{Version, Before, Clock, End}
use Rattle.lrc_image_text.specs.Texts.{upgrading_lines, lines_of_rows, image_lines, row_line}

pub lines_from_row : (i : Image) (n : ℕ) (c : Cause) (before : ℕ) → row_line i.upgrading (n + 1) c ≡ before + 1
    → drop before (image_lines i) ≡ drop n (lines_of_rows i ++ End ∷ [])
lines_from_row i n c before is =
    let first = Version ∷ Before i.before ∷ Clock i.clock ∷ upgrading_lines i.upgrading in
    let next : n + 1 ≡ suc n = omega arith in
    let line : 3 + length (upgrading_lines i.upgrading) + suc n ≡ before + 1 = subst (λ p. row_line i.upgrading p c ≡ before + 1) next is in
    let at : before ≡ length first + n = omega (arith, line) in
    ap (λ k. drop k (image_lines i)) at
    ∙ ap (λ ls. drop (length first + n) (Version ∷ Before i.before ∷ Clock i.clock ∷ ls)) (append_assoc (upgrading_lines i.upgrading) (lines_of_rows i) (End ∷ []))
    ∙ drop-append-add first (lines_of_rows i ++ End ∷ []) n
