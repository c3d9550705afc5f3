-- Each text is that of an image, line by line, or has a bad line.
use Rattle.std.proofs.Common.{◌≡◌, ◌≢◌, ℕ, zero, suc, ◌+◌, ◌<◌, ◌⊎◌, inl, inr, true, false, if◌then◌else◌, Some, None, List, [], ◌∷◌, ◌++◌, length, refl, sym, ap, ◌∙◌, append-nil, arith}
use Rattle.std.specs.List.{All}
use Rattle.std.proofs.lemmas.Bool.{cases_Bool, cases_eq, true≢false}
use Rattle.std.proofs.lemmas.List.Sums.{fold-append}
use Rattle.std.proofs.lemmas.List.Elements.{All-nil, All-push}
use Rattle.lrc_image_text.specs.Lines.{Line, lines_text, IsReadable}
use Rattle.lrc_image_text.specs.Texts.{next_section, may_come, after_line, after_lines, HasImageLines, IsBadLine}
use Rattle.lrc_image_text.specs.Fronts.{line_on, HasNone}
use Rattle.lrc_image_text.proofs.LineLemmas.{lines_on, line_longer, line_on-text, bad_line}
use Rattle.lrc_image_text.proofs.ReachLemmas.{later-may_come}
use Rattle.lrc_image_text.proofs.EndLemmas.{section_low, nil_of}
use Rattle.lrc_image_text.proofs.OnceLemmas.{once}
use Rattle.lrc_image_text.proofs.DecideLineLemmas.{IsInFront, decide_line}

abbrev Judged : List ℕ → Type 0
Judged text = HasImageLines text ⊎ ((n : ℕ) × IsBadLine text n)

-- the text starts with these lines, and this is left
record IsJudgedTo (text : List ℕ) (lines : List Line) (left : List ℕ) (first : ℕ) : Type 0 where
  text_is : text ≡ lines_text lines ++ left
  readable : All IsReadable lines
  begins : after_lines (Some 0) lines ≡ Some first

module _ (text : List ℕ) (lines : List Line) (left : List ℕ) (first : ℕ) (so_far : IsJudgedTo text lines left first) where
  bad : ((line : Line) (rest : List ℕ) → IsReadable line → may_come first line ≡ true → left ≢ line_on line rest) → (first ≡ 9 → left ≢ []) → Judged text
  bad none more = inr (length lines + 1, bad_line text lines left first so_far.text_is so_far.readable so_far.begins none more)

  at_end : first ≡ 9 → Judged text
  at_end nine = elim (cases_eq (length left) 0) [
    | inl empty ↦ inl (record {
      lines = lines;
      readable = so_far.readable;
      whole = so_far.begins ∙ ap (λ n. Some n) nine;
      text_is = so_far.text_is ∙ ap (λ t. lines_text lines ++ t) (nil_of left empty) ∙ append-nil (lines_text lines);
    })
    | inr some ↦ bad (λ line rest can may is. omega (arith, nine, later-may_come first line (omega (arith, nine)) may, section_low line)) (λ e empty. some (ap length empty))
  ]

  module _ (not_end : first ≢ 9) where
    no_line : HasNone (λ l. l) left → Judged text
    no_line none = bad (λ line rest can may is. none line rest can is) (λ nine. absurd (not_end nine))

    module _ (found : IsInFront (λ l. l) left) where
      other_section : may_come first found.x ≡ false → Judged text
      other_section miss = bad (λ line rest can may is.
          let same = (once found.x line found.rest rest found.can can (line_on-text found.x found.rest ∙ sym found.is ∙ is ∙ sym (line_on-text line rest))).0 in
          true≢false (sym may ∙ ap (may_come first) (sym same) ∙ miss))
          (λ nine. absurd (not_end nine))

      next : may_come first found.x ≡ true → IsJudgedTo text (lines ++ found.x ∷ []) found.rest (next_section found.x)
      next hit = record {
        text_is = so_far.text_is ∙ ap (λ t. lines_text lines ++ t) found.is ∙ sym (lines_on lines found.x found.rest);
        readable = All-push IsReadable lines found.x so_far.readable found.can;
        begins = fold-append after_line (Some 0) lines (found.x ∷ []) ∙ ap (λ o. after_lines o (found.x ∷ [])) so_far.begins ∙ ap (λ b. if b then Some (next_section found.x) else None) hit;
      }

      shorter : length found.rest < length left
      shorter = omega (arith, line_longer found.x found.rest, ap length found.is)

judge : (most : ℕ) (text : List ℕ) (lines : List Line) (left : List ℕ) (first : ℕ) → length left < most → IsJudgedTo text lines left first → Judged text
judge zero text lines left first few so_far = absurd (omega (arith, few))
judge (suc most) text lines left first few so_far = elim (cases_eq first 9) [
  | inl nine ↦ at_end text lines left first so_far nine
  | inr other ↦ elim (decide_line left) [
    | inr none ↦ no_line text lines left first so_far other none
    | inl found ↦ elim (cases_Bool (may_come first found.x)) [
      | inr miss ↦ other_section text lines left first so_far other found miss
      | inl hit ↦ judge most text (lines ++ found.x ∷ []) found.rest (next_section found.x) (omega (arith, few, shorter text lines left first so_far other found)) (next text lines left first so_far other found hit)
    ]
  ]
]

pub judged : (text : List ℕ) → HasImageLines text ⊎ ((n : ℕ) × IsBadLine text n)
judged text = judge (length text + 1) text [] text 0 (omega arith) (record { text_is = refl; readable = All-nil IsReadable; begins = refl })
