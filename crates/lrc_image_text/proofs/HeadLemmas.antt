-- The first three lines.
use Rattle.std.proofs.Common.{◌≡◌, ◌≢◌, ℕ, ◌^◌, ◌<◌, true, List, [], ◌∷◌, ◌++◌, codes, decimal, refl, sym, ap, ◌∙◌, arith}
use Rattle.std.proofs.lemmas.Bool.{true≢false}
use Rattle.std.proofs.lemmas.List.Elements.{All-nil, All-cons}
use Rattle.lrc_image_text.specs.Lines.{Line, Version, Before, Clock, lines_text, IsReadable}
use Rattle.lrc_image_text.specs.Texts.{may_come, IsBadLine, IsHead}
use Rattle.lrc_image_text.specs.Fronts.{line_on}
use Rattle.lrc_image_text.proofs.LineLemmas.{lines_on, bad_line}

not_first : (left : List ℕ) → ((rest : List ℕ) → left ≢ codes "image 1\n" ++ rest) → (line : Line) (rest : List ℕ) → IsReadable line → may_come 0 line ≡ true → left ≢ line_on line rest
not_first left none Version rest readable may is = none rest is
not_first left none line rest readable may is = true≢false (sym may)

not_second : (left : List ℕ) → ((n : ℕ) (rest : List ℕ) → n < 2 ^ 64 → left ≢ codes "before " ++ (decimal n ++ 10 ∷ rest)) → (line : Line) (rest : List ℕ) → IsReadable line → may_come 1 line ≡ true → left ≢ line_on line rest
not_second left none (Before n) rest readable may is = none n rest readable is
not_second left none line rest readable may is = true≢false (sym may)

not_third : (left : List ℕ) → ((n : ℕ) (rest : List ℕ) → n < 4294967296 → left ≢ codes "clock " ++ (decimal n ++ 10 ∷ rest)) → (line : Line) (rest : List ℕ) → IsReadable line → may_come 2 line ≡ true → left ≢ line_on line rest
not_third left none (Clock n) rest readable may is = none n rest readable is
not_third left none line rest readable may is = true≢false (sym may)

pub first_bad : (text : List ℕ) → ((rest : List ℕ) → text ≢ codes "image 1\n" ++ rest) → IsBadLine text 1
first_bad text none = bad_line text [] text 0 refl (All-nil IsReadable) refl (not_first text none) (λ e. absurd (omega (arith, e)))

module _ (text rest : List ℕ) (is : text ≡ codes "image 1\n" ++ rest) where
  pub second_bad : ((n : ℕ) (more : List ℕ) → n < 2 ^ 64 → rest ≢ codes "before " ++ (decimal n ++ 10 ∷ more)) → IsBadLine text 2
  second_bad none = bad_line text (Version ∷ []) rest 1 is (All-cons IsReadable Version [] tt (All-nil IsReadable)) refl (not_second rest none) (λ e. absurd (omega (arith, e)))

  module _ (before : ℕ) (left : List ℕ) (fits : before < 2 ^ 64) (next : rest ≡ codes "before " ++ (decimal before ++ 10 ∷ left)) where
    first_two : text ≡ lines_text (Version ∷ Before before ∷ []) ++ left
    first_two = is ∙ ap (λ t. codes "image 1\n" ++ t) next ∙ sym (lines_on (Version ∷ []) (Before before) left)

    pub third_bad : ((n : ℕ) (more : List ℕ) → n < 4294967296 → left ≢ codes "clock " ++ (decimal n ++ 10 ∷ more)) → IsBadLine text 3
    third_bad none =
        bad_line text (Version ∷ Before before ∷ []) left 2 first_two (All-cons IsReadable Version (Before before ∷ []) tt (All-cons IsReadable (Before before) [] fits (All-nil IsReadable)))
        refl (not_third left none) (λ e. absurd (omega (arith, e)))

    pub head_is : (clock : ℕ) (more : List ℕ) → clock < 4294967296 → left ≡ codes "clock " ++ (decimal clock ++ 10 ∷ more) → IsHead text before clock more
    head_is clock more fits' last = record {
      before_fits = fits;
      clock_fits = fits';
      text_is = first_two ∙ ap (λ t. lines_text (Version ∷ Before before ∷ []) ++ t) last ∙ sym (lines_on (Version ∷ Before before ∷ []) (Clock clock) more);
    }
