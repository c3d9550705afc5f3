-- Lines of a text, one behind the other.
use Rattle.std.proofs.Common.{◌≡◌, ◌≢◌, ℕ, ◌+◌, ◌<◌, ◌≤◌, true, Some, List, [], ◌∷◌, ◌++◌, length, map, codes, refl, sym, ap, ◌∙◌, append-nil, append_assoc, length-append, arith}
use Rattle.std.specs.Borrow.{Bor}
use Rattle.std.specs.List.{All}
use Rattle.std.proofs.lemmas.List.{map-append}
use Rattle.std.proofs.lemmas.List.Elements.{All-nil, All-push}
use Rattle.lrc_image_text.specs.Lines.{Line, spaced, first_word, other_words, line_text, lines_text, IsReadable}
use Rattle.lrc_image_text.specs.Texts.{may_come, after_lines, IsBadLine}
use Rattle.lrc_image_text.specs.Fronts.{words_on, line_on, IsRowRead}
use Rattle.lrc_image_text.proofs.TextLemmas.{lines_text-append}

words_text : (ws : List (List ℕ)) (rest : List ℕ) → (spaced ws ++ codes "\n") ++ rest ≡ words_on ws rest
words_text [] rest = refl
words_text (w ∷ ws) rest =
    ap (λ t. 32 ∷ t) (append_assoc (w ++ spaced ws) (codes "\n") rest ∙ append_assoc w (spaced ws) (10 ∷ rest)
    ∙ ap (λ t. w ++ t) (sym (append_assoc (spaced ws) (codes "\n") rest) ∙ words_text ws rest))

-- a line in front of a text
pub line_on-text : (line : Line) (rest : List ℕ) → line_text line ++ rest ≡ line_on line rest
line_on-text line rest = append_assoc (first_word line) (spaced (other_words line) ++ codes "\n") rest ∙ ap (λ t. first_word line ++ t) (words_text (other_words line) rest)

words_longer : (ws : List (List ℕ)) (rest : List ℕ) → length rest < length (words_on ws rest)
words_longer [] rest = omega arith
words_longer (w ∷ ws) rest = omega (arith, words_longer ws rest, length-append w (words_on ws rest))

pub line_longer : (line : Line) (rest : List ℕ) → length rest < length (line_on line rest)
line_longer line rest = omega (arith, words_longer (other_words line) rest, length-append (first_word line) (words_on (other_words line) rest))

-- there are no more lines than bytes
pub lines_short : (lines : List Line) → length lines ≤ length (lines_text lines)
lines_short [] = omega arith
lines_short (l ∷ ls) =
    let long = line_longer l (lines_text ls) in
    omega (arith, lines_short ls, long, ap length (line_on-text l (lines_text ls)))

-- one line more
pub lines_on : (lines : List Line) (line : Line) (rest : List ℕ) → lines_text (lines ++ line ∷ []) ++ rest ≡ lines_text lines ++ line_on line rest
lines_on lines line rest =
    ap (λ t. t ++ rest) (lines_text-append lines (line ∷ [])) ∙ append_assoc (lines_text lines) (line_text line ++ []) rest
    ∙ ap (λ t. lines_text lines ++ (t ++ rest)) (append-nil (line_text line)) ∙ ap (λ t. lines_text lines ++ t) (line_on-text line rest)

-- ---- rows

-- the text starts with the lines of these rows, and this is left
pub record IsReadSoFar {X : Type 0} (line : X → Line) (text : List ℕ) (rows : List X) (left : List ℕ) : Type 0 where
  pub text_is : text ≡ lines_text (map line rows) ++ left
  pub readable : All (λ row. IsReadable (line row)) rows

pub IsReadSoFar-start : {X : Type 0} (line : X → Line) (text : List ℕ) → IsReadSoFar line text [] text
IsReadSoFar-start line text = record { text_is = refl; readable = All-nil (λ row. IsReadable (line row)) }

pub IsReadSoFar-next : {X : Type 0} (line : X → Line) (text left next : List ℕ) (rows : List X) (row : X) → IsReadSoFar line text rows left → IsReadable (line row) → left ≡ line_on (line row) next
    → IsReadSoFar line text (rows ++ row ∷ []) next
IsReadSoFar-next line text left next rows row so_far readable is = record {
  text_is = so_far.text_is ∙ ap (λ t. lines_text (map line rows) ++ t) is ∙ sym (lines_on (map line rows) (line row) next)
      ∙ ap (λ ls. lines_text ls ++ next) (sym (map-append line rows (row ∷ [])));
  readable = All-push (λ r. IsReadable (line r)) rows row so_far.readable readable;
}

-- a row is read
pub IsReadSoFar-row : {X : Type 0} (line : X → Line) (text mid : List ℕ) (old new : List X) (left : Bor (List ℕ)) → IsReadSoFar line text old mid → IsRowRead line mid old new (Some left) → IsReadSoFar line text new left.now
IsReadSoFar-row line text mid old new left so_far read = rw read.3 (IsReadSoFar-next line text mid left.now old read.0 so_far read.1 read.2)

pub row_smaller : {X : Type 0} (line : X → Line) (text : List ℕ) (old new : List X) (left : Bor (List ℕ)) → IsRowRead line text old new (Some left) → length left.now < length text
row_smaller line text old new left read = omega (arith, line_longer (line read.0) left.now, ap length read.2)

-- ---- bad lines

pub bad_line : (text : List ℕ) (lines : List Line) (left : List ℕ) (first : ℕ) → text ≡ lines_text lines ++ left → All IsReadable lines → after_lines (Some 0) lines ≡ Some first
    → ((line : Line) (rest : List ℕ) → IsReadable line → may_come first line ≡ true → left ≢ line_on line rest) → (first ≡ 9 → left ≢ []) → IsBadLine text (length lines + 1)
bad_line text lines left first is readable begins none more = record {
  before = lines;
  left = left;
  first = first;
  text_is = is;
  readable = readable;
  may_begin = begins;
  numbered = refl;
  bad = λ line rest can may is'. none line rest can may (is' ∙ line_on-text line rest);
  more = more;
}
