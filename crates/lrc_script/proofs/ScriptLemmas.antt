-- Words, lines and what they are read as.
use Rattle.std.proofs.Common.{◌≡◌, ◌≢◌, ℕ, ◌+◌, nat_eq, nat_lt, count_by, ◌^◌, ◌<◌, ◌≤◌, Bool, true, false, not, ◌&&◌, ◌||◌, List, [], ◌∷◌, length, get_or, take, decimal, Option, Some, None, refl, sym, ap, ◌∙◌, arith}
use borrow.Author.Tests.{ltb-true, lt-ltb, le-ltb, eqb-true, eq-eqb}
use Rattle.std.specs.List.{list_all, starts_with}
use Rattle.std.specs.Bool.{Decides}
use Rattle.std.proofs.lemmas.List.{take_all}
use Rattle.std.proofs.lemmas.Slice.Eq.{bytes_eq-Decides}
use Rattle.std.specs.Char.{is_ascii_digit}
use Rattle.std.specs.Str.Parse.{digits_value}
use Rattle.std.proofs.lemmas.Fmt.{decimal-digits_value}
use Rattle.std.proofs.lemmas.Bool.Decides.{nat_tests}
use Rattle.std.specs.Borrow.{Bor}
use Rattle.std.proofs.lemmas.List.Splits.{length-slice_split}
use Rattle.lrc_script.specs.Cuts.{IsCut, words_behind}
use Rattle.lrc_script.specs.Scripts.{same_text, is_number, argument_cause, words_cause, cause_of, is_passed_over, words_of}
use Rattle.lrc_front.proofs.DigitLemmas.{own}
use Rattle.lrc_script.proofs.CutLemmas.{pieces_behind, slice_split-cut}

-- ---- texts

pub both : (a b : Bool) → (a && b) ≡ true → (a ≡ true) × (b ≡ true)
both true b e = (refl, e)
both false b e = cc

pub not_so : (b : Bool) → (b ≡ true → ⊥) → b ≡ false
not_so true never = absurd (never refl)
not_so false never = refl

same_text-Decides : (xs ys : List ℕ) → Decides (same_text xs ys) (xs ≡ ys)
same_text-Decides xs ys =
    let bytes = bytes_eq-Decides ys (take (length ys) xs) in
    let forth : same_text xs ys ≡ true → xs ≡ ys = λ e.
    let parts = both (nat_eq (length xs) (length ys)) (starts_with nat_eq xs ys) e in
    let long = eqb-true (length xs) (length ys) parts.0 in
    sym (bytes.0 parts.1 ∙ take_all (length ys) xs (omega (arith, long))) in
    let back : xs ≡ ys → same_text xs ys ≡ true = λ e. rw (eq-eqb (length xs) (length ys) (ap length e)) (bytes.1 (sym e ∙ sym (take_all (length ys) xs (omega (arith, ap length e))))) in
    (forth, back)

pub same_text-true : (xs ys : List ℕ) → same_text xs ys ≡ true → xs ≡ ys
same_text-true xs ys e = (same_text-Decides xs ys).0 e

pub same_text-own : (xs ys : List ℕ) → xs ≡ ys → same_text xs ys ≡ true
same_text-own xs ys e = (same_text-Decides xs ys).1 e

pub same_text-false : (xs ys : List ℕ) → xs ≢ ys → same_text xs ys ≡ false
same_text-false xs ys ne = not_so (same_text xs ys) (λ e. ne (same_text-true xs ys e))

-- ---- numbers

-- a word that is not empty and has no zero in front of more is a number where it has digits alone
pub is_number-digits : (word : List ℕ) → 0 < length word → (1 < length word → get_or word 0 0 ≢ 48) → list_all is_ascii_digit word ≡ is_number word
is_number-digits word some first = grind (arith, nat_tests)

no_zero : (size first : ℕ) → (nat_eq size 1 || not (nat_eq first 48)) ≡ true → first ≡ 48 → size ≡ 1
no_zero size first plain zero = grind (arith, nat_tests)

pub is_number-parts : (word : List ℕ) → is_number word ≡ true → (0 < length word) × (list_all is_ascii_digit word ≡ true) × (get_or word 0 0 ≡ 48 → length word ≡ 1)
is_number-parts word numeral =
    let plain = nat_eq (length word) 1 || not (nat_eq (get_or word 0 0) 48) in
    let some = both (nat_lt 0 (length word)) (list_all is_ascii_digit word && plain) numeral in
    let digits = both (list_all is_ascii_digit word) plain some.1 in
    (ltb-true 0 (length word) some.0, digits.0, no_zero (length word) (get_or word 0 0) digits.1)

module _ (word : List ℕ) (numeral : is_number word ≡ true) where
  -- a number is the decimal text of its value
  pub decimal-number : digits_value 10 word < 2 ^ 64 → word ≡ decimal (digits_value 10 word)
  decimal-number small = let parts = is_number-parts word numeral in sym (decimal-digits_value own word parts.1 parts.0 parts.2 small)

  pub argument_cause-below : (bound : ℕ) → digits_value 10 word < bound → argument_cause word bound ≡ None
  argument_cause-below bound below = rw (numeral, lt-ltb (digits_value 10 word) bound below) refl

-- ---- words

behind : (rest : Option (Bor (List ℕ))) → pieces_behind 32 rest ≡ words_behind rest
behind None = refl
behind (Some rest) = refl

pub words_of-cut : (line word : List ℕ) (rest : Option (Bor (List ℕ))) → IsCut 32 line word rest → words_of line ≡ word ∷ words_behind rest
words_of-cut line word rest cut = slice_split-cut 32 line word rest cut ∙ ap (λ words. word ∷ words) (behind rest)

some_pieces : {X : Type 0} (pieces : List X) (n : ℕ) → length pieces ≡ n + 1 → (first : X) × (more : List X) × (pieces ≡ first ∷ more)
some_pieces [] n e = absurd (omega (arith, e))
some_pieces (first ∷ more) n e = (first, more, refl)

pub words_of-some : (line : List ℕ) → (word : List ℕ) × (words : List (List ℕ)) × (words_of line ≡ word ∷ words)
words_of-some line = some_pieces (words_of line) (count_by (λ b. nat_eq b 32) line) (length-slice_split (λ b. nat_eq b 32) line)

-- ---- lines

module _ (line : List ℕ) (short : length line ≤ 1024) where
  pub cause_of-passed : is_passed_over line ≡ true → cause_of line ≡ None
  unfolding cause_of
  cause_of-passed passed = rw (le-ltb 1024 (length line) short, passed) refl

  pub cause_of-command : is_passed_over line ≡ false → cause_of line ≡ words_cause (words_of line)
  unfolding cause_of
  cause_of-command command = rw (le-ltb 1024 (length line) short, command) refl
