-- The table of forms holds the forms of commands, and the walk over a line's words finds its cause.
use Rattle.std.proofs.Common.{◌≡◌, ◌≢◌, ℕ, suc, ◌+◌, ◌^◌, ◌<◌, ◌≤◌, Bool, true, false, not, nat_eq, nat_lt, if◌then◌else◌, Option, Some, None, option_map, List, [], ◌∷◌, length, map, drop, get_or, refl, sym, ap, ◌∙◌, arith}
use borrow.Author.Tests.{ne_eqb}
use Rattle.std.specs.Borrow.{Bor}
use Rattle.std.specs.List.{All, list_all}
use Rattle.std.specs.Option.{option_or, is_some, IsSome, IfSome}
use Rattle.std.proofs.lemmas.Bool.Decides.{nat_tests}
use Rattle.std.proofs.lemmas.List.{get_or-map, length-map, drop_more}
use Rattle.std.proofs.lemmas.List.Sums.{AllPass-from_list_all}
use Rattle.lrc_rules.specs.declared.command.Command.{Command}
use Rattle.lrc_script.specs.declared.script.Cause.{Cause}
use Rattle.lrc_script.specs.declared.script.Cause.TheVariants.{WordCount}
use Rattle.lrc_script.specs.Scripts.{Form, form_of, form_in, form_cause, or_else, argument_cause, arguments_cause, numbers_cause, same_text, words_of, words_cause, command_line, IsInRange}
use Rattle.lrc_script.specs.Cuts.{IsCut, words_behind, row_form}
use Rattle.lrc_script.proofs.ScriptLemmas.{both, same_text-own, same_text-false, words_of-cut, words_of-some}
use Rattle.lrc_script.proofs.FormLemmas.{all_forms}
use Rattle.lrc_script.proofs.CauseLemmas.{words_cause-none}

-- ---- the table

-- a row of the table
abbrev Row : Type 0
Row = Bor (List ℕ) × Bor (List ℕ)

module _ (rows : List Row) (word : List ℕ) where
  left : (i : ℕ) (d : Row) → i < length rows → drop i (map row_form rows) ≡ row_form (get_or rows i d) ∷ drop (i + 1) (map row_form rows)
  left i d within =
      let long = length-map rows row_form in
      drop_more (map row_form rows) i (row_form d) (omega (arith, long, within)) ∙ ap (λ form. form ∷ drop (i + 1) (map row_form rows)) (get_or-map row_form rows i d (row_form d) within)

  -- another word is not that of this row
  pub form_in-next : (i : ℕ) (d : Row) → i < length rows → word ≢ (get_or rows i d).0.now → form_in (drop i (map row_form rows)) word ≡ form_in (drop (i + 1) (map row_form rows)) word
  form_in-next i d within other = ap (λ forms. form_in forms word) (left i d within) ∙ rw (same_text-false word (get_or rows i d).0.now other) refl

  -- the word of this row has its form
  pub form_in-here : (i : ℕ) (d : Row) → i < length rows → word ≡ (get_or rows i d).0.now → form_in (drop i (map row_form rows)) word ≡ Some (row_form (get_or rows i d))
  form_in-here i d within same = ap (λ forms. form_in forms word) (left i d within) ∙ rw (same_text-own word (get_or rows i d).0.now same) refl

abbrev is_narrow : ℕ → Bool
is_narrow bound = not (nat_lt 4294967296 bound)

at_most : (bound : ℕ) → is_narrow bound ≡ true → bound ≤ 2 ^ 32
at_most bound test = grind (arith, nat_tests)

first_or : (is : Bool) (form : Form) (other : Option Form) (bounds : List ℕ) → list_all is_narrow form.bounds ≡ true
    → (option_map (λ f. f.bounds) other ≡ Some bounds → list_all is_narrow bounds ≡ true) → option_map (λ f. f.bounds) (if is then Some form else other) ≡ Some bounds → list_all is_narrow bounds ≡ true
first_or true form other bounds this that found = let same : form.bounds ≡ bounds = cc in ap (list_all is_narrow) (sym same) ∙ this
first_or false form other bounds this that found = that found

all_narrow : (forms : List Form) (word bounds : List ℕ) → list_all (λ form. list_all is_narrow form.bounds) forms ≡ true → option_map (λ form. form.bounds) (form_in forms word) ≡ Some bounds
    → list_all is_narrow bounds ≡ true
all_narrow [] word bounds all found = cc
all_narrow (form ∷ forms) word bounds all found =
    let parts = both (list_all is_narrow form.bounds) (list_all (λ f. list_all is_narrow f.bounds) forms) all in
    first_or (same_text word form.word) form (form_in forms word) bounds parts.0 (all_narrow forms word bounds parts.1) found

-- the bounds of a command's numbers are at most 2 ^ 32
pub narrow : (result : Option (Bor (List ℕ))) (word : List ℕ) → IfSome result (λ bounds. option_map (λ form. form.bounds) (form_of word) ≡ Some bounds.now)
    → IfSome result (λ bounds. All (λ bound. bound ≤ 2 ^ 32) bounds.now)
narrow None word found = tt
narrow (Some bounds) word found = λ k d within.
    at_most (get_or bounds.now k d) (AllPass-from_list_all is_narrow bounds.now (all_narrow all_forms word bounds.now refl found) k d within)

-- ---- the words of a line, one after the other

-- the cause of these words and bounds, where the words before them have this one
abbrev pub left_cause : Option Cause → List (List ℕ) → List ℕ → Option Cause
left_cause cause words bounds = if nat_eq (length words) (length bounds) then or_else cause (arguments_cause words bounds) else Some WordCount

of_form : (words : List (List ℕ)) (found : Option Form) (bounds : List ℕ) → option_map (λ form. form.bounds) found ≡ Some bounds → form_cause words found ≡ numbers_cause words bounds
of_form words None bounds is = cc
of_form words (Some form) bounds is = let same : form.bounds ≡ bounds = cc in ap (numbers_cause words) same

pub left_cause-start : (line word : List ℕ) (rest : Option (Bor (List ℕ))) (bounds : List ℕ) → IsCut 32 line word rest → option_map (λ form. form.bounds) (form_of word) ≡ Some bounds
    → words_cause (words_of line) ≡ left_cause None (words_behind rest) bounds
left_cause-start line word rest bounds cut found = ap words_cause (words_of-cut line word rest cut) ∙ of_form (words_behind rest) (form_of word) bounds found

or_else-next : (cause other later : Option Cause) → or_else cause (or_else other later) ≡ or_else (option_or cause other) later
or_else-next None other later = refl
or_else-next (Some cause) other later = refl

same_lengths : (m n : ℕ) → nat_eq (suc m) (suc n) ≡ nat_eq m n
same_lengths m n = grind (arith, nat_tests)

-- one word and one bound more
pub left_cause-next : (cause : Option Cause) (line word : List ℕ) (rest : Option (Bor (List ℕ))) (bounds : List ℕ) (i d : ℕ) → IsCut 32 line word rest → i < length bounds
    → left_cause cause (words_of line) (drop i bounds) ≡ left_cause (option_or cause (argument_cause word (get_or bounds i d))) (words_behind rest) (drop (i + 1) bounds)
left_cause-next cause line word rest bounds i d cut within =
    ap (λ words. left_cause cause words (drop i bounds)) (words_of-cut line word rest cut) ∙ ap (left_cause cause (word ∷ words_behind rest)) (drop_more bounds i d within)
    ∙ ap (λ b. if b then or_else cause (or_else (argument_cause word (get_or bounds i d)) (arguments_cause (words_behind rest) (drop (i + 1) bounds))) else Some WordCount)
    (same_lengths (length (words_behind rest)) (length (drop (i + 1) bounds)))
    ∙ ap (λ o. if nat_eq (length (words_behind rest)) (length (drop (i + 1) bounds)) then o else Some WordCount)
    (or_else-next cause (argument_cause word (get_or bounds i d)) (arguments_cause (words_behind rest) (drop (i + 1) bounds)))

-- words are left, or none
pub left_cause-many : (cause : Option Cause) (rest : Option (Bor (List ℕ))) → is_some rest ≡ true → left_cause cause (words_behind rest) [] ≡ Some WordCount
left_cause-many cause None some = cc
left_cause-many cause (Some line) some = let split = words_of-some line.now in rw (split.2, ne_eqb (suc (length split.1)) 0 (omega arith)) refl

pub left_cause-end : (cause : Option Cause) (rest : Option (Bor (List ℕ))) → is_some rest ≡ false → left_cause cause (words_behind rest) [] ≡ cause
left_cause-end None None none = refl
left_cause-end (Some cause) None none = refl
left_cause-end cause (Some line) none = cc

-- the line of no command has a cause
pub some_cause : (line : List ℕ) (cause : Option Cause) → ((command : Command) → IsInRange command → line ≢ command_line command) → words_cause (words_of line) ≡ cause → IsSome cause
some_cause line None none good = let found = words_cause-none line good in absurd (none found.0 found.1 found.2)
some_cause line (Some cause) none good = refl
