-- The line of a command at the start of a text.
use Rattle.std.proofs.Common.{◌≡◌, ◌≢◌, ◌⊎◌, ℕ, Bool, true, false, not, ◌&&◌, ◌||◌, nat_eq, nat_lt, Option, Some, suc, List, [], ◌∷◌, ◌++◌, length, map, get_or, decimal, refl, sym, ap, subst, ◌∙◌, append_assoc, inl, inr, arith}
use borrow.Author.Tests.{ltb-true, eq-eqb, ne_eqb}
use Rattle.std.specs.Borrow.{Bor}
use Rattle.std.specs.List.{All, list_all, join_with_byte}
use Rattle.std.proofs.lemmas.Bool.Decides.{nat_tests}
use Rattle.std.proofs.lemmas.List.{get_or_append_left}
use Rattle.std.proofs.lemmas.List.Elements.{All-append}
use Rattle.std.proofs.lemmas.List.Sums.{AllPass-from_list_all}
use Rattle.lrc_rules.specs.declared.command.Command.{Command}
use Rattle.lrc_script.specs.Scripts.{Form, form_of, same_text, numbers_text, command_line, IsInRange, line_with}
use Rattle.lrc_script.specs.Cuts.{IsCut, AreBelow, HasNoNumbers, HasNoCommand, IsLineRead}
use Rattle.lrc_script.proofs.ScriptLemmas.{both, same_text-true}
use Rattle.lrc_script.proofs.NumbersLemmas.{digits_alone}
use Rattle.lrc_script.proofs.FormLemmas.{form_with, all_forms, form_at, index_of, numbers_of, line_of, form_sound, no_end, command_kept}
use Rattle.lrc_script.proofs.CauseLemmas.{cause_of-command_line}

-- ---- no end of a line stands in the line of a command

space_no_end : All (λ (b : ℕ). b ≢ 10) (32 ∷ [])
space_no_end k d within = grind (arith, nat_tests)

line_no_end : (word : List ℕ) (ns bounds : List ℕ) → All (λ b. b ≢ 10) word → AreBelow ns bounds → All (λ b. b ≢ 10) (join_with_byte 32 (word ∷ map decimal ns))
line_no_end word [] bounds none below = none
line_no_end word (n ∷ ns) [] none below = absurd below
line_no_end word (n ∷ ns) (bound ∷ bounds) none below =
    let digits = digits_alone n 10 (omega (arith, below.0.0, below.0.1)) refl in
    All-append (λ b. b ≢ 10) word (32 ∷ numbers_text (n ∷ ns)) none
    (All-append (λ b. b ≢ 10) (32 ∷ []) (numbers_text (n ∷ ns)) space_no_end (line_no_end (decimal n) ns bounds digits below.1))

pub command_no_end : (command : Command) → IsInRange command → All (λ b. b ≢ 10) (command_line command)
command_no_end command range =
    let is = line_of command in
    let form = form_at (index_of command) in
    subst (All (λ b. b ≢ 10)) (sym is.line) (line_no_end form.word (numbers_of command) form.bounds (no_end form.word (form_sound command).letters) (is.below range))

-- a line at the start of a text, and its command after those before
pub IsLineRead-front :
    (text : List ℕ) (before : List Command) (command : Command) (rest : Bor (List ℕ)) → IsInRange command → text ≡ command_line command ++ 10 ∷ rest.now
    → IsLineRead text before (before ++ command ∷ []) (Some rest)
IsLineRead-front text before command rest range is = record {
  line = command_line command;
  cut = (command_no_end command range, is);
  good = cause_of-command_line command range;
  added = record { read = Some command; is_read = (command_kept command range, range, refl); commands = refl };
}

-- ---- which line a text starts with

-- the byte after a word: a space, or the end of the line
abbrev pub byte_after : List ℕ → ℕ
byte_after [] = 10
byte_after (bound ∷ bounds) = 32

-- how each line of a form begins
abbrev pub head_of : Form → List ℕ
head_of form = form.word ++ byte_after form.bounds ∷ []

starts : (word : List ℕ) (ns bounds rest : List ℕ) → AreBelow ns bounds → (tail : List ℕ) × (join_with_byte 32 (word ∷ map decimal ns) ++ 10 ∷ rest ≡ (word ++ byte_after bounds ∷ []) ++ tail)
starts word [] [] rest below = (rest, sym (append_assoc word (10 ∷ []) rest))
starts word [] (bound ∷ bounds) rest below = absurd below
starts word (n ∷ ns) [] rest below = absurd below
starts word (n ∷ ns) (bound ∷ bounds) rest below =
    (numbers_text (n ∷ ns) ++ 10 ∷ rest, append_assoc word (32 ∷ numbers_text (n ∷ ns)) (10 ∷ rest) ∙ sym (append_assoc word (32 ∷ []) (numbers_text (n ∷ ns) ++ 10 ∷ rest)))

-- a byte of a text, and whether it is this one
pub record Look : Type 0 where
  pub at : ℕ
  pub byte : ℕ
  pub is : Bool

-- this byte is there, or another
abbrev pub has : ℕ → ℕ → Look
has at byte = record { at = at; byte = byte; is = true }

abbrev pub lacks : ℕ → ℕ → Look
lacks at byte = record { at = at; byte = byte; is = false }

abbrev pub AreTrue : List ℕ → List Look → Type 0
AreTrue text [] = Unit {0}
AreTrue text (look ∷ looks) = (nat_eq (get_or text look.at 0) look.byte ≡ look.is) × AreTrue text looks

pub is : (b byte : ℕ) → b ≡ byte → nat_eq b byte ≡ true
is b byte same = eq-eqb b byte same

pub is_not : (b byte : ℕ) → b ≢ byte → nat_eq b byte ≡ false
is_not b byte other = ne_eqb b byte other

abbrev pub differ : Bool → Bool → Bool
differ true b = not b
differ false b = b

-- one of these looks shows that a text starts with no line of the form
abbrev pub is_ruled_out : List Look → Form → Bool
is_ruled_out [] form = false
is_ruled_out (look ∷ looks) form =
    (nat_lt look.at (length (head_of form)) && differ (nat_eq (get_or (head_of form) look.at 0) look.byte) look.is) || is_ruled_out looks form

-- the text starts with no line of the form
abbrev pub HasNoLine : List ℕ → Form → Type 0
HasNoLine text form = (ns rest : List ℕ) → AreBelow ns form.bounds → text ≢ line_with form ns ++ 10 ∷ rest

same_differ : (b : Bool) → differ b b ≡ false
same_differ true = refl
same_differ false = refl

either : (a b : Bool) → (a || b) ≡ true → (a ≡ true) ⊎ (b ≡ true)
either true b e = inl refl
either false b e = inr e

ruled_out : (text : List ℕ) (form : Form) (looks : List Look) → AreTrue text looks → is_ruled_out looks form ≡ true → HasNoLine text form
ruled_out text form [] true_looks e ns rest below is = cc
ruled_out text form (look ∷ looks) true_looks e ns rest below is =
    let here = nat_lt look.at (length (head_of form)) && differ (nat_eq (get_or (head_of form) look.at 0) look.byte) look.is in
    elim (either here (is_ruled_out looks form) e) [
      | inl this ↦
          let parts = both (nat_lt look.at (length (head_of form))) (differ (nat_eq (get_or (head_of form) look.at 0) look.byte) look.is) this in
          let start = starts form.word ns form.bounds rest below in
          let byte : get_or text look.at 0 ≡ get_or (head_of form) look.at 0 =
          ap (λ t. get_or t look.at 0) (is ∙ start.1) ∙ get_or_append_left (head_of form) start.0 0 look.at (ltb-true look.at (length (head_of form)) parts.0) in
          let seen : nat_eq (get_or (head_of form) look.at 0) look.byte ≡ look.is = ap (λ b. nat_eq b look.byte) (sym byte) ∙ true_looks.0 in
          let no : differ look.is look.is ≡ true = ap (λ b. differ b look.is) (sym seen) ∙ parts.1 in
          let never : false ≡ true = sym (same_differ look.is) ∙ no in cc
      | inr later ↦ ruled_out text form looks true_looks.1 later ns rest below is
    ]

-- no command's line is there where that of no form is
no_command : (text : List ℕ) → ((command : Command) → HasNoLine text (form_at (index_of command))) → HasNoCommand text
no_command text none command rest range is =
    let line = line_of command in
    none command (numbers_of command) rest (line.below range) (is ∙ ap (λ l. l ++ 10 ∷ rest) line.line)

module _ (text : List ℕ) (looks : List Look) (true_looks : AreTrue text looks) where
  but : (word bounds : List ℕ) → form_of word ≡ Some (form_with word bounds) → HasNoLine text (form_with word bounds) → (form : Form) → form_of form.word ≡ Some form
      → (is_ruled_out looks form || same_text form.word word) ≡ true → HasNoLine text form
  but word bounds found none form its tested = elim (either (is_ruled_out looks form) (same_text form.word word) tested) [
    | inl this ↦ ruled_out text form looks true_looks this
    | inr same ↦
        let both_are : Some (form_with word bounds) ≡ Some form = sym found ∙ ap form_of (sym (same_text-true form.word word same)) ∙ its in
        let the_form : form_with word bounds ≡ form = cc in
        subst (HasNoLine text) the_form none
  ]

  -- each form but that of this word is
  pub no_command-but : (word bounds : List ℕ) → form_of word ≡ Some (form_with word bounds) → list_all (λ form. is_ruled_out looks form || same_text form.word word) all_forms ≡ true
      → HasNoLine text (form_with word bounds) → HasNoCommand text
  no_command-but word bounds found out none = no_command text (λ command. but word bounds found none (form_at (index_of command)) (line_of command).found
      (AllPass-from_list_all (λ form. is_ruled_out looks form || same_text form.word word) all_forms out (index_of command) (form_with [] []) (line_of command).within))

-- ---- what is missing after a word

pub no_line-numbers : (text word : List ℕ) (bound : ℕ) (bounds : List ℕ) → HasNoNumbers text (word ++ 32 ∷ []) (bound ∷ bounds) → HasNoLine text (form_with word (bound ∷ bounds))
no_line-numbers text word bound bounds none [] rest below is = absurd below
no_line-numbers text word bound bounds none (n ∷ ns) rest below is =
    none (n ∷ ns) rest below (is ∙ append_assoc word (32 ∷ numbers_text (n ∷ ns)) (10 ∷ rest) ∙ sym (append_assoc word (32 ∷ []) (numbers_text (n ∷ ns) ++ 10 ∷ rest)))

-- ---- a text with an end in it

has_end : (first rest : List ℕ) → All (λ b. b ≢ 10) (first ++ 10 ∷ rest) → ⊥
has_end [] rest none = none 0 0 (omega arith) refl
has_end (b ∷ first) rest none = has_end first rest (λ k d within. none (suc k) d (omega (arith, within)))

-- a text with an end in it is no command's line
pub cut_is_no_line : (text first : List ℕ) (found : Option (Bor (List ℕ))) (rest : Bor (List ℕ)) → found ≡ Some rest → IsCut 10 text first found
    → (command : Command) → IsInRange command → text ≢ command_line command
cut_is_no_line text first found rest is cut command range line =
    let parts = subst (IsCut 10 text first) is cut in
    has_end first rest.now (subst (All (λ b. b ≢ 10)) (sym line ∙ parts.1) (command_no_end command range))
