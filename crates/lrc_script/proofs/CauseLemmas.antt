-- A line without a cause is the line of a command, and the other way round.
use Rattle.std.proofs.Common.{◌≡◌, ◌≢◌, ℕ, suc, ◌^◌, ◌<◌, ◌≤◌, lit≤, ◌↔◌, ◌⊎◌, inl, inr, Bool, true, false, nat_eq, nat_lt, if◌then◌else◌, Option, Some, None, List, [], ◌∷◌, ◌++◌, length, map, codes, decimal, refl, sym, ap, ◌∙◌, arith}
use borrow.Author.Tests.{ltb-true, eqb-true, eq-eqb}
use Rattle.std.specs.List.{All, join_with_byte}
use Rattle.std.specs.Str.Parse.{digits_value}
use Rattle.std.proofs.lemmas.Fmt.{digits_decimal, digits_value-decimal, decimal_nonempty}
use Rattle.std.proofs.lemmas.List.Splits.{slice_split_none, slice_split_at, join_with_byte-slice_split}
use Rattle.lrc_rules.specs.declared.command.Command.{Command}
use Rattle.lrc_rules.specs.declared.command.Command.TheVariants.{Place, Place6, Drop, Lease, Next, Done, Abandon, Revoke, Fail, Down, Up, Drain, Undrain, Retire, Join, Upgrade, Upgraded, Tick}
use Rattle.lrc_code.specs.declared.numbers.StripeNo.{StripeNo}
use Rattle.lrc_code.specs.declared.numbers.NodeNo.{NodeNo}
use Rattle.lrc_code.specs.declared.numbers.Fragment.{Fragment}
use Rattle.lrc_code.specs.declared.numbers.UpgradeNo.{UpgradeNo}
use Rattle.lrc_script.specs.declared.script.Cause.{Cause}
use Rattle.lrc_script.specs.declared.script.Cause.TheVariants.{WordCount, NotANumber, OutOfRange}
use Rattle.lrc_script.specs.Scripts.{Form, same_text, is_number, argument_cause, or_else, arguments_cause, numbers_cause, form_cause, form_of, words_cause, words_of, is_passed_over, numbers_text, command_line, IsInRange, cause_of}
use Rattle.lrc_script.specs.Cuts.{AreBelow}
use Rattle.lrc_script.proofs.CutLemmas.{has_none}
use Rattle.lrc_script.proofs.LineLemmas.{cause_of-short}
use Rattle.lrc_script.proofs.NumbersLemmas.{digits_alone}
use Rattle.lrc_script.proofs.FormLemmas.{form_with, form_at, index_of, numbers_of, line_of, form_sound, command_line-short, command_kept, no_space}
use Rattle.lrc_front.proofs.DigitLemmas.{own}
use Rattle.lrc_front.proofs.NumberLemmas.{zero_alone}
use Rattle.lrc_script.proofs.ScriptLemmas.{is_number-digits, decimal-number, argument_cause-below, cause_of-passed, cause_of-command, same_text-true, words_of-some}

-- ---- the line of a command is good

module _ (n : ℕ) (small : n < 2 ^ 64) where
  is_number-decimal : is_number (decimal n) ≡ true
  is_number-decimal = sym (is_number-digits (decimal n) (decimal_nonempty n small) (zero_alone n small)) ∙ digits_decimal own n small

  argument_cause-decimal : (bound : ℕ) → n < bound → argument_cause (decimal n) bound ≡ None
  argument_cause-decimal bound below = let value = digits_value-decimal own n small in argument_cause-below (decimal n) is_number-decimal bound (omega (arith, value))

-- numbers below these bounds have no cause
numbers_cause-none : (ns bounds : List ℕ) → AreBelow ns bounds → (length (map decimal ns) ≡ length bounds) × (arguments_cause (map decimal ns) bounds ≡ None)
numbers_cause-none [] [] below = (refl, refl)
numbers_cause-none [] (bound ∷ bounds) below = absurd below
numbers_cause-none (n ∷ ns) [] below = absurd below
numbers_cause-none (n ∷ ns) (bound ∷ bounds) below =
    let rest = numbers_cause-none ns bounds below.1 in
    (ap suc rest.0, rw (argument_cause-decimal n (omega (arith, below.0.0, below.0.1)) bound below.0.0, rest.1) refl)

-- a word and numbers are the words of their line
words_of-line : (word : List ℕ) (ns bounds : List ℕ) → All (λ b. b ≢ 32) word → AreBelow ns bounds → words_of (join_with_byte 32 (word ∷ map decimal ns)) ≡ word ∷ map decimal ns
words_of-line word [] bounds none below = slice_split_none (λ b. nat_eq b 32) word (has_none 32 word none)
words_of-line word (n ∷ ns) [] none below = absurd below
words_of-line word (n ∷ ns) (bound ∷ bounds) none below =
    slice_split_at (λ b. nat_eq b 32) word 32 (numbers_text (n ∷ ns)) (has_none 32 word none) refl
    ∙ ap (λ ws. word ∷ ws) (words_of-line (decimal n) ns bounds (digits_alone n 32 (omega (arith, below.0.0, below.0.1)) refl) below.1)

pub words_of-numbers : (n : ℕ) (ns bounds : List ℕ) → AreBelow (n ∷ ns) bounds → words_of (numbers_text (n ∷ ns)) ≡ map decimal (n ∷ ns)
words_of-numbers n ns [] below = absurd below
words_of-numbers n ns (bound ∷ bounds) below = words_of-line (decimal n) ns bounds (digits_alone n 32 (omega (arith, below.0.0, below.0.1)) refl) below.1

pub cause_of-command_line : (command : Command) → IsInRange command → cause_of (command_line command) ≡ None
cause_of-command_line command range =
    let is = line_of command in
    let form = form_at (index_of command) in
    let ns = numbers_of command in
    let none = numbers_cause-none ns form.bounds (is.below range) in
    let words = ap words_of is.line ∙ words_of-line form.word ns form.bounds (no_space form.word (form_sound command).letters) (is.below range) in
    cause_of-command (command_line command) (omega (arith, command_line-short command range)) (command_kept command range)
    ∙ ap words_cause words ∙ ap (form_cause (map decimal ns)) is.found ∙ rw (eq-eqb (length (map decimal ns)) (length form.bounds) none.0, none.1) refl

-- ---- a line without a cause

both_tests : (numeral below : Bool) → (if numeral then (if below then None else Some OutOfRange) else Some NotANumber) ≡ None → (numeral ≡ true) × (below ≡ true)
both_tests true true e = (refl, refl)
both_tests true false e = cc
both_tests false below e = cc

neither : (first other : Option Cause) → or_else first other ≡ None → (first ≡ None) × (other ≡ None)
neither None other e = (refl, e)
neither (Some cause) other e = cc

-- no bound is above 2 ^ 32
abbrev AreNarrow : List ℕ → Type 0
AreNarrow [] = Unit {0}
AreNarrow (bound ∷ bounds) = (bound ≤ 2 ^ 32) × AreNarrow bounds

-- the words are the decimal texts of numbers below these bounds
abbrev AreNumbers : List (List ℕ) → List ℕ → Type 0
AreNumbers words bounds = (ns : List ℕ) × AreBelow ns bounds × (words ≡ map decimal ns)

arguments_numbers : (words : List (List ℕ)) (bounds : List ℕ) → AreNarrow bounds → length words ≡ length bounds → arguments_cause words bounds ≡ None → AreNumbers words bounds
arguments_numbers [] [] narrow long good = ([], tt, refl)
arguments_numbers [] (bound ∷ bounds) narrow long good = absurd (omega (arith, long))
arguments_numbers (word ∷ words) [] narrow long good = absurd (omega (arith, long))
arguments_numbers (word ∷ words) (bound ∷ bounds) narrow long good =
    let parts = neither (argument_cause word bound) (arguments_cause words bounds) good in
    let tests = both_tests (is_number word) (nat_lt (digits_value 10 word) bound) parts.0 in
    let below = ltb-true (digits_value 10 word) bound tests.1 in
    let is : word ≡ decimal (digits_value 10 word) = decimal-number word tests.0 (omega (arith, below, narrow.0)) in
    let rest = arguments_numbers words bounds narrow.1 (omega (arith, long)) parts.1 in
    (digits_value 10 word ∷ rest.0, ((below, narrow.0), rest.1), ap (λ w. w ∷ words) is ∙ ap (λ ws. decimal (digits_value 10 word) ∷ ws) rest.2)

of_length : (same : Bool) (cause : Option Cause) → (if same then cause else Some WordCount) ≡ None → (same ≡ true) × (cause ≡ None)
of_length true cause e = (refl, e)
of_length false cause e = cc

form_numbers : (words : List (List ℕ)) (bounds : List ℕ) → AreNarrow bounds → numbers_cause words bounds ≡ None → AreNumbers words bounds
form_numbers words bounds narrow good =
    let parts = of_length (nat_eq (length words) (length bounds)) (arguments_cause words bounds) good in
    arguments_numbers words bounds narrow (eqb-true (length words) (length bounds) parts.0) parts.1

-- numbers below these bounds behind this word are the line of a command
abbrev IsLine : List ℕ → List ℕ → Type 0
IsLine name bounds = (ns : List ℕ) → AreBelow ns bounds → (command : Command) × IsInRange command × (join_with_byte 32 (name ∷ map decimal ns) ≡ command_line command)

of_stripe : (name : List ℕ) (make : StripeNo → Command) → ((s : StripeNo) → IsInRange (make s)) → ((s : StripeNo) → name ++ 32 ∷ decimal s.value ≡ command_line (make s)) → IsLine name (4096 ∷ [])
of_stripe name make in_range line [] below = absurd below
of_stripe name make in_range line (n ∷ []) below = let stripe : StripeNo = record { value = n; in_range = below.0.0 } in (make stripe, in_range stripe, line stripe)
of_stripe name make in_range line (n ∷ m ∷ ms) below = absurd below.1

of_node : (name : List ℕ) (make : NodeNo → Command) → ((n : NodeNo) → n.value < 65536 → IsInRange (make n)) → ((n : NodeNo) → name ++ 32 ∷ decimal n.value ≡ command_line (make n)) → IsLine name (65536 ∷ [])
of_node name make in_range line [] below = absurd below
of_node name make in_range line (n ∷ []) below = let node : NodeNo = record { value = n } in (make node, in_range node below.0.0, line node)
of_node name make in_range line (n ∷ m ∷ ms) below = absurd below.1

of_domain : (name : List ℕ) (make : UpgradeNo → Command) → ((u : UpgradeNo) → u.value < 256 → IsInRange (make u)) → ((u : UpgradeNo) → name ++ 32 ∷ decimal u.value ≡ command_line (make u)) → IsLine name (256 ∷ [])
of_domain name make in_range line [] below = absurd below
of_domain name make in_range line (n ∷ []) below = let domain : UpgradeNo = record { value = n } in (make domain, in_range domain below.0.0, line domain)
of_domain name make in_range line (n ∷ m ∷ ms) below = absurd below.1

of_none : (name : List ℕ) (command : Command) → IsInRange command → name ≡ command_line command → IsLine name []
of_none name command in_range line [] below = (command, in_range, line)
of_none name command in_range line (n ∷ ns) below = absurd below

of_pair : (name : List ℕ) (make : StripeNo → Fragment → Command) → ((s : StripeNo) (f : Fragment) → IsInRange (make s f))
    → ((s : StripeNo) (f : Fragment) → name ++ 32 ∷ numbers_text (s.value ∷ f.value ∷ []) ≡ command_line (make s f)) → IsLine name (4096 ∷ 16 ∷ [])
of_pair name make in_range line [] below = absurd below
of_pair name make in_range line (n ∷ []) below = absurd below.1
of_pair name make in_range line (n ∷ m ∷ []) below =
    let stripe : StripeNo = record { value = n; in_range = below.0.0 } in
    let fragment : Fragment = record { value = m; in_range = below.1.0.0 } in
    (make stripe fragment, in_range stripe fragment, line stripe fragment)
of_pair name make in_range line (n ∷ m ∷ k ∷ ks) below = absurd below.1.1

of_report : (name : List ℕ) (make : StripeNo → Fragment → ℕ → Command) → ((s : StripeNo) (f : Fragment) (e : ℕ) → e < 4294967296 → IsInRange (make s f e))
    → ((s : StripeNo) (f : Fragment) (e : ℕ) → name ++ 32 ∷ numbers_text (s.value ∷ f.value ∷ e ∷ []) ≡ command_line (make s f e)) → IsLine name (4096 ∷ 16 ∷ 4294967296 ∷ [])
of_report name make in_range line [] below = absurd below
of_report name make in_range line (n ∷ []) below = absurd below.1
of_report name make in_range line (n ∷ m ∷ []) below = absurd below.1.1
of_report name make in_range line (n ∷ m ∷ e ∷ []) below =
    let stripe : StripeNo = record { value = n; in_range = below.0.0 } in
    let fragment : Fragment = record { value = m; in_range = below.1.0.0 } in
    (make stripe fragment e, in_range stripe fragment e below.1.1.0.0, line stripe fragment e)
of_report name make in_range line (n ∷ m ∷ e ∷ k ∷ ks) below = absurd below.1.1.1

module _ (word : List ℕ) (words : List (List ℕ)) where
  -- the command that these words are those of
  abbrev IsFound : Type 0
  IsFound = (command : Command) × IsInRange command × (join_with_byte 32 (word ∷ words) ≡ command_line command)

  of_form : (name bounds : List ℕ) → AreNarrow bounds → IsLine name bounds → same_text word name ≡ true → numbers_cause words bounds ≡ None → IsFound
  of_form name bounds narrow line is good =
      let found = form_numbers words bounds narrow good in
      let made = line found.0 found.1 in
      (made.0, made.1, ap (λ ws. join_with_byte 32 (word ∷ ws)) found.2 ∙ ap (λ w. join_with_byte 32 (w ∷ map decimal found.0)) (same_text-true word name is) ∙ made.2)

  -- the command of this form, or that of another
  either_form : (is : Bool) (form : Form) (other : Option Form) → (is ≡ true → form_cause words (Some form) ≡ None → IsFound) → (form_cause words other ≡ None → IsFound)
      → form_cause words (if is then Some form else other) ≡ None → IsFound
  either_form true form other this that good = this refl good
  either_form false form other this that good = that good

  try_form : (name bounds : List ℕ) (other : Option Form) → AreNarrow bounds → IsLine name bounds → (form_cause words other ≡ None → IsFound)
      → form_cause words (if same_text word name then Some (form_with name bounds) else other) ≡ None → IsFound
  try_form name bounds other narrow line that = either_form (same_text word name) (form_with name bounds) other (of_form name bounds narrow line) that

  by_word : form_cause words (form_of word) ≡ None → IsFound
  by_word =
      try_form (codes "place") (4096 ∷ []) _ (lit≤ tt, tt) (of_stripe (codes "place") Place (λ s. tt) (λ s. refl))
      (try_form (codes "place6") (4096 ∷ []) _ (lit≤ tt, tt) (of_stripe (codes "place6") Place6 (λ s. tt) (λ s. refl))
      (try_form (codes "drop") (4096 ∷ []) _ (lit≤ tt, tt) (of_stripe (codes "drop") Drop (λ s. tt) (λ s. refl))
      (try_form (codes "lease") (4096 ∷ 16 ∷ []) _ (lit≤ tt, (lit≤ tt, tt)) (of_pair (codes "lease") Lease (λ s f. tt) (λ s f. refl))
      (try_form (codes "next") [] _ tt (of_none (codes "next") Next tt refl)
      (try_form (codes "tick") [] _ tt (of_none (codes "tick") Tick tt refl)
      (try_form (codes "done") (4096 ∷ 16 ∷ 4294967296 ∷ []) _ (lit≤ tt, (lit≤ tt, (lit≤ tt, tt))) (of_report (codes "done") Done (λ s f e small. small) (λ s f e. refl))
      (try_form (codes "abandon") (4096 ∷ 16 ∷ 4294967296 ∷ []) _ (lit≤ tt, (lit≤ tt, (lit≤ tt, tt))) (of_report (codes "abandon") Abandon (λ s f e small. small) (λ s f e. refl))
      (try_form (codes "revoke") (4096 ∷ 16 ∷ []) _ (lit≤ tt, (lit≤ tt, tt)) (of_pair (codes "revoke") Revoke (λ s f. tt) (λ s f. refl))
      (try_form (codes "fail") (65536 ∷ []) _ (lit≤ tt, tt) (of_node (codes "fail") Fail (λ n small. small) (λ n. refl))
      (try_form (codes "down") (65536 ∷ []) _ (lit≤ tt, tt) (of_node (codes "down") Down (λ n small. small) (λ n. refl))
      (try_form (codes "up") (65536 ∷ []) _ (lit≤ tt, tt) (of_node (codes "up") Up (λ n small. small) (λ n. refl))
      (try_form (codes "drain") (65536 ∷ []) _ (lit≤ tt, tt) (of_node (codes "drain") Drain (λ n small. small) (λ n. refl))
      (try_form (codes "undrain") (65536 ∷ []) _ (lit≤ tt, tt) (of_node (codes "undrain") Undrain (λ n small. small) (λ n. refl))
      (try_form (codes "retire") (65536 ∷ []) _ (lit≤ tt, tt) (of_node (codes "retire") Retire (λ n small. small) (λ n. refl))
      (try_form (codes "join") (65536 ∷ []) _ (lit≤ tt, tt) (of_node (codes "join") Join (λ n small. small) (λ n. refl))
      (try_form (codes "upgrade") (256 ∷ []) _ (lit≤ tt, tt) (of_domain (codes "upgrade") Upgrade (λ u small. small) (λ u. refl))
      (try_form (codes "upgraded") (256 ∷ []) None (lit≤ tt, tt) (of_domain (codes "upgraded") Upgraded (λ u small. small) (λ u. refl)) (λ good. cc))))))))))))))))))

-- a line whose words have no cause is the line of a command
pub words_cause-none : (line : List ℕ) → words_cause (words_of line) ≡ None → (command : Command) × IsInRange command × (line ≡ command_line command)
words_cause-none line good =
    let split = words_of-some line in
    let found = by_word split.0 split.1 (sym (ap words_cause split.2) ∙ good) in
    (found.0, found.1, sym (join_with_byte-slice_split 32 line) ∙ ap (join_with_byte 32) split.2 ∙ found.2)

good_either : (line : List ℕ) (passed : Bool) → is_passed_over line ≡ passed → cause_of line ≡ None → ((is_passed_over line ≡ true) × (length line ≤ 1024)) ⊎ ((command : Command) × IsInRange command × (line ≡ command_line command))
good_either line true is good = inl (is, cause_of-short line good)
good_either line false is good = inr (words_cause-none line (sym (cause_of-command line (cause_of-short line good) is) ∙ good))

pub cause_of-good : (line : List ℕ) → (cause_of line ≡ None) ↔ (((is_passed_over line ≡ true) × (length line ≤ 1024)) ⊎ ((command : Command) × IsInRange command × (line ≡ command_line command)))
cause_of-good line = (good_either line _ refl, λ either. elim either [ inl passed ↦ cause_of-passed line passed.1 passed.0 | inr command ↦ ap cause_of command.2 ∙ cause_of-command_line command.0 command.1 ])
