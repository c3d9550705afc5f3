-- The form and the numbers of a command's line.
use Rattle.std.proofs.Common.{◌≡◌, ◌≢◌, ℕ, ◌+◌, ◌*◌, ◌^◌, ◌<◌, ◌≤◌, lit<, lit≤, Bool, true, false, not, ◌&&◌, nat_eq, nat_lt, if◌then◌else◌, Some, List, [], ◌∷◌, ◌++◌, length, map, get_or, decimal, refl, ap, ◌∙◌, length-append, arith}
use borrow.Author.Tests.{ltb-true}
use Rattle.std.specs.List.{All, AllZip, list_all, join_with_byte}
use Rattle.std.proofs.lemmas.Bool.Decides.{nat_tests}
use Rattle.std.proofs.lemmas.Fmt.{decimal_nonempty, length-decimal-le}
use Rattle.std.proofs.lemmas.List.{get_or_append_left}
use Rattle.std.proofs.lemmas.List.Sums.{AllPass-from_list_all}
use Rattle.lrc_rules.specs.declared.command.Command.{Command}
use Rattle.lrc_rules.specs.declared.command.Command.TheVariants.{Place, Place6, Drop, Lease, Next, Done, Abandon, Revoke, Fail, Down, Up, Drain, Undrain, Retire, Join, Upgrade, Upgraded, Tick}
use Rattle.lrc_code.specs.declared.numbers.StripeNo.{StripeNo}
use Rattle.lrc_code.specs.declared.numbers.Fragment.{Fragment}
use Rattle.lrc_script.specs.Scripts.{Form, stripe_forms, node_forms, form_of, numbers_text, is_passed_over, command_line, IsInRange, line_with, HasForm}
use Rattle.lrc_script.specs.Cuts.{AreBelow}

abbrev pub form_with : List ℕ → List ℕ → Form
form_with word bounds = record { word = word; bounds = bounds }

-- the forms of all commands, and one of them
abbrev pub all_forms : List Form
all_forms = stripe_forms ++ node_forms

abbrev pub form_at : ℕ → Form
form_at i = get_or all_forms i (form_with [] [])

-- the index of a command's form, and its numbers
abbrev pub index_of : Command → ℕ
index_of (Place s) = 0
index_of (Place6 s) = 1
index_of (Drop s) = 2
index_of (Lease s f) = 3
index_of Next = 4
index_of Tick = 5
index_of (Done s f e) = 6
index_of (Abandon s f e) = 7
index_of (Revoke s f) = 8
index_of (Fail n) = 9
index_of (Down n) = 10
index_of (Up n) = 11
index_of (Drain n) = 12
index_of (Undrain n) = 13
index_of (Retire n) = 14
index_of (Join n) = 15
index_of (Upgrade u) = 16
index_of (Upgraded u) = 17

abbrev pub numbers_of : Command → List ℕ
numbers_of (Place s) = s.value ∷ []
numbers_of (Place6 s) = s.value ∷ []
numbers_of (Drop s) = s.value ∷ []
numbers_of (Lease s f) = s.value ∷ f.value ∷ []
numbers_of Next = []
numbers_of Tick = []
numbers_of (Done s f e) = s.value ∷ f.value ∷ e ∷ []
numbers_of (Abandon s f e) = s.value ∷ f.value ∷ e ∷ []
numbers_of (Revoke s f) = s.value ∷ f.value ∷ []
numbers_of (Fail n) = n.value ∷ []
numbers_of (Down n) = n.value ∷ []
numbers_of (Up n) = n.value ∷ []
numbers_of (Drain n) = n.value ∷ []
numbers_of (Undrain n) = n.value ∷ []
numbers_of (Retire n) = n.value ∷ []
numbers_of (Join n) = n.value ∷ []
numbers_of (Upgrade u) = u.value ∷ []
numbers_of (Upgraded u) = u.value ∷ []

-- the command's line is that of the form at this index with these numbers
pub record IsLineOf (command : Command) (i : ℕ) (ns : List ℕ) : Type 0 where
  pub within : i < 18
  pub line : command_line command ≡ line_with (form_at i) ns
  pub found : form_of (form_at i).word ≡ Some (form_at i)
  pub below : IsInRange command → AreBelow ns (form_at i).bounds

below_stripe : (s : StripeNo) → AreBelow (s.value ∷ []) (4096 ∷ [])
below_stripe s = ((s.in_range, lit≤ tt), tt)

below_node : (n : ℕ) → n < 65536 → AreBelow (n ∷ []) (65536 ∷ [])
below_node n small = ((small, lit≤ tt), tt)

below_domain : (n : ℕ) → n < 256 → AreBelow (n ∷ []) (256 ∷ [])
below_domain n small = ((small, lit≤ tt), tt)

pub below_pair : (s : StripeNo) (f : Fragment) → AreBelow (s.value ∷ f.value ∷ []) (4096 ∷ 16 ∷ [])
below_pair s f = ((s.in_range, lit≤ tt), ((f.in_range, lit≤ tt), tt))

pub below_report : (s : StripeNo) (f : Fragment) (e : ℕ) → e < 4294967296 → AreBelow (s.value ∷ f.value ∷ e ∷ []) (4096 ∷ 16 ∷ 4294967296 ∷ [])
below_report s f e small = ((s.in_range, lit≤ tt), ((f.in_range, lit≤ tt), ((small, lit≤ tt), tt)))

pub line_of : (command : Command) → IsLineOf command (index_of command) (numbers_of command)
line_of (Place s) = record { within = lit< tt; line = refl; found = refl; below = λ _. below_stripe s }
line_of (Place6 s) = record { within = lit< tt; line = refl; found = refl; below = λ _. below_stripe s }
line_of (Drop s) = record { within = lit< tt; line = refl; found = refl; below = λ _. below_stripe s }
line_of (Lease s f) = record { within = lit< tt; line = refl; found = refl; below = λ _. below_pair s f }
line_of Next = record { within = lit< tt; line = refl; found = refl; below = λ _. tt }
line_of Tick = record { within = lit< tt; line = refl; found = refl; below = λ _. tt }
line_of (Done s f e) = record { within = lit< tt; line = refl; found = refl; below = below_report s f e }
line_of (Abandon s f e) = record { within = lit< tt; line = refl; found = refl; below = below_report s f e }
line_of (Revoke s f) = record { within = lit< tt; line = refl; found = refl; below = λ _. below_pair s f }
line_of (Fail n) = record { within = lit< tt; line = refl; found = refl; below = below_node n.value }
line_of (Down n) = record { within = lit< tt; line = refl; found = refl; below = below_node n.value }
line_of (Up n) = record { within = lit< tt; line = refl; found = refl; below = below_node n.value }
line_of (Drain n) = record { within = lit< tt; line = refl; found = refl; below = below_node n.value }
line_of (Undrain n) = record { within = lit< tt; line = refl; found = refl; below = below_node n.value }
line_of (Retire n) = record { within = lit< tt; line = refl; found = refl; below = below_node n.value }
line_of (Join n) = record { within = lit< tt; line = refl; found = refl; below = below_node n.value }
line_of (Upgrade u) = record { within = lit< tt; line = refl; found = refl; below = below_domain u.value }
line_of (Upgraded u) = record { within = lit< tt; line = refl; found = refl; below = below_domain u.value }

all_below : (ns bounds : List ℕ) → AreBelow ns bounds → AllZip (λ n bound. n < bound) ns bounds
all_below [] [] below = tt
all_below [] (bound ∷ bounds) below = below
all_below (n ∷ ns) [] below = below
all_below (n ∷ ns) (bound ∷ bounds) below = (below.0.0, all_below ns bounds below.1)

pub line_has_form : (command : Command) → HasForm command
line_has_form command =
    let is = line_of command in
    record {
      form = form_at (index_of command);
      numbers = numbers_of command;
      found = is.found;
      line = is.line;
      below = λ range. all_below (numbers_of command) (form_at (index_of command)).bounds (is.below range);
    }

-- ---- what all forms have in common

-- the most digits of a number below a bound, if the bound is one of a form
abbrev width : ℕ → ℕ
width bound = if nat_lt bound 17 then 2 else (if nat_lt bound 4097 then 4 else 10)

-- the most bytes of numbers below these bounds, with the spaces before them
abbrev room : List ℕ → ℕ
room [] = 0
room (bound ∷ bounds) = 1 + width bound + room bounds

-- neither an end of a line nor a space
abbrev pub is_letter : ℕ → Bool
is_letter b = not (nat_eq b 10) && not (nat_eq b 32)

-- the word has letters alone and begins no comment, and the line has 4 to 26 bytes
pub record IsSound (form : Form) : Type 0 where
  pub some : nat_lt 0 (length form.word) ≡ true
  pub letters : list_all is_letter form.word ≡ true
  pub first : not (nat_eq (get_or form.word 0 0) 35) ≡ true
  pub long : nat_lt 3 (length form.word + 2 * length form.bounds) ≡ true
  pub short : nat_lt (length form.word + room form.bounds) 27 ≡ true

-- each form passes this test
each : (test : Form → Bool) → list_all test all_forms ≡ true → (command : Command) → test (form_at (index_of command)) ≡ true
each test all command = AllPass-from_list_all test all_forms all (index_of command) (form_with [] []) (line_of command).within

pub form_sound : (command : Command) → IsSound (form_at (index_of command))
form_sound command = record {
  some = each (λ form. nat_lt 0 (length form.word)) refl command;
  letters = each (λ form. list_all is_letter form.word) refl command;
  first = each (λ form. not (nat_eq (get_or form.word 0 0) 35)) refl command;
  long = each (λ form. nat_lt 3 (length form.word + 2 * length form.bounds)) refl command;
  short = each (λ form. nat_lt (length form.word + room form.bounds) 27) refl command;
}

letter_parts : (b : ℕ) → is_letter b ≡ true → (b ≢ 10) × (b ≢ 32)
letter_parts b letter = (grind (arith, nat_tests), grind (arith, nat_tests))

module _ (word : List ℕ) (letters : list_all is_letter word ≡ true) where
  pub no_end : All (λ b. b ≢ 10) word
  no_end k d within = (letter_parts (get_or word k d) (AllPass-from_list_all is_letter word letters k d within)).0

  pub no_space : All (λ b. b ≢ 32) word
  no_space k d within = (letter_parts (get_or word k d) (AllPass-from_list_all is_letter word letters k d within)).1

-- ---- the length of a line

fits : (narrow middle : Bool) (n bound : ℕ) → nat_lt bound 17 ≡ narrow → nat_lt bound 4097 ≡ middle → n < bound → bound ≤ 2 ^ 32
    → length (decimal n) ≤ (if narrow then 2 else (if middle then 4 else 10))
fits true middle n bound is other below most = let less = ltb-true bound 17 is in length-decimal-le 2 n (omega arith) (omega (arith, less, below)) (omega (arith, less, below))
fits false true n bound is other below most = let less = ltb-true bound 4097 other in length-decimal-le 4 n (omega arith) (omega (arith, less, below)) (omega (arith, less, below))
fits false false n bound is other below most = length-decimal-le 10 n (omega arith) (omega (arith, below, most)) (omega (arith, below, most))

length-line : (word : List ℕ) (ns bounds : List ℕ) → AreBelow ns bounds
    → (length word + 2 * length bounds ≤ length (join_with_byte 32 (word ∷ map decimal ns))) × (length (join_with_byte 32 (word ∷ map decimal ns)) ≤ length word + room bounds)
length-line word [] [] below = (omega arith, omega arith)
length-line word [] (bound ∷ bounds) below = absurd below
length-line word (n ∷ ns) [] below = absurd below
length-line word (n ∷ ns) (bound ∷ bounds) below =
    let long = length-append word (32 ∷ numbers_text (n ∷ ns)) in
    let some = decimal_nonempty n (omega (arith, below.0.0, below.0.1)) in
    let few = fits (nat_lt bound 17) (nat_lt bound 4097) n bound refl refl below.0.0 below.0.1 in
    let more = length-line (decimal n) ns bounds below.1 in
    (omega (arith, long, some, more.0), omega (arith, long, few, more.1))

module _ (command : Command) (range : IsInRange command) where
  of_form : (length (form_at (index_of command)).word + 2 * length (form_at (index_of command)).bounds ≤ length (command_line command))
      × (length (command_line command) ≤ length (form_at (index_of command)).word + room (form_at (index_of command)).bounds)
  of_form =
      let is = line_of command in
      rw is.line (length-line (form_at (index_of command)).word (numbers_of command) (form_at (index_of command)).bounds (is.below range))

  pub command_line-long : 4 ≤ length (command_line command)
  command_line-long = omega (arith, of_form.0, ltb-true 3 (length (form_at (index_of command)).word + 2 * length (form_at (index_of command)).bounds) (form_sound command).long)

  pub command_line-short : length (command_line command) < 27
  command_line-short = omega (arith, of_form.1, ltb-true (length (form_at (index_of command)).word + room (form_at (index_of command)).bounds) 27 (form_sound command).short)

-- ---- the first byte of a line

first_byte : (word ns : List ℕ) → 0 < length word → get_or (join_with_byte 32 (word ∷ map decimal ns)) 0 0 ≡ get_or word 0 0
first_byte word [] some = refl
first_byte word (n ∷ ns) some = get_or_append_left word (32 ∷ numbers_text (n ∷ ns)) 0 0 some

kept : (line : List ℕ) (first : ℕ) → 0 < length line → get_or line 0 0 ≡ first → not (nat_eq first 35) ≡ true → is_passed_over line ≡ false
kept line first some is letter = grind (arith, nat_tests)

-- a command's line is neither empty nor a comment
pub command_kept : (command : Command) → IsInRange command → is_passed_over (command_line command) ≡ false
command_kept command range =
    let word = (form_at (index_of command)).word in
    let first = ap (λ l. get_or l 0 0) (line_of command).line ∙ first_byte word (numbers_of command) (ltb-true 0 (length word) (form_sound command).some) in
    kept (command_line command) (get_or word 0 0) (omega (arith, command_line-long command range)) first (form_sound command).first
