-- Script lines: which command a line is, and why a line is bad.
use Rattle.std.specs.Prelude.{◌≡◌, ℕ, ◌+◌, ◌<◌, ◌≤◌, Bool, true, false, not, ◌&&◌, ◌||◌, if◌then◌else◌, nat_lt, nat_eq, List, [], ◌∷◌, ◌++◌, length, map, filter, find, All, slice_index, codes, decimal, Option, Some, None, option_map, IsSomeAnd, slice_get, take}
use Rattle.std.specs.List.{AllZip, slice_split, list_all, starts_with, join_with_byte}
use Rattle.std.specs.Char.{is_ascii_digit}
use Rattle.std.specs.Str.Parse.{digits_value}
use Rattle.lrc_rules.specs.declared.command.Command.{Command}
use Rattle.lrc_rules.specs.declared.command.Command.TheVariants.{Place, Place6, Drop, Lease, Next, Done, Abandon, Revoke, Fail, Down, Up, Drain, Undrain, Retire, Join, Upgrade, Upgraded, Tick}
use Rattle.lrc_script.specs.declared.script.Cause.{Cause}
use Rattle.lrc_script.specs.declared.script.ScriptError.{ScriptError}
use Rattle.lrc_script.specs.declared.script.ScriptError.TheVariants.{Bad, OutOfMemory}
use Rattle.lrc_script.specs.declared.script.Cause.TheVariants.{UnknownWord, WordCount, NotANumber, OutOfRange, TooLong}

-- ---- lines

-- the lines of a text, split at each LF; after a last LF there is one more line, which is empty
abbrev pub lines_of : List ℕ → List (List ℕ)
lines_of bytes = slice_split (λ b. nat_eq b 10) bytes

-- an empty line, or a comment
abbrev pub is_passed_over : List ℕ → Bool
is_passed_over line = nat_eq (length line) 0 || nat_eq (slice_index line 0) 35

-- numbers with one space between each two
abbrev pub numbers_text : List ℕ → List ℕ
numbers_text numbers = join_with_byte 32 (map decimal numbers)

-- the line of a command
abbrev pub command_line : Command → List ℕ
command_line (Place s) = codes "place " ++ decimal s.value
command_line (Place6 s) = codes "place6 " ++ decimal s.value
command_line (Drop s) = codes "drop " ++ decimal s.value
command_line (Lease s f) = codes "lease " ++ numbers_text (s.value ∷ f.value ∷ [])
command_line Next = codes "next"
command_line (Done s f e) = codes "done " ++ numbers_text (s.value ∷ f.value ∷ e ∷ [])
command_line (Abandon s f e) = codes "abandon " ++ numbers_text (s.value ∷ f.value ∷ e ∷ [])
command_line (Revoke s f) = codes "revoke " ++ numbers_text (s.value ∷ f.value ∷ [])
command_line (Fail n) = codes "fail " ++ decimal n.value
command_line (Down n) = codes "down " ++ decimal n.value
command_line (Up n) = codes "up " ++ decimal n.value
command_line (Drain n) = codes "drain " ++ decimal n.value
command_line (Undrain n) = codes "undrain " ++ decimal n.value
command_line (Retire n) = codes "retire " ++ decimal n.value
command_line (Join n) = codes "join " ++ decimal n.value
command_line (Upgrade u) = codes "upgrade " ++ decimal u.value
command_line (Upgraded u) = codes "upgraded " ++ decimal u.value
command_line Tick = codes "tick"

-- the number of a command's node is below 65,536, that of its upgrade domain below 256, and its epoch below 4,294,967,296;
-- the types keep the numbers of stripes and fragments in range
abbrev pub IsInRange : Command → Type 0
IsInRange (Place s) = Unit {0}
IsInRange (Place6 s) = Unit {0}
IsInRange (Drop s) = Unit {0}
IsInRange (Lease s f) = Unit {0}
IsInRange Next = Unit {0}
IsInRange (Done s f e) = e < 4294967296
IsInRange (Abandon s f e) = e < 4294967296
IsInRange (Revoke s f) = Unit {0}
IsInRange (Fail n) = n.value < 65536
IsInRange (Down n) = n.value < 65536
IsInRange (Up n) = n.value < 65536
IsInRange (Drain n) = n.value < 65536
IsInRange (Undrain n) = n.value < 65536
IsInRange (Retire n) = n.value < 65536
IsInRange (Join n) = n.value < 65536
IsInRange (Upgrade u) = u.value < 256
IsInRange (Upgraded u) = u.value < 256
IsInRange Tick = Unit {0}

-- what a line is read as: a command, or nothing where it is passed over
abbrev pub IsReadAs : List ℕ → Option Command → Type 0
IsReadAs line (Some command) = (is_passed_over line ≡ false) × IsInRange command × (line ≡ command_line command)
IsReadAs line None = is_passed_over line ≡ true

-- these are the commands of the lines, in order: no line is too long, and each line that is not passed over is that of a command
pub record IsScript (lines : List (List ℕ)) (commands : List Command) : Type 0 where
  pub short : All (λ line. length line ≤ 1024) lines
  pub in_range : All IsInRange commands
  pub listed : filter (λ line. not (is_passed_over line)) lines ≡ map command_line commands

-- ---- causes

-- the word of a command, and for each of its arguments the bound that it is below
pub record Form : Type 0 where
  pub word : List ℕ
  pub bounds : List ℕ

-- the forms of the commands on stripes, their fragments and the clock
abbrev pub stripe_forms : List Form
stripe_forms =
    record { word = codes "place"; bounds = 4096 ∷ [] } ∷ record { word = codes "place6"; bounds = 4096 ∷ [] }
    ∷ record { word = codes "drop"; bounds = 4096 ∷ [] } ∷ record { word = codes "lease"; bounds = 4096 ∷ 16 ∷ [] } ∷ record { word = codes "next"; bounds = [] }
    ∷ record { word = codes "tick"; bounds = [] } ∷ record { word = codes "done"; bounds = 4096 ∷ 16 ∷ 4294967296 ∷ [] }
    ∷ record { word = codes "abandon"; bounds = 4096 ∷ 16 ∷ 4294967296 ∷ [] } ∷ record { word = codes "revoke"; bounds = 4096 ∷ 16 ∷ [] } ∷ []

-- those of the commands on nodes and upgrade domains
abbrev pub node_forms : List Form
node_forms =
    record { word = codes "fail"; bounds = 65536 ∷ [] } ∷ record { word = codes "down"; bounds = 65536 ∷ [] }
    ∷ record { word = codes "up"; bounds = 65536 ∷ [] } ∷ record { word = codes "drain"; bounds = 65536 ∷ [] }
    ∷ record { word = codes "undrain"; bounds = 65536 ∷ [] } ∷ record { word = codes "retire"; bounds = 65536 ∷ [] }
    ∷ record { word = codes "join"; bounds = 65536 ∷ [] } ∷ record { word = codes "upgrade"; bounds = 256 ∷ [] }
    ∷ record { word = codes "upgraded"; bounds = 256 ∷ [] } ∷ []

-- the two texts are equal
abbrev pub same_text : List ℕ → List ℕ → Bool
same_text xs ys = nat_eq (length xs) (length ys) && starts_with nat_eq xs ys

-- the form that begins with this word
abbrev pub form_in : List Form → List ℕ → Option Form
form_in forms word = find (λ form. same_text word form.word) forms

-- the form of the command that begins with this word
abbrev pub form_of : List ℕ → Option Form
form_of word = form_in (stripe_forms ++ node_forms) word

-- the line of a form with these numbers
abbrev pub line_with : Form → List ℕ → List ℕ
line_with form numbers = join_with_byte 32 (form.word ∷ map decimal numbers)

-- a command's line is that of one form, which is found by its word, with a number below each of its bounds
pub record HasForm (command : Command) : Type 0 where
  pub form : Form
  pub numbers : List ℕ
  pub found : form_of form.word ≡ Some form
  pub line : command_line command ≡ line_with form numbers
  pub below : IsInRange command → AllZip (λ number bound. number < bound) numbers form.bounds

-- `0`, or a digit from 1 to 9 and any digits after it
abbrev pub is_number : List ℕ → Bool
is_number word = nat_lt 0 (length word) && (list_all is_ascii_digit word && (nat_eq (length word) 1 || not (nat_eq (slice_index word 0) 48)))

-- why a word is no argument below this bound
abbrev pub argument_cause : List ℕ → ℕ → Option Cause
argument_cause word bound = if is_number word then (if nat_lt (digits_value 10 word) bound then None else Some OutOfRange) else Some NotANumber

abbrev pub or_else : {X : Type 0} → Option X → Option X → Option X
or_else (Some x) other = Some x
or_else None other = other

-- the first cause of the arguments, from left to right
abbrev pub arguments_cause : List (List ℕ) → List ℕ → Option Cause
arguments_cause (word ∷ words) (bound ∷ bounds) = or_else (argument_cause word bound) (arguments_cause words bounds)
arguments_cause _ _ = None

-- the words of a line, split at each space
abbrev pub words_of : List ℕ → List (List ℕ)
words_of line = slice_split (λ b. nat_eq b 32) line

-- why the words are not as many numbers as these bounds, each below its bound
abbrev pub numbers_cause : List (List ℕ) → List ℕ → Option Cause
numbers_cause words bounds = if nat_eq (length words) (length bounds) then arguments_cause words bounds else Some WordCount

-- the cause of a line with these words after the first
abbrev pub form_cause : List (List ℕ) → Option Form → Option Cause
form_cause words None = Some UnknownWord
form_cause words (Some form) = numbers_cause words form.bounds

abbrev pub words_cause : List (List ℕ) → Option Cause
words_cause [] = Some UnknownWord
words_cause (word ∷ words) = form_cause words (form_of word)

-- the first cause why a line is bad
unfoldable pub cause_of : List ℕ → Option Cause
cause_of line = if nat_lt 1024 (length line) then Some TooLong else (if is_passed_over line then None else words_cause (words_of line))

-- a bad line: its number, and its first cause
pub record BadLine : Type 0 where
  pub line : ℕ
  pub cause : Cause

-- the first bad line, where the lines are counted from this number on
abbrev pub first_bad : ℕ → List (List ℕ) → Option BadLine
first_bad number [] = None
first_bad number (line ∷ lines) = or_else (option_map (λ cause. record { line = number; cause = cause }) (cause_of line)) (first_bad (number + 1) lines)

-- the line at this index is bad for this cause, and none before it is bad
pub record IsFirstBadAt (lines : List (List ℕ)) (i : ℕ) (cause : Cause) : Type 0 where
  pub bad : IsSomeAnd (slice_get lines i) (λ line. cause_of line ≡ Some cause)
  pub good_before : All (λ line. cause_of line ≡ None) (take i lines)

-- the error reports this bad line, or no line at all
abbrev pub IsFirstBad : Option BadLine → ScriptError → Type 0
IsFirstBad found (Bad line cause) = found ≡ Some (record { line = line; cause = cause })
IsFirstBad found OutOfMemory = Unit {0}
