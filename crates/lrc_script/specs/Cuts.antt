-- Internal: no public clause reaches these definitions.
-- Texts split at a byte or at a parting line, and lines read from them.
use Rattle.std.specs.Prelude.{◌≡◌, ◌≢◌, ℕ, ◌+◌, ◌^◌, ◌<◌, ◌≤◌, ◌⊎◌, List, [], ◌∷◌}
use Rattle.std.specs.Prelude.{◌++◌, length, All, Option, Some, None, option_map, option_to_list}
use Rattle.std.specs.Borrow.{Bor}
use Rattle.lrc_rules.specs.declared.command.Command.{Command}
use Rattle.lrc_script.specs.declared.script.ScriptError.{ScriptError}
use Rattle.lrc_script.specs.Scripts.{Form, lines_of, words_of, numbers_text, command_line, IsInRange, IsReadAs}
use Rattle.lrc_script.specs.Scripts.{cause_of, BadLine, IsFirstBad}
use Rattle.lrc_script.specs.Bundles.{parts_of, ended_lines}

-- ---- at a byte

-- `first` is the part of the text before its first separator, and `rest` the part after it
abbrev pub IsCut : ℕ → List ℕ → List ℕ → Option (Bor (List ℕ)) → Type 0
IsCut separator text first None = All (λ b. b ≢ separator) first × (text ≡ first)
IsCut separator text first (Some rest) = All (λ b. b ≢ separator) first × (text ≡ first ++ separator ∷ rest.now)

-- the words after the first one, if there are any
abbrev pub words_behind : Option (Bor (List ℕ)) → List (List ℕ)
words_behind None = []
words_behind (Some rest) = words_of rest.now

-- ---- commands

-- the form in a row of the table
abbrev pub row_form : Bor (List ℕ) × Bor (List ℕ) → Form
row_form row = record { word = row.0.now; bounds = row.1.now }

-- each number is below its bound, which is at most 2 ^ 32
abbrev pub AreBelow : List ℕ → List ℕ → Type 0
AreBelow [] [] = Unit {0}
AreBelow (n ∷ ns) (bound ∷ bounds) = ((n < bound) × (bound ≤ 2 ^ 32)) × AreBelow ns bounds
AreBelow _ _ = ⊥

-- the text does not start with the word, numbers below these bounds and the end of a line
abbrev pub HasNoNumbers : List ℕ → List ℕ → List ℕ → Type 0
HasNoNumbers text word bounds = (ns rest : List ℕ) → AreBelow ns bounds → text ≢ word ++ (numbers_text ns ++ 10 ∷ rest)

-- the text does not start with the line of a command and its end
abbrev pub HasNoCommand : List ℕ → Type 0
HasNoCommand text = (command : Command) (rest : List ℕ) → IsInRange command → text ≢ command_line command ++ 10 ∷ rest

-- ---- at a parting line

-- the parts after a parting line, and the text after its LF, which may be missing at the end
abbrev pub StandBehind : List ℕ → List (List (List ℕ)) → Type 0
StandBehind text parts = (parts ≡ parts_of text) ⊎ ((text ≡ []) × (parts ≡ [] ∷ []))

-- a text split at its first parting line: the text before it, the number of its lines, and the text after it
pub record IsCutAtParting (text before : List ℕ) (lines : ℕ) (behind : List ℕ) : Type 0 where
  pub first : List (List ℕ)
  pub others : List (List (List ℕ))
  pub parts : parts_of text ≡ first ∷ others
  pub stand : StandBehind behind others
  pub text_before : before ≡ ended_lines first
  pub counted : lines ≡ length first
  pub within : length before + 2 + length behind ≤ length text

-- the first part of a text, and the text after its parting line if there is one
abbrev pub IsPart : List ℕ → List ℕ → ℕ → Option (Bor (List ℕ)) → Type 0
IsPart text before lines (Some behind) = IsCutAtParting text before lines behind.now
IsPart text before lines None = (before ≡ text) × (lines ≤ length text) × (parts_of text ≡ lines_of text ∷ [])

-- ---- lines

-- the commands after the line: those before, and that of the line unless it is passed over
pub record IsAdded (line : List ℕ) (before after : List Command) : Type 0 where
  pub read : Option Command
  pub is_read : IsReadAs line read
  pub commands : after ≡ before ++ option_to_list read

-- the line that has this number, if it is bad
abbrev pub bad_line : ℕ → List ℕ → Option BadLine
bad_line number line = option_map (λ cause. record { line = number; cause = cause }) (cause_of line)

-- the first line of the text is good: its command is added, if it has one, and this text is after it
pub record IsLineRead (text : List ℕ) (before after : List Command) (behind : Option (Bor (List ℕ))) : Type 0 where
  pub line : List ℕ
  pub cut : IsCut 10 text line behind
  pub good : cause_of line ≡ None
  pub added : IsAdded line before after

-- the first line of the text, which has this number, is bad, and the error reports it, or no line at all
pub record IsLineBad (text : List ℕ) (number : ℕ) (error : ScriptError) : Type 0 where
  pub line : List ℕ
  pub behind : Option (Bor (List ℕ))
  pub cut : IsCut 10 text line behind
  pub bad : IsFirstBad (bad_line number line) error
