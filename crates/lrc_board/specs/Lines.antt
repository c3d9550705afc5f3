-- A log of lines. A permit is the right to write one line. Each line names the permit for the next line.
use Rattle.std.specs.Prelude.{◌≡◌, ◌≢◌, ℕ, ◌==◌, cond, true, List, [], ◌∷◌, ◌++◌}
use mathlib.Core.List.{IsPrefix}
use Rattle.logbook.specs.Pages.{Cell, cell, Step, View, Book, Named, may_make}
use Rattle.lrc_rules.specs.declared.entry.Entry.{Entry}
use Rattle.lrc_board.specs.declared.line.Line.{Line}

-- (internal) the request of a step that writes no line
abbrev pub no_line : Line
no_line = record { entries = []; by = 0; next = 0 }

-- the entries that were written by this permit and those after it
abbrev pub written : ℕ → List Line → List Entry
written permit [] = []
written permit (l ∷ ls) = cond (l.by == permit) (l.entries ++ written l.next ls) (written permit ls)

-- (internal) the permit for the next line
abbrev pub permit_after : ℕ → List Line → ℕ
permit_after permit [] = permit
permit_after permit (l ∷ ls) = cond (l.by == permit) (permit_after l.next ls) (permit_after permit ls)

-- (internal) this permit has written no line
abbrev pub IsUnused : ℕ → List Line → Type 0
IsUnused permit [] = Unit {0}
IsUnused permit (l ∷ ls) = (l.by ≢ permit) × IsUnused permit ls

-- (internal) the cell of each permit that wrote is back in the book of the log
abbrev pub AreReturned : List Cell → List Line → Type 0
AreReturned cells [] = Unit {0}
AreReturned cells (l ∷ ls) = ((cell cells l.by).1 ≡ true) × AreReturned cells ls

-- (internal) The rule of the log. The first word only serves the atomic steps, and its value means nothing.
-- A permit returns its cell when it writes, so a permit whose cell is not returned has written nothing.
pub record IsKept (cells : List Cell) (lines : List Line) : Type 0 where
  pub word : (cell cells 0).1 ≡ true
  pub permits : AreReturned cells lines

-- (internal) the word that the rule begins with
abbrev pub word_of : Book → Named
word_of b = record { tracked = true; key = 0; book = b }

-- (internal) there is a new permit
abbrev pub MakesPermit : Step Line → View Line ℕ → ℕ → View Line ℕ → Type 0
MakesPermit s v found w = w.1.0.right ≡ may_make

-- (internal) the permit is unchanged and has written nothing
abbrev pub FindsUnused : Step Line → View Line ℕ → ℕ → View Line ℕ → Type 0
FindsUnused s v found w = IsUnused v.1.0.key w.0 × (w.1.0 ≡ v.1.0)

-- (internal) the permit has written this line after all others
abbrev pub AppendsLine : Step Line → View Line ℕ → ℕ → View Line ℕ → Type 0
AppendsLine s v found w =
    (log : List Line) × IsPrefix v.0 log × IsUnused v.1.0.key log
    × (w.0 ≡ log ++ record { entries = s.ask.entries; by = v.1.0.key; next = s.ask.next } ∷ [])
