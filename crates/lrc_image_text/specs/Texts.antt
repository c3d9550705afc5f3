-- The text of an image, and the bad line of a text that is none.
use Rattle.std.specs.Prelude.{◌≡◌, ◌≢◌, ℕ, zero, suc, ◌+◌, ◌<◌, ◌^◌, Bool, true, if◌then◌else◌, nat_lt, nat_le, nat_eq, List, [], ◌∷◌, ◌++◌, length, map, fold, All, Option, Some, None}
use Rattle.lrc_code.specs.declared.numbers.UpgradeNo.{UpgradeNo}
use Rattle.lrc_images.specs.declared.cause.Cause.{Cause}
use Rattle.lrc_images.specs.declared.cause.Cause.TheVariants as cause
use Rattle.lrc_images.specs.declared.image.Image.{Image}
use Rattle.lrc_image_text.specs.declared.error.ImageTextError.{ImageTextError}
use Rattle.lrc_image_text.specs.declared.error.ImageTextError.TheVariants.{BadLine, OutOfMemory}
use Rattle.lrc_image_text.specs.Lines.{Line, Version, Before, Clock, Upgrading, Node, Stripe, Grants, Lease, End, line_text, lines_text, IsReadable}

-- ---- the text of an image

abbrev pub upgrading_lines : Option UpgradeNo → List Line
upgrading_lines None = []
upgrading_lines (Some u) = Upgrading u ∷ []

-- the lines of the rows of an image, in the order of their positions
abbrev pub lines_of_rows : Image → List Line
lines_of_rows i = map Node i.nodes.items ++ (map Stripe i.stripes.items ++ (map Grants i.grants.items ++ map Lease i.leases.items))

-- the lines of an image but the last
abbrev pub begun_lines : Image → List Line
begun_lines i = Version ∷ Before i.before ∷ Clock i.clock ∷ (upgrading_lines i.upgrading ++ lines_of_rows i)

abbrev pub image_lines : Image → List Line
image_lines i = begun_lines i ++ End ∷ []

abbrev pub image_text : Image → List ℕ
image_text i = lines_text (image_lines i)

-- Each line of the image can be read. So no node row is both active and up, and no narrow stripe has a home from fragment
-- 10 on. The numbers of an image of the code are in range.
abbrev pub IsWritten : Image → Type 0
IsWritten i = All IsReadable (image_lines i)

-- ---- which line may come after which

-- the number of a line's section
abbrev pub section : Line → ℕ
section Version = 0
section (Before n) = 1
section (Clock n) = 2
section (Upgrading u) = 3
section (Node r) = 4
section (Stripe r) = 5
section (Grants r) = 6
section (Lease r) = 7
section End = 8

-- the first section that may come after the line: its own if the section may have many lines
abbrev pub next_section : Line → ℕ
next_section Version = 1
next_section (Before n) = 2
next_section (Clock n) = 3
next_section (Upgrading u) = 4
next_section (Node r) = 4
next_section (Stripe r) = 5
next_section (Grants r) = 6
next_section (Lease r) = 7
next_section End = 9

-- a line may come where this section may come first: the first three sections have one line each, and no section falls
abbrev pub may_come : ℕ → Line → Bool
may_come first line = if nat_lt first 3 then nat_eq (section line) first else nat_le first (section line)

abbrev pub after_line : Option ℕ → Line → Option ℕ
after_line None line = None
after_line (Some first) line = if may_come first line then Some (next_section line) else None

-- the first section that may come after these lines, from this one on; none if they can't begin an image
abbrev pub after_lines : Option ℕ → List Line → Option ℕ
after_lines first lines = fold after_line first lines

-- ---- bad lines

-- The line of this number, counted from 1, is the first that is bad: the lines before it may begin an image, and what is
-- left of the text starts with no line that may come there, ended by LF. Nothing may be left after the last line.
pub record IsBadLine (text : List ℕ) (number : ℕ) : Type 0 where
  pub before : List Line
  pub left : List ℕ
  pub first : ℕ
  pub text_is : text ≡ lines_text before ++ left
  pub readable : All IsReadable before
  pub may_begin : after_lines (Some 0) before ≡ Some first
  pub numbered : number ≡ length before + 1
  pub bad : (line : Line) (rest : List ℕ) → IsReadable line → may_come first line ≡ true → left ≢ line_text line ++ rest
  pub more : first ≡ 9 → left ≢ []

-- ---- refused texts

-- the text begins with the first three lines of an image, with these numbers, and this is left
pub record IsHead (text : List ℕ) (before clock : ℕ) (left : List ℕ) : Type 0 where
  pub before_fits : before < 2 ^ 64
  pub clock_fits : clock < 4294967296
  pub text_is : text ≡ lines_text (Version ∷ Before before ∷ Clock clock ∷ []) ++ left

-- the first three lines of the text can be read
abbrev pub HasHead : List ℕ → Type 0
HasHead text = (before : ℕ) × (clock : ℕ) × (left : List ℕ) × IsHead text before clock left

-- the error tells the bad line, or that there is no memory for the lines after the third one
abbrev pub IsRefused : List ℕ → ImageTextError → Type 0
IsRefused text (BadLine number) = IsBadLine text number
IsRefused text OutOfMemory = HasHead text

-- ---- lines of rows

-- the line of what an image says beside its rows: the number of entries, the number of ticks or the upgrading domain, whichever
-- the cause is of
abbrev pub head_line : Cause → ℕ
head_line cause.TooManyEntries = 2
head_line cause.TooManyTicks = 3
head_line _ = 4

-- The number of the line at the position of a cause, counted from 1, in the text of an image with this upgrading domain or
-- none. The row at a position has a line of its own.
abbrev pub row_line : Option UpgradeNo → ℕ → Cause → ℕ
row_line upgrading zero cause = head_line cause
row_line upgrading (suc n) cause = 3 + length (upgrading_lines upgrading) + suc n

-- ---- rows

-- the two images have the same rows
pub record HaveSameRows (i j : Image) : Type 0 where
  pub before : i.before ≡ j.before
  pub clock : i.clock ≡ j.clock
  pub upgrading : i.upgrading ≡ j.upgrading
  pub nodes : i.nodes.items ≡ j.nodes.items
  pub stripes : i.stripes.items ≡ j.stripes.items
  pub grants : i.grants.items ≡ j.grants.items
  pub leases : i.leases.items ≡ j.leases.items

-- the text consists of lines that can be read, and they are all that an image has
pub record HasImageLines (text : List ℕ) : Type 0 where
  pub lines : List Line
  pub readable : All IsReadable lines
  pub whole : after_lines (Some 0) lines ≡ Some 9
  pub text_is : text ≡ lines_text lines
