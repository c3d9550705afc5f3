-- The book that begins in the image of a text, and why none does.
use Rattle.std.specs.Prelude.{◌≡◌, ℕ, List, [], Some, None}
use Rattle.lrc_topology.specs.declared.NodeInfo.{NodeInfo}
use Rattle.lrc_topology.specs.Documents.{IsTopologyOf}
use Rattle.lrc_images.specs.declared.cause.Cause.{Cause}
use Rattle.lrc_images.specs.declared.image.Image.{Image}
use Rattle.lrc_images.specs.Images.{image_world}
use Rattle.lrc_images.specs.Causes.{first_cause}
use Rattle.lrc_images.specs.CauseNumbers.{row_cause_number}
use Rattle.lrc_image_text.specs.Texts.{image_text, IsWritten, IsBadLine, row_line}
use Rattle.lrc_book.specs.Books.{BookView, HasBegun}

-- The book has just begun in the image over these nodes. No row of the image is wrong.
pub record IsBegunOver (nodes : List NodeInfo) (image : Image) (b : BookView) : Type 0 where
  pub lawful : first_cause nodes image ≡ None
  pub begun : HasBegun nodes image b
  pub limit_is : b.limit ≡ 1000000

-- the text is that of an image whose every line can be read
abbrev pub IsTextOf : Image → List ℕ → Type 0
IsTextOf i text = IsWritten i × (text ≡ image_text i)

-- A book of the text's nodes that begins in the image of the other text, with no entry yet. No row of the image is
-- wrong.
pub record IsBegun (nodes text : List ℕ) (b : BookView) : Type 0 where
  pub image : Image
  pub nodes_are : IsTopologyOf nodes b.nodes
  pub text_is : IsTextOf image text
  pub lawful : first_cause b.nodes image ≡ None
  pub base_is : b.base ≡ image_world image
  pub before_is : b.before ≡ image.before
  pub empty : b.history ≡ []
  pub limit_is : b.limit ≡ 1000000

-- ---- refusals

-- The text of the nodes can be read, and the line of this number is the first bad one of the image's text.
abbrev pub IsBadImageText : List ℕ → List ℕ → ℕ → Type 0
IsBadImageText nodes text line = ((topology : List NodeInfo) × IsTopologyOf nodes topology) × IsBadLine text line

-- Both texts can be read. The line of this number is at the first position of the image that the nodes or the rows
-- before it do not allow, for this cause.
pub record IsInvalid (nodes text : List ℕ) (line : ℕ) (why : Cause) : Type 0 where
  pub topology : List NodeInfo
  pub image : Image
  pub position : ℕ
  pub nodes_are : IsTopologyOf nodes topology
  pub text_is : IsTextOf image text
  pub first : first_cause topology image ≡ Some (position, why)
  pub line_is : line ≡ row_line image.upgrading position why

-- the same, of the cause that has this number
abbrev pub IsInvalidImage : List ℕ → List ℕ → ℕ → ℕ → Type 0
IsInvalidImage nodes text line number = (why : Cause) × IsInvalid nodes text line why × (number ≡ row_cause_number why)
