-- Internal: no public clause reaches these definitions.
-- What the checks of a sequel find: a refusal, or a book that begins where it says, and the commands of its script.
use Rattle.std.specs.Prelude.{◌≡◌, ℕ, ◌≤◌, List, [], length, Option, Some, None, Ok, Err, Vec}
use Rattle.lrc_topology.specs.declared.NodeInfo.{NodeInfo}
use Rattle.lrc_rules.specs.declared.command.Command.{Command}
use Rattle.lrc_images.specs.declared.cause.Cause.{Cause}
use Rattle.lrc_images.specs.declared.image.Image.{Image}
use Rattle.lrc_image_text.specs.declared.error.ImageTextError.{ImageTextError}
use Rattle.lrc_image_text.specs.declared.error.ImageTextError.TheVariants.{BadLine, OutOfMemory}
use Rattle.lrc_book.specs.Books.{BookView}
use Rattle.lrc_outputs.specs.declared.status.Status.{Status}
use Rattle.lrc_outputs.specs.declared.status.Status.TheVariants as ended
use Rattle.lrc_outputs.specs.Limits.{sequel_limit}
use Rattle.lrc_outputs.specs.RefusedInputs.{refused_row_text}
use Rattle.lrc_outputs.specs.Judged.{IsAccepted}
use Rattle.lrc_outputs.specs.Sequels.{image_part, bundle_part, ReadsImage, Start, start_in, Going}

-- the error tells the first bad line of an image's text, or that there is no memory
abbrev pub IsBadImage : List ℕ → ImageTextError → Type 0
IsBadImage text (BadLine line) = ReadsImage text (Err line)
IsBadImage text OutOfMemory = Unit {0}

-- this text and this status refuse the first row of the image that is wrong over these nodes
abbrev pub IsRefusedRow : List NodeInfo → Start → List ℕ → Status → Type 0
IsRefusedRow nodes start text status =
    (found : ℕ × Cause) × (start.cause_over nodes ≡ Some found)
    × (text ≡ refused_row_text start.upgrading found) × (status ≡ ended.Refused)

-- the book begins here over these nodes, in an image of which no row is wrong, and has no entry yet
pub record IsBegunHere (nodes : List NodeInfo) (start : Start) (b : BookView) : Type 0 where
  pub rows : start.cause_over nodes ≡ None
  pub over : b.nodes ≡ nodes
  pub base : b.base ≡ start.base
  pub before : b.before ≡ start.before
  pub limit : b.limit ≡ 1000000
  pub history : b.history ≡ []

-- a sequel that passes all checks is answered by no text, so each text is that of a refusal
abbrev pub NotGoing : Going
NotGoing nodes start scripts text status = ⊥

-- the sequel passes all checks, and this book begins where it says
pub record IsGoodSequel {Z : Type 0} (sequel : List ℕ) (b : BookView) (scripts : List (Vec Command Z)) : Type 0 where
  pub short : length sequel ≤ sequel_limit
  pub image : Option Image
  pub read : ReadsImage (image_part sequel) (Ok image)
  pub accepted : IsAccepted 1 (bundle_part sequel) b.nodes scripts
  pub begun : IsBegunHere b.nodes (start_in image) b
