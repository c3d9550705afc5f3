-- What an error says of the texts, or of the nodes and the image, from which no book began.
use Rattle.std.specs.Prelude.{◌≡◌, ℕ, List, Some}
use Rattle.lrc_topology.specs.declared.NodeInfo.{NodeInfo}
use Rattle.lrc_topology.specs.Documents.{IsRefusedBy}
use Rattle.lrc_images.specs.declared.image.Image.{Image}
use Rattle.lrc_images.specs.Causes.{first_cause}
use Rattle.lrc_image_text.specs.Texts.{row_line}
use Rattle.lrc_image_text.specs.declared.error.ImageTextError.TheVariants as text
use Rattle.lrc_openings.specs.Begun.{IsBadImageText, IsInvalid}
use Rattle.lrc_openings.specs.declared.error.OpenError.{OpenError}
use Rattle.lrc_openings.specs.declared.error.OpenError.TheVariants.{Nodes, Text, Line, OutOfMemory}

-- this is why no book begins from these texts
abbrev pub IsUnopened : List ℕ → List ℕ → OpenError → Type 0
IsUnopened nodes image (Nodes e) = IsRefusedBy nodes e
IsUnopened nodes image (Text (text.BadLine line)) = IsBadImageText nodes image line
IsUnopened nodes image (Text text.OutOfMemory) = Unit {0}
IsUnopened nodes image (Line line why) = IsInvalid nodes image line why
IsUnopened nodes image OutOfMemory = Unit {0}

-- this is why no book begins in the image over these nodes
abbrev pub IsUnbegun : List NodeInfo → Image → OpenError → Type 0
IsUnbegun nodes image (Nodes _) = ⊥
IsUnbegun nodes image (Text _) = ⊥
IsUnbegun nodes image (Line line why) =
    (position : ℕ) × (first_cause nodes image ≡ Some (position, why)) × (line ≡ row_line image.upgrading position why)
IsUnbegun nodes image OutOfMemory = Unit {0}
