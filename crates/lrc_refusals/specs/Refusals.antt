-- The line for each refusal, and the words that say why.
use Rattle.std.specs.Prelude.{ℕ, List, [], ◌++◌, codes, decimal}
use Rattle.lrc_topology.specs.declared.error.TopologyError.{TopologyError}
use Rattle.lrc_topology.specs.declared.error.TopologyError.TheVariants as topology
use Rattle.lrc_images.specs.declared.cause.Cause.{Cause as RowCause}
use Rattle.lrc_images.specs.declared.cause.Cause.TheVariants as row
use Rattle.lrc_images.specs.CauseNumbers.{row_cause_number}
use Rattle.lrc_script.specs.declared.script.Cause.{Cause as LineCause}
use Rattle.lrc_script.specs.declared.script.Cause.TheVariants as cause
use Rattle.lrc_groups.specs.Groups.{lacking_line, lacking_words}
use Rattle.lrc_refusals.specs.declared.refusal.InputRefusal.{InputRefusal}
use Rattle.lrc_refusals.specs.declared.refusal.InputRefusal.TheVariants as refusal

-- ---- lines

-- the line for a refused topology; `OutOfMemory` is no refusal and has none
abbrev pub topology_line : TopologyError → List ℕ
topology_line topology.Syntax = codes "topology 1\n"
topology_line topology.NoNodes = codes "topology 2\n"
topology_line (topology.BadField position) = codes "topology 3 " ++ decimal position ++ codes "\n"
topology_line (topology.OutOfRange position) = codes "topology 4 " ++ decimal position ++ codes "\n"
topology_line (topology.DoubleNode number) = codes "topology 5 " ++ decimal number.value ++ codes "\n"
topology_line topology.TooMany = codes "topology 6\n"
topology_line topology.OutOfMemory = []

-- the number of a cause
abbrev pub cause_number : LineCause → ℕ
cause_number cause.UnknownWord = 1
cause_number cause.WordCount = 2
cause_number cause.NotANumber = 3
cause_number cause.OutOfRange = 4
cause_number cause.TooLong = 5

-- the line for a refusal
abbrev pub refusal_line : InputRefusal → List ℕ
refusal_line refusal.TooLong = codes "bundle 1\n"
refusal_line refusal.TooManyScripts = codes "bundle 2\n"
refusal_line (refusal.Topology error) = topology_line error
refusal_line (refusal.Line line cause) = codes "line " ++ decimal line ++ codes " cause " ++ decimal (cause_number cause) ++ codes "\n"
refusal_line (refusal.ImageLine line) = codes "image " ++ decimal line ++ codes "\n"
refusal_line (refusal.Row line cause) = codes "image " ++ decimal line ++ codes " cause " ++ decimal (row_cause_number cause) ++ codes "\n"
refusal_line refusal.FullImage = codes "image full\n"
refusal_line (refusal.Lacking named) = lacking_line named

-- ---- words

-- why a topology is refused
abbrev pub topology_words : TopologyError → List ℕ
topology_words topology.Syntax = codes "the topology is not TOML in UTF-8"
topology_words topology.NoNodes = codes "the topology has no nodes"
topology_words (topology.BadField _) = codes "a number of the node at this position is missing, or not a whole number"
topology_words (topology.OutOfRange _) = codes "a number of the node at this position is out of its range"
topology_words (topology.DoubleNode _) = codes "the node of this number is there twice"
topology_words topology.TooMany = codes "the topology has more than 512 nodes"
topology_words topology.OutOfMemory = codes "there is no memory"

-- why a line of a script is bad
abbrev pub line_words : LineCause → List ℕ
line_words cause.UnknownWord = codes "the first word is not a command"
line_words cause.WordCount = codes "the command takes another number of words"
line_words cause.NotANumber = codes "an argument is not a number"
line_words cause.OutOfRange = codes "a number is out of its range"
line_words cause.TooLong = codes "the line has more than 1024 bytes"

-- why a row of an image is refused
abbrev pub row_words : RowCause → List ℕ
row_words row.UnknownDomain = codes "no node is in the upgrading domain"
row_words row.TooManyEntries = codes "the number of entries is too high"
row_words row.TooManyTicks = codes "the clock is too high"
row_words row.OutOfOrder = codes "the row does not come after the earlier ones of its kind"
row_words row.SaysNothing = codes "each count of the row is 0"
row_words row.UnknownNode = codes "the topology has no such node"
row_words row.GoneAndDown = codes "the node is gone and down"
row_words row.UnknownFragment = codes "the code of the stripe lacks the fragment"
row_words row.UnknownSlot = codes "the node has no such slot"
row_words row.NodeGone = codes "the node of the seat is gone"
row_words row.SeatTaken = codes "the seat is held already"
row_words row.NotLawful = codes "another fragment of the stripe rules the node out"
row_words row.TooManyGrants = codes "a count of grants is too high"
row_words row.UnknownStripe = codes "the image has no such stripe"
row_words row.NeverGranted = codes "no lease of the fragment was granted"
row_words row.WrongExpiry = codes "the lease ended already, or ends later than three ticks after the clock"

-- why an input is refused
abbrev pub input_refusal_words : InputRefusal → List ℕ
input_refusal_words refusal.TooLong = codes "the input has too many bytes"
input_refusal_words refusal.TooManyScripts = codes "the input has too many scripts"
input_refusal_words (refusal.Topology error) = topology_words error
input_refusal_words (refusal.Line _ cause) = line_words cause
input_refusal_words (refusal.ImageLine _) = codes "this line can't stand here in an image"
input_refusal_words (refusal.Row _ cause) = row_words cause
input_refusal_words refusal.FullImage = codes "a number of the state is at its end"
input_refusal_words (refusal.Lacking named) = lacking_words named

-- the words and the line
abbrev pub input_refusal_text : InputRefusal → List ℕ
input_refusal_text r = codes "lrcman: " ++ input_refusal_words r ++ codes ": " ++ refusal_line r
