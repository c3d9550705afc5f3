-- What a check of a bundle or of a sequel writes, and how it ends.
use Rattle.std.specs.Prelude.{◌≡◌, ℕ, ◌≤◌, Bool, true, false, not, ◌&&◌, if◌then◌else◌, nat_lt}
use Rattle.std.specs.Prelude.{List, [], ◌++◌, length, map, sum, filter, codes, decimal, Option, None, Ok, unwrap_or}
use Rattle.std.specs.List.{last_or}
use Rattle.lrc_topology.specs.declared.NodeInfo.{NodeInfo}
use Rattle.lrc_topology.specs.Documents.{IsTopologyOf}
use Rattle.lrc_images.specs.declared.image.Image.{Image}
use Rattle.lrc_outputs.specs.declared.status.Status.{Status}
use Rattle.lrc_outputs.specs.declared.status.Status.TheVariants as ended
use Rattle.lrc_script.specs.Scripts.{lines_of, is_passed_over}
use Rattle.lrc_script.specs.Bundles.{Script, is_parting, scripts_of, topology_of}
use Rattle.lrc_warnings.specs.Warnings.{warnings}
use Rattle.lrc_outputs.specs.Limits.{script_limit, sequel_limit}
use Rattle.lrc_outputs.specs.Outputs.{early_refusal_over, first_bad_of, Answer, IsAnswered}
use Rattle.lrc_outputs.specs.Sequels.{has_image, image_part, bundle_part, ReadsImage, start_in, Going, IsTold}

-- how many commands a script without a bad line has: one for each line that is not skipped
abbrev pub command_count : Script → ℕ
command_count script = length (filter (λ line. not (is_passed_over line)) script.lines)

-- the line for these numbers of nodes, scripts and commands
abbrev pub counts_line : ℕ → ℕ → ℕ → List ℕ
counts_line nodes scripts commands =
    codes "ok nodes " ++ decimal nodes ++ codes " scripts " ++ decimal scripts ++ codes " commands " ++ decimal commands
    ++ codes "\n"

-- the line for a number of nodes and these scripts: their number, and the number of all their commands
abbrev pub counted_line : ℕ → List Script → List ℕ
counted_line nodes scripts = counts_line nodes (length scripts) (sum (map command_count scripts))

-- what is written for nodes and scripts that pass all checks
abbrev pub IsCountedLine : Answer
IsCountedLine nodes scripts text = text ≡ counted_line (length nodes) scripts

-- the same behind an image, and how it ends
abbrev pub counting : Going
counting nodes start scripts text status = IsCountedLine nodes scripts text × (status ≡ ended.Done)

-- what is written for an input that has an image or has none, and how it ends
abbrev pub IsCheckIn : Bool → List ℕ → List ℕ → Status → Type 0
IsCheckIn true sequel text status = IsTold counting sequel text status
IsCheckIn false bundle text status = IsAnswered IsCountedLine bundle text status

-- A check of this input writes this text and ends with this status. Behind an image it refuses what going on from the
-- image refuses, and else what a run refuses, in the same way.
abbrev pub IsCheck : List ℕ → List ℕ → Status → Type 0
IsCheck input text status = IsCheckIn (has_image input) input text status

-- ---- warnings

-- the most scripts of a bundle behind an image, or of one that stands alone
abbrev pub most_scripts : Bool → ℕ
most_scripts true = 1
most_scripts false = script_limit

-- the input passes all checks, those of its image too if it has one, and has these nodes
pub record PassesAllChecks (input : List ℕ) (nodes : List NodeInfo) : Type 0 where
  pub short : length input ≤ sequel_limit
  pub image : Option Image
  pub image_read : ReadsImage (image_part input) (Ok image)
  pub early : early_refusal_over (most_scripts (has_image input)) (bundle_part input) ≡ None
  pub read : IsTopologyOf (topology_of (bundle_part input)) nodes
  pub no_bad : first_bad_of (scripts_of (bundle_part input)) ≡ None
  pub rows : (start_in image).cause_over nodes ≡ None

-- what stands behind the last LF of a text, or the whole text if it has none
abbrev pub last_line : List ℕ → List ℕ
last_line text = unwrap_or (last_or None (lines_of text)) []

-- there is something behind the last LF, and it is not the line that begins a script
abbrev pub has_open_end : List ℕ → Bool
has_open_end text = nat_lt 0 (length (last_line text)) && not (is_parting (last_line text))

-- the line that says so
abbrev pub open_end_line : List ℕ
open_end_line = codes "lrcman: the last line has no end: is the file whole?\n"

-- what is warned of the end of a bundle with so many scripts: that line, if the last line of the last script has no LF
abbrev pub end_warning : ℕ → List ℕ → List ℕ
end_warning scripts bundle = if nat_lt 0 scripts && has_open_end bundle then open_end_line else []

-- what is warned of these nodes and this bundle
abbrev pub warned_of : List NodeInfo → List ℕ → List ℕ
warned_of nodes bundle = warnings nodes ++ end_warning (length (scripts_of bundle)) bundle

-- this is what the check of an input warns of, if it ends with this status: nothing, unless the input passes all checks
abbrev pub IsWarned : List ℕ → List ℕ → Status → Type 0
IsWarned input text ended.Done =
    (nodes : List NodeInfo) × PassesAllChecks input nodes × (text ≡ warned_of nodes (bundle_part input))
IsWarned input text ended.BadLine = text ≡ []
IsWarned input text ended.Refused = text ≡ []
IsWarned input text ended.Unsafe = text ≡ []
