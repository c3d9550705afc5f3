-- What is written for a sequel, and how it ends: an image of a state, or none, and a bundle behind it.
use Rattle.std.specs.Prelude.{◌≡◌, ◌≢◌, ◌⊎◌, ℕ, ◌+◌, ◌≤◌, min, Bool, true, false, not, ◌&&◌, if◌then◌else◌, nat_lt, nat_eq}
use Rattle.std.specs.Prelude.{List, [], ◌∷◌, length, take, drop, count_by, All, slice_index, codes}
use Rattle.std.specs.Prelude.{Option, Some, None, Result, Ok, Err}
use Rattle.std.specs.List.{starts_with}
use Rattle.std.specs.Char.{is_ascii_digit}
use Rattle.lrc_code.specs.declared.numbers.UpgradeNo.{UpgradeNo}
use Rattle.lrc_topology.specs.declared.NodeInfo.{NodeInfo}
use Rattle.lrc_rules.specs.declared.command.Command.{Command}
use Rattle.lrc_rules.specs.Histories.{World, first_world, IsLegalFrom}
use Rattle.lrc_rules.specs.Sessions.{commands_of_each}
use Rattle.lrc_images.specs.declared.cause.Cause.{Cause}
use Rattle.lrc_images.specs.declared.image.Image.{Image}
use Rattle.lrc_images.specs.Images.{image_world}
use Rattle.lrc_images.specs.Causes.{first_cause}
use Rattle.lrc_image_text.specs.Texts.{image_text, IsWritten, IsBadLine}
use Rattle.lrc_book.specs.Books.{BookView, state_of, IsSpent, IsImageOfBook}
use Rattle.lrc_forecast.specs.declared.outlook.Outage.{Outage}
use Rattle.lrc_forecast.specs.declared.outlook.Outlook.{Outlook}
use Rattle.lrc_forecast.specs.Forecasts.{forecast, harms_none}
use Rattle.lrc_groups.specs.declared.named.Named.{Named}
use Rattle.lrc_groups.specs.Groups.{numbers_in, first_lacking, lacking_line}
use Rattle.lrc_show.specs.declared.view.View.{View}
use Rattle.lrc_show.specs.Shown.{view_text, tells_danger, forecast_text}
use Rattle.lrc_script.specs.Scripts.{lines_of, same_text}
use Rattle.lrc_script.specs.Bundles.{Script}
use Rattle.lrc_outputs.specs.declared.sequel.Goal.{Goal}
use Rattle.lrc_outputs.specs.declared.sequel.Goal.TheVariants as to
use Rattle.lrc_outputs.specs.declared.status.Status.{Status}
use Rattle.lrc_outputs.specs.declared.status.Status.TheVariants as ended
use Rattle.lrc_outputs.specs.Limits.{sequel_limit}
use Rattle.lrc_refusals.specs.declared.refusal.InputRefusal.TheVariants as refusal
use Rattle.lrc_refusals.specs.Refusals.{refusal_line}
use Rattle.lrc_outputs.specs.RefusedInputs.{bad_line_text_behind, bad_image_text, refused_row_text}
use Rattle.lrc_outputs.specs.Outputs.{Judging, IsAnsweredIn, AreCommandsOf, IsPlayedFrom}

-- ---- the parts of a sequel

-- the line that ends an image
abbrev pub is_end : List ℕ → Bool
is_end line = same_text line (codes "end")

-- how many bytes these lines have up to the first line `end`, or all of them, each with an LF
abbrev pub bytes_to_end : List (List ℕ) → ℕ
bytes_to_end [] = 0
bytes_to_end (line ∷ lines) = length line + 1 + (if is_end line then 0 else bytes_to_end lines)

-- A sequel has an image if it begins with `image ` and a digit, as no topology does. (A byte that is not there counts
-- as 0.)
abbrev pub has_image : List ℕ → Bool
has_image sequel = starts_with nat_eq sequel (codes "image ") && is_ascii_digit (slice_index sequel 6)

-- How many bytes of a sequel are the text of its image: none if it has none, and else all up to its first line `end`,
-- that line included, or the whole sequel if it has no such line.
abbrev pub image_size : List ℕ → ℕ
image_size sequel = if has_image sequel then min (bytes_to_end (lines_of sequel)) (length sequel) else 0

-- the text of its image
abbrev pub image_part : List ℕ → List ℕ
image_part sequel = take (image_size sequel) sequel

-- the bundle behind it
abbrev pub bundle_part : List ℕ → List ℕ
bundle_part sequel = drop (image_size sequel) sequel

-- the number of lines before the bundle
abbrev pub lines_before : List ℕ → ℕ
lines_before sequel = count_by (λ b. nat_eq b 10) (image_part sequel)

-- ---- where the book of a sequel begins

-- The text is read as an image with this outcome: none if the text is empty, the image, or the number of its first bad
-- line.
abbrev pub ReadsImage : List ℕ → Result (Option Image) ℕ → Type 0
ReadsImage text (Ok None) = text ≡ []
ReadsImage text (Ok (Some i)) = IsWritten i × (text ≡ image_text i)
ReadsImage text (Err line) = (text ≢ []) × IsBadLine text line

-- the world in which a book begins, the number of entries of the store before it, the domain that is upgrading in it,
-- and the first row over these nodes that is wrong, with its cause
pub record Start : Type 0 where
  pub base : World
  pub before : ℕ
  pub upgrading : Option UpgradeNo
  pub cause_over : List NodeInfo → Option (ℕ × Cause)

-- the start of a book in this image, or of an empty store
abbrev pub start_in : Option Image → Start
start_in None = record { base = first_world; before = 0; upgrading = None; cause_over = λ nodes. None }
start_in (Some i) = record {
  base = image_world i;
  before = i.before;
  upgrading = i.upgrading;
  cause_over = λ nodes. first_cause nodes i;
}

-- ---- the answer to a sequel: that of the first check that fails, or the one that it gets where all pass

-- what is written for these nodes and scripts, in a book that begins here, and how it ends
abbrev pub Going : Type 1
Going = List NodeInfo → Start → List Script → List ℕ → Status → Type 0

-- after the check of the image's rows, of which one was refused, or none
abbrev pub IsBegunUnless : Going → Option (ℕ × Cause) → List NodeInfo → Start → List Script → List ℕ → Status → Type 0
IsBegunUnless going (Some found) nodes start scripts text status =
    (text ≡ refused_row_text start.upgrading found) × (status ≡ ended.Refused)
IsBegunUnless going None nodes start scripts text status = going nodes start scripts text status

-- The way to judge the bundle of a sequel: it has at most one script, and its lines are counted behind those of the
-- image. The rows of the image are checked after it.
abbrev pub sequel_judging : Going → Start → ℕ → Judging
sequel_judging going start passed =
    record {
      most = 1;
      bad_text = bad_line_text_behind passed;
      ending = λ nodes scripts text status.
          IsBegunUnless going (start.cause_over nodes) nodes start scripts text status;
    }

-- after the check of the image's text, with its outcome
abbrev pub IsToldAfter : Going → Result (Option Image) ℕ → List ℕ → List ℕ → Status → Type 0
IsToldAfter going (Err line) sequel text status = (text ≡ bad_image_text line) × (status ≡ ended.Refused)
IsToldAfter going (Ok image) sequel text status =
    IsAnsweredIn (sequel_judging going (start_in image) (lines_before sequel)) (bundle_part sequel) text status

-- after the check of the sequel's length, which is too long or not
abbrev pub IsToldUnless : Going → Bool → List ℕ → List ℕ → Status → Type 0
IsToldUnless going true sequel text status = (text ≡ codes "bundle 1\n") × (status ≡ ended.Refused)
IsToldUnless going false sequel text status =
    (outcome : Result (Option Image) ℕ) × ReadsImage (image_part sequel) outcome
    × IsToldAfter going outcome sequel text status

-- the sequel is answered by this text and this status
abbrev pub IsTold : Going → List ℕ → List ℕ → Status → Type 0
IsTold going sequel text status = IsToldUnless going (nat_lt sequel_limit (length sequel)) sequel text status

-- ---- the goals

-- the text of the image of a book's state, unless no book can begin in it
abbrev pub IsImaged : BookView → List ℕ → Status → Type 0
IsImaged b text status =
    (IsSpent b × (text ≡ refusal_line refusal.FullImage) × (status ≡ ended.Refused))
    ⊎ ((IsSpent b → ⊥) × (status ≡ ended.Done) × (i : Image) × IsImageOfBook b i × (text ≡ image_text i))

-- how a command ends that tells whether a store is safe
abbrev pub safety_status : Bool → Status
safety_status true = ended.Done
safety_status false = ended.Unsafe

-- the table of a book's state that is asked for, and whether it tells of danger
abbrev pub IsTable : View → BookView → List ℕ → Status → Type 0
IsTable view b text status =
    (text ≡ view_text view b.nodes (state_of b) (b.before + length b.history)) × (status ≡ safety_status (not (tells_danger view b.nodes (state_of b))))

-- what would become of the stripes in a book's state if this happened to all nodes that are named
abbrev pub forecast_of : Outage → List Named → BookView → List Outlook
forecast_of outage named b = forecast b.nodes (state_of b) outage (numbers_in b.nodes named)

-- the table of that, and whether it is safe
abbrev pub IsForecast : Outage → List Named → BookView → List ℕ → Status → Type 0
IsForecast outage named b text status =
    let rows = forecast_of outage named b in ((text ≡ forecast_text rows) × (status ≡ safety_status (harms_none rows)))

-- the book began here, and in its history the sessions made the commands of their scripts, in order, and it has no
-- other entries
pub record IsMadeFrom (nodes : List NodeInfo) (base : World) (before : ℕ) (scripts : List (List Command))
    (b : BookView) : Type 0 where
  pub over : b.nodes ≡ nodes
  pub begun : b.base ≡ base
  pub before_is : b.before ≡ before
  pub legal : IsLegalFrom b.nodes b.base b.history
  pub made : commands_of_each (length scripts) b.history ≡ scripts
  pub only : All (λ e. e.session.value ≤ length scripts) b.history

-- What is written of a forecast after scripts with these commands: that no node has one of those named, or the table of
-- the forecast.
abbrev pub IsForecastUnless : Option Named → Outage → List Named
    → List NodeInfo → World → ℕ → List (List Command) → List ℕ → Status → Type 0
IsForecastUnless (Some lacks) outage named nodes base before lists text status =
    (text ≡ lacking_line lacks) × (status ≡ ended.Refused)
IsForecastUnless None outage named nodes base before lists text status =
    (b : BookView) × IsMadeFrom nodes base before lists b × IsForecast outage named b text status

-- What is written of scripts with these commands, from this world on, before which the store had `before` entries: what
-- `run` writes, with places after those entries and the tables after the last command; or the image, or a table, or a
-- forecast, of the state after the scripts.
abbrev pub IsReached : Goal → List NodeInfo → World → ℕ → List (List Command) → List ℕ → Status → Type 0
IsReached to.Replies nodes base before lists text status =
    IsPlayedFrom nodes base before lists text × (status ≡ ended.Done)
IsReached to.Image nodes base before lists text status =
    (b : BookView) × IsMadeFrom nodes base before lists b × IsImaged b text status
IsReached (to.Table view) nodes base before lists text status =
    (b : BookView) × IsMadeFrom nodes base before lists b × IsTable view b text status
IsReached (to.Forecast outage named) nodes base before lists text status =
    IsForecastUnless (first_lacking nodes named.now) outage named.now nodes base before lists text status

-- the same of scripts with these lines, in a book that begins here
abbrev pub going_to : Goal → Going
going_to goal nodes start scripts text status =
    (lists : List (List Command)) × AreCommandsOf scripts lists
    × IsReached goal nodes start.base start.before lists text status

-- ---- what is written

-- going on from this sequel to this goal writes this text and ends with this status
abbrev pub IsSequelOutput : Goal → List ℕ → List ℕ → Status → Type 0
IsSequelOutput goal sequel text status = IsTold (going_to goal) sequel text status
