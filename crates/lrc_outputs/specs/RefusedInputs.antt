-- The lines for bad lines of scripts and for refused images, and how a call ends that refuses its input.
use Rattle.std.specs.Prelude.{ℕ, ◌+◌, Bool, true, false, List, Option}
use Rattle.lrc_code.specs.declared.numbers.UpgradeNo.{UpgradeNo}
use Rattle.lrc_images.specs.declared.cause.Cause.{Cause as RowCause}
use Rattle.lrc_image_text.specs.Texts.{row_line}
use Rattle.lrc_script.specs.Scripts.{BadLine}
use Rattle.lrc_refusals.specs.declared.refusal.InputRefusal.{InputRefusal}
use Rattle.lrc_refusals.specs.declared.refusal.InputRefusal.TheVariants as refusal
use Rattle.lrc_refusals.specs.Refusals.{refusal_line}
use Rattle.lrc_outputs.specs.declared.status.Status.{Status}
use Rattle.lrc_outputs.specs.declared.status.Status.TheVariants as ended

-- the line for a bad line of a script
abbrev pub bad_line_text : BadLine → List ℕ
bad_line_text bad = refusal_line (refusal.Line bad.line bad.cause)

-- the same for a bundle that stands behind so many lines
abbrev pub bad_line_text_behind : ℕ → BadLine → List ℕ
bad_line_text_behind passed bad = bad_line_text (record { line = passed + bad.line; cause = bad.cause })

-- the line for a bad line of an image's text
abbrev pub bad_image_text : ℕ → List ℕ
bad_image_text line = refusal_line (refusal.ImageLine line)

-- the line for an image whose row at a position is refused for a cause
abbrev pub refused_row_text : Option UpgradeNo → ℕ × RowCause → List ℕ
refused_row_text upgrading found = refusal_line (refusal.Row (row_line upgrading found.0 found.1) found.1)

-- (internal) how a call ends that refuses its input
abbrev pub refusal_status : InputRefusal → Status
refusal_status refusal.TooLong = ended.Refused
refusal_status refusal.TooManyScripts = ended.Refused
refusal_status (refusal.Topology _) = ended.Refused
refusal_status (refusal.Line _ _) = ended.BadLine
refusal_status (refusal.ImageLine _) = ended.Refused
refusal_status (refusal.Row _ _) = ended.Refused
refusal_status refusal.FullImage = ended.Refused
refusal_status (refusal.Lacking _) = ended.Refused

-- the input was answered, not refused
abbrev pub is_answer : Status → Bool
is_answer ended.Done = true
is_answer ended.BadLine = false
is_answer ended.Refused = false
is_answer ended.Unsafe = true
