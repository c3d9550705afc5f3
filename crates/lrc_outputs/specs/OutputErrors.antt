-- Internal: no public clause reaches these definitions.
-- Why a call gives no answer: its input is refused, or a fault stopped it.
use Rattle.std.specs.Prelude.{◌≡◌, ℕ, List, []}
use Rattle.lrc_topology.specs.declared.error.TopologyError.{TopologyError}
use Rattle.lrc_topology.specs.declared.error.TopologyError.TheVariants as topology
use Rattle.lrc_image_text.specs.declared.error.ImageTextError.{ImageTextError}
use Rattle.lrc_image_text.specs.declared.error.ImageTextError.TheVariants as image
use Rattle.lrc_openings.specs.declared.error.OpenError.{OpenError}
use Rattle.lrc_openings.specs.declared.error.OpenError.TheVariants as opening
use Rattle.lrc_script.specs.declared.bundle.BundleError.{BundleError}
use Rattle.lrc_script.specs.declared.bundle.BundleError.TheVariants as bundle
use Rattle.lrc_script.specs.declared.script.ScriptError.{ScriptError}
use Rattle.lrc_script.specs.declared.script.ScriptError.TheVariants as script
use Rattle.lrc_streams.specs.declared.streams.RunFault.{RunFault}
use Rattle.lrc_streams.specs.declared.streams.RunFault.TheVariants as fault
use Rattle.lrc_refusals.specs.declared.refusal.InputRefusal.TheVariants as refusal
use Rattle.lrc_refusals.specs.Refusals.{refusal_line}
use Rattle.lrc_outputs.specs.declared.status.Status.{Status}
use Rattle.lrc_outputs.specs.declared.error.OutputError.{OutputError}
use Rattle.lrc_outputs.specs.declared.error.OutputError.TheVariants.{Refused, Fault}
use Rattle.lrc_outputs.specs.RefusedInputs.{refusal_status}
use Rattle.lrc_outputs.specs.Checks.{IsCheck, IsWarned}

-- ---- what is known of an error

-- the input is refused by a line and a status of which this holds, or a fault of which this holds stopped the call
abbrev pub IsStopped : (List ℕ → Status → Type 0) → (RunFault → Type 0) → OutputError → Type 0
IsStopped told stopped (Refused r) = told (refusal_line r) (refusal_status r)
IsStopped told stopped (Fault f) = stopped f

-- the same, where only want of memory stops the call
abbrev pub IsRefusedWith : (List ℕ → Status → Type 0) → OutputError → Type 0
IsRefusedWith told error = IsStopped told (λ f. f ≡ fault.OutOfMemory) error

-- the input is refused by this line and this status
abbrev pub IsLineFor : OutputError → List ℕ → Status → Type 0
IsLineFor (Refused r) text status = (text ≡ refusal_line r) × (status ≡ refusal_status r)
IsLineFor (Fault f) text status = ⊥

-- a check of this input writes this text and ends with this status, and it warns of nothing
abbrev pub IsCheckRefusal : List ℕ → List ℕ → Status → Type 0
IsCheckRefusal input text status = IsCheck input text status × IsWarned input [] status

-- ---- what errors of parts become

abbrev pub of_bundle : BundleError → OutputError
of_bundle bundle.TooManyScripts = Refused refusal.TooManyScripts
of_bundle bundle.OutOfMemory = Fault fault.OutOfMemory

abbrev pub of_topology : TopologyError → OutputError
of_topology topology.OutOfMemory = Fault fault.OutOfMemory
of_topology error = Refused (refusal.Topology error)

abbrev pub of_script : ScriptError → OutputError
of_script (script.Bad line cause) = Refused (refusal.Line line cause)
of_script script.OutOfMemory = Fault fault.OutOfMemory

abbrev pub of_image_text : ImageTextError → OutputError
of_image_text (image.BadLine line) = Refused (refusal.ImageLine line)
of_image_text image.OutOfMemory = Fault fault.OutOfMemory

abbrev pub of_opening : OpenError → OutputError
of_opening (opening.Nodes error) = of_topology error
of_opening (opening.Text error) = of_image_text error
of_opening (opening.Line line cause) = Refused (refusal.Row line cause)
of_opening opening.OutOfMemory = Fault fault.OutOfMemory
