-- Internal: no public clause reaches these definitions.
-- Which of several scripts' faults is reported.
use Rattle.std.specs.Prelude.{List, [], ◌∷◌, Option, Some, None}
use Rattle.std.specs.Option.{option_or}
use Rattle.lrc_code.specs.declared.fault.Fault.{Fault}
use Rattle.lrc_sessions.specs.declared.track.Stop.{Stop}
use Rattle.lrc_sessions.specs.declared.track.Stop.TheVariants as stop
use Rattle.lrc_sessions.specs.declared.track.Track.{Track}

-- the fault that a script was stopped by, if it was by one
abbrev pub stop_fault : Option Stop → Option Fault
stop_fault (Some (stop.Fault f)) = Some f
stop_fault (Some stop.Gate) = None
stop_fault None = None

-- the fault of the first of these scripts that a fault stopped
abbrev pub first_fault : List Track → Option Fault
first_fault [] = None
first_fault (t ∷ ts) = option_or (stop_fault t.stopped) (first_fault ts)
