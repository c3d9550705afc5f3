-- Which fault of a run a fault of the book becomes.
use Rattle.lrc_code.specs.declared.fault.Fault.{Fault}
use Rattle.lrc_code.specs.declared.fault.Fault.TheVariants as book
use Rattle.lrc_streams.specs.declared.streams.RunFault.{RunFault}
use Rattle.lrc_streams.specs.declared.streams.RunFault.TheVariants as run

-- (internal) the fault of a run that was stopped by a fault of the book
abbrev pub run_fault : Fault → RunFault
run_fault book.OutOfMemory = run.OutOfMemory
run_fault book.HistoryFull = run.HistoryFull
