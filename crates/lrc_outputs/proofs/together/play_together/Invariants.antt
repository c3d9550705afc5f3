use Rattle.lrc_outputs.proofs.together.play_together.Given as goal

abbrev pub ghosts-run_each-N-Naming : goal.ghosts-run_each-N-Naming
ghosts-run_each-N-Naming g a = record { count = a.parts.count }

abbrev pub ghosts-run_each-N-Ledger : goal.ghosts-run_each-N-Ledger
ghosts-run_each-N-Ledger g a = record { name = a.parts.name; parts = a.parts.shares }

abbrev pub ghosts-run_each-N-ViewNaming : goal.ghosts-run_each-N-ViewNaming
ghosts-run_each-N-ViewNaming g a = record { log = a.parts.log; start = a.parts.start; topology = a.parts.topology; limit = a.parts.limit }
