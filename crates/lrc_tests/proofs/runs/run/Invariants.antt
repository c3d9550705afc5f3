use Rattle.lrc_tests.proofs.runs.run.Given as goal

abbrev pub ghosts-run_all-N-Naming : goal.ghosts-run_all-N-Naming
ghosts-run_all-N-Naming g a = record { count = a.parts.count }

abbrev pub ghosts-run_all-N-Ledger : goal.ghosts-run_all-N-Ledger
ghosts-run_all-N-Ledger g a = record { name = a.parts.name; parts = a.parts.shares }

abbrev pub ghosts-run_all-N-ViewNaming : goal.ghosts-run_all-N-ViewNaming
ghosts-run_all-N-ViewNaming g a = record { log = a.parts.log; start = a.parts.start; topology = a.parts.topology; limit = a.parts.limit }
