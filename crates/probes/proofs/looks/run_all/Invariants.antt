use Rattle.probes.proofs.looks.run_all.Given as goal

abbrev pub ghosts-run_concurrently-N-Naming : goal.ghosts-run_concurrently-N-Naming
ghosts-run_concurrently-N-Naming g a = record { count = a.parts.count }

abbrev pub ghosts-run_concurrently-N-Ledger : goal.ghosts-run_concurrently-N-Ledger
ghosts-run_concurrently-N-Ledger g a = record { name = a.parts.name; parts = a.parts.shares }

abbrev pub ghosts-run_concurrently-N-ViewNaming : goal.ghosts-run_concurrently-N-ViewNaming
ghosts-run_concurrently-N-ViewNaming g a = record { log = a.parts.log; start = a.parts.start; topology = a.parts.topology; limit = a.parts.limit }
