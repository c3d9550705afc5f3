use Rattle.probes.proofs.growth.managers.open_once.Given as goal

abbrev pub ghosts-open_of-N-Naming : goal.ghosts-open_of-N-Naming
ghosts-open_of-N-Naming g a = record { count = a.parts.count }

abbrev pub ghosts-open_of-N-Ledger : goal.ghosts-open_of-N-Ledger
ghosts-open_of-N-Ledger g a = record { name = a.parts.name; parts = a.parts.shares }

abbrev pub ghosts-open_of-N-ViewNaming : goal.ghosts-open_of-N-ViewNaming
ghosts-open_of-N-ViewNaming g a = record { log = a.parts.log; start = a.parts.start; topology = a.parts.topology; limit = a.parts.limit }
