use Rattle.probes.proofs.growth.managers.try_call.Given as goal

abbrev pub ghosts-try_of-N-Naming : goal.ghosts-try_of-N-Naming
ghosts-try_of-N-Naming g a = record { count = a.parts.count }

abbrev pub ghosts-try_of-N-Ledger : goal.ghosts-try_of-N-Ledger
ghosts-try_of-N-Ledger g a = record { name = a.parts.name; parts = a.parts.shares }

abbrev pub ghosts-try_of-N-ViewNaming : goal.ghosts-try_of-N-ViewNaming
ghosts-try_of-N-ViewNaming g a = record { log = a.parts.log; start = a.parts.start; topology = a.parts.topology; limit = a.parts.limit }
