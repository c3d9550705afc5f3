use Rattle.lrc_tests.proofs.sessions.scenes.stage.Given as goal

abbrev pub ghosts-play-N-Naming : goal.ghosts-play-N-Naming
ghosts-play-N-Naming g a = record { count = a.parts.count }

abbrev pub ghosts-play-N-Ledger : goal.ghosts-play-N-Ledger
ghosts-play-N-Ledger g a = record { name = a.parts.name; parts = a.parts.shares }

abbrev pub ghosts-play-N-ViewNaming : goal.ghosts-play-N-ViewNaming
ghosts-play-N-ViewNaming g a = record { log = a.parts.log; start = a.parts.start; topology = a.parts.topology; limit = a.parts.limit }
