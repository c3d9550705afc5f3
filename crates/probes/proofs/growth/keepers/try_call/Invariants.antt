use Rattle.probes.proofs.growth.keepers.try_call.Given as goal

abbrev pub ghosts-try_over : goal.ghosts-try_over
ghosts-try_over g a = record { log = a.log.prefix.book; start = a.log.permit.nib.key; topology = a.book.nodes; limit = a.book.limit }
