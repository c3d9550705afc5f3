use Rattle.probes.proofs.growth.keepers.open_once.Given as goal

abbrev pub ghosts-open_over : goal.ghosts-open_over
ghosts-open_over g a = record { log = a.log.prefix.book; start = a.log.permit.nib.key; topology = a.book.nodes; limit = a.book.limit }
