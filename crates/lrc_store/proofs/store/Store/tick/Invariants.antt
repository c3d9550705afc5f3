use Rattle.lrc_store.proofs.store.Store.tick.Given as goal

abbrev pub ghost-end_due : goal.ghost-end_due
ghost-end_due g a = g.st
