use Rattle.lrc_store.proofs.store.Store.empty_if_failed.Given as goal

abbrev pub ghost-empty : goal.ghost-empty
ghost-empty g a = g.st
