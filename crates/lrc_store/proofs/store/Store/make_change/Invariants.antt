use Rattle.lrc_store.proofs.store.Store.make_change.Given as goal

abbrev pub ghost-change_by : goal.ghost-change_by
ghost-change_by g a = g.st
