use Rattle.lrc_store.proofs.store.Store.empty.Given as goal

abbrev pub ghost-end_targets : goal.ghost-end_targets
ghost-end_targets g a = g.st

abbrev pub ghost-clear_homes : goal.ghost-clear_homes
ghost-clear_homes g a = g.st
