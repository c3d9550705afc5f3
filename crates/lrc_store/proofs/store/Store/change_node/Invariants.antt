use Rattle.lrc_store.proofs.store.Store.change_node.Given as goal

abbrev pub ghost-empty_if_failed : goal.ghost-empty_if_failed
ghost-empty_if_failed g a = g.st
