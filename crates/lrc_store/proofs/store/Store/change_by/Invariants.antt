use Rattle.lrc_store.proofs.store.Store.change_by.Given as goal

abbrev pub ghost-place : goal.ghost-place
ghost-place g a = g.st

abbrev pub ghost-drop_stripe : goal.ghost-drop_stripe
ghost-drop_stripe g a = g.st

abbrev pub ghost-change_node : goal.ghost-change_node
ghost-change_node g a = g.st

abbrev pub ghost-move_in : goal.ghost-move_in
ghost-move_in g a = g.st

abbrev pub ghost-upgraded : goal.ghost-upgraded
ghost-upgraded g a = g.st

abbrev pub ghost-tick : goal.ghost-tick
ghost-tick g a = g.st
