use Rattle.lrc_store.proofs.store.Store.empty.Goals as goal

pub clear_homes-requires : goal.clear_homes-requires
clear_homes-requires g c = (c.end_targets.ensures.kept, rw c.end_targets.ensures.nodes c.requires.1)
