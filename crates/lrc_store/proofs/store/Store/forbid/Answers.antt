use Rattle.lrc_store.proofs.store.Store.forbid.Goals as goal

pub returns : goal.returns
returns c = λ st kept known. c.is_wrong_for.ensures st c.args.node (c.mode.ensures st kept known) (c.is_down.ensures st kept known)
