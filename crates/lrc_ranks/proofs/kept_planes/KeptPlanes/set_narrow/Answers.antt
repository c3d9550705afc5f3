use Rattle.lrc_ranks.proofs.kept_planes.KeptPlanes.set_narrow.Goals as goal

pub returns-clause-narrow : goal.returns-clause-narrow
returns-clause-narrow c = rw (← c.self.view_is) c.set.ensures
