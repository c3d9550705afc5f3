use Rattle.lrc_ranks.proofs.kept_planes.KeptPlanes.set_work.Goals as goal

pub returns-clause-work : goal.returns-clause-work
returns-clause-work c = rw (← c.self.view_is) c.set.ensures
